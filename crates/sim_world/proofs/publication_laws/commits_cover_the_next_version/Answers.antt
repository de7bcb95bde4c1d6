use Rattle.std.proofs.Common.{refl}
use Rattle.sim_world.specs.Decisions.{published_with}
use Rattle.sim_world.specs.Publications.{next_rows, next_version}
use Rattle.sim_world.proofs.CommitLaws.{commit_covers_next}
use Rattle.sim_world.proofs.DecisionLaws.{next_are}
use Rattle.sim_world.proofs.publication_laws.commits_cover_the_next_version.Goals as goal

pub returns : goal.returns
returns c = record {
  leaves = λ job w b is. next_are job w b is;
  covers = λ job w a b f is sound all.
      commit_covers_next w.lists f.seat job.config.leaf job.config.cube (published_with w b) (next_rows job w b) (next_version job w a b f) sound
      (next_are job w b is) refl all;
}
