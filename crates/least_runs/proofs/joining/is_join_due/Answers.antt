use Rattle.std.proofs.Common.{◌+◌, ◌∙◌, List, length, ap, refl}
use Rattle.voxel_sampler.specs.Nears.{NearValue}
use Rattle.least_runs.proofs.JoiningLaws.{enough_entries}
use Rattle.least_runs.proofs.joining.is_join_due.Goals as goal

pub returns-then-entries-room : goal.returns-then-entries-room
returns-then-entries-room c = (
  λ yes. enough_entries (λ run. length run.value) c.args.runs.now c.in-Some.behind.now c.in-Some.first.now c.run-item.result c.loop-run.run-index c.loop-run.room _ _ c.in-Some.ensures.cases.0 c.loop-run-test.true c.run-item.is
      (ap (λ (ns : List NearValue). length ns) (c.nears-in-loop-run.ensures.list ∙ c.deref-in-loop-run.ensures)) c.loop-run.invariant.room
      (ap (λ (ns : List NearValue). length ns + 1024) (c.nears.ensures.list ∙ c.deref.ensures)) c.if-entries-room.true,
  λ due. refl,
)
