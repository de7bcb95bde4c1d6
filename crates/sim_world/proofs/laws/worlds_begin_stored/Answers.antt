use Rattle.std.proofs.Common.{refl}
use Rattle.sim_world.proofs.OpeningLaws.{stored}
use Rattle.sim_world.proofs.laws.worlds_begin_stored.Goals as goal

pub returns : goal.returns
returns c = record {
  run = λ job. refl;
  stored = stored;
}
