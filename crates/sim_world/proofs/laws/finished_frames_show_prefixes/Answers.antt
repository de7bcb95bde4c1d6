use Rattle.sim_world.specs.Worlds.{opening_world}
use Rattle.sim_world.proofs.LookTimeLaws.{run_timed, opening_timed}
use Rattle.sim_world.proofs.OpeningLaws.{viewed}
use Rattle.sim_world.proofs.ViewerLaws.{run_viewed}
use Rattle.sim_world.proofs.laws.finished_frames_show_prefixes.Goals as goal

pub returns : goal.returns
returns c = record {
  shown = λ job schedule i x stored. (run_viewed job (opening_world job) schedule stored (viewed job)).shown i x;
  look = λ job schedule i x stored. (run_timed job (opening_world job) schedule stored (opening_timed job)).views i x;
}
