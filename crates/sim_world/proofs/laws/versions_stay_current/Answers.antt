use Rattle.sim_world.proofs.KeepLaws.{stays_current}
use Rattle.sim_world.proofs.laws.versions_stay_current.Goals as goal

pub returns : goal.returns
returns c job w a now quiet = stays_current job w a now quiet
