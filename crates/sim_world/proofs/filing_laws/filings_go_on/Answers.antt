use Rattle.sim_world.proofs.FilingLaws.{next_legal}
use Rattle.sim_world.proofs.FilingStepLaws.{filing_goes_on}
use Rattle.sim_world.proofs.filing_laws.filings_go_on.Goals as goal

pub returns : goal.returns
returns c = record {
  run = λ w a bs f t ts sound is. next_legal w a bs f sound is t ts;
  filing = λ w a bs f t ts is todo. filing_goes_on w a bs f is t ts todo;
}
