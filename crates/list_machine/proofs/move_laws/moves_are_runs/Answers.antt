-- Each kind of move has its step.
use Rattle.list_machine.proofs.Keeping.{run_sound}
use Rattle.list_machine.proofs.WordsLeft.{move_run}
use Rattle.list_machine.proofs.move_laws.moves_are_runs.Goals as goal

pub returns : goal.returns
returns c = record {
  run = move_run;
  rule = λ s t sound left move. run_sound s t sound (move_run s t sound left move);
}
