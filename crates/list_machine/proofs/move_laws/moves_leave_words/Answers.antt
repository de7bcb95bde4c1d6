-- The last clear frees the chunks.
use Rattle.list_machine.proofs.WordsLeft.{opening_left, move_left}
use Rattle.list_machine.proofs.move_laws.moves_leave_words.Goals as goal

pub returns : goal.returns
returns c = record {
  start = opening_left;
  kept = move_left;
}
