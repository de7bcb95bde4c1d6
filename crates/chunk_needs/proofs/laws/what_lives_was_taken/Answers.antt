use Rattle.chunk_needs.proofs.TakenLaws.{live_taken}
use Rattle.chunk_needs.proofs.laws.what_lives_was_taken.Goals as goal

pub returns : goal.returns
returns c = live_taken
