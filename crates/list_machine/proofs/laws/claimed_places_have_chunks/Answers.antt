-- What was claimed was granted, and what was granted has its chunk.
use Rattle.list_machine.proofs.Knowledge.{claim_has_chunk}
use Rattle.list_machine.proofs.laws.claimed_places_have_chunks.Goals as goal

pub returns : goal.returns
returns c = λ s j l i q from v sound. claim_has_chunk s.words s.owner s.guests sound j l i q from v
