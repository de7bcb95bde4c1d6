-- A fact of a slot is within its list.
use Rattle.list_machine.proofs.Knowledge.{owner_has_chunk, guest_has_chunk}
use Rattle.list_machine.proofs.laws.items_stand_in_chains.Goals as goal

pub returns : goal.returns
returns c = record {
  owner = λ s l c k x q sound. owner_has_chunk s.words s.owner s.guests sound l c k x q;
  guests = λ s j l c k x q v sound. guest_has_chunk s.words s.owner s.guests sound j l c k x q v;
}
