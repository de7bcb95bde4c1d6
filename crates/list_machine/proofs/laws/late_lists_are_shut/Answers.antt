-- The bit says that the list is shut, and an open list has no marks.
use Rattle.list_machine.proofs.Knowledge.{closed_is_shut, empty_is_shut, guest_closed_is_shut, guest_empty_is_shut}
use Rattle.list_machine.proofs.laws.late_lists_are_shut.Goals as goal

pub returns : goal.returns
returns c = record {
  closed = λ s l q a sound. closed_is_shut s.words s.owner s.guests sound l q a;
  empty = λ s l c k q a sound. empty_is_shut s.words s.owner s.guests sound l c k q a;
  guests_closed = λ s j l q v a sound. guest_closed_is_shut s.words s.owner s.guests sound j l q v a;
  guests_empty = λ s j l c k q v a sound. guest_empty_is_shut s.words s.owner s.guests sound j l c k q v a;
}
