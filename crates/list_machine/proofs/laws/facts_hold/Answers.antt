-- The rule says it of each fact.
use Rattle.list_machine.proofs.Knowledge.{owner_holds, guest_holds}
use Rattle.list_machine.proofs.laws.facts_hold.Goals as goal

pub returns : goal.returns
returns c = record {
  owner = λ s q f sound. owner_holds s.words s.owner s.guests sound q f;
  guests = λ s j q v f sound. guest_holds s.words s.owner s.guests sound j q v f;
}
