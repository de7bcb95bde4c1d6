-- Facts are true of one state of the words.
use Rattle.list_machine.proofs.Knowledge.{one_item, no_item}
use Rattle.list_machine.proofs.laws.facts_agree.Goals as goal

pub returns : goal.returns
returns c = record {
  one = λ s l h c k x y p q sound. one_item s.words s.owner s.guests sound l h c k x y p q;
  none = λ s l h c k x p q sound. no_item s.words s.owner s.guests sound l h c k x p q;
}
