use Rattle.std.proofs.Common.{◌∙◌, length, sym}
use Rattle.leaf_items.proofs.OpenLaws.{moved_new, moved_none}
use Rattle.leaf_items.proofs.ValueLaws.{dealt_still, items_same}
use Rattle.leaf_items.proofs.laws.openings_move_items.Goals as goal

pub returns-clause-new : goal.returns-clause-new
returns-clause-new c = λ value parts part dealt placed low.
    moved_new (length value.born) parts.list 0 part value.leaf parts.aims placed ∙ sym (dealt.picked.each part low)

pub returns-clause-none : goal.returns-clause-none
returns-clause-none c = λ value parts dealt. moved_none (length value.born) parts.list 0 value.leaf parts.aims dealt.opened dealt.picked.many

pub returns-clause-others : goal.returns-clause-others
returns-clause-others c = λ value parts list low other. items_same value parts list low other

pub returns-clause-dealt : goal.returns-clause-dealt
returns-clause-dealt c = λ value parts other dealt apart. dealt_still value parts other dealt apart
