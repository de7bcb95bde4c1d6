use Rattle.std.proofs.Common.{◌≡◌, ◌∙◌, ◌+◌, Some, ap, arith, length, ℕ}
use Rattle.leaf_items.proofs.ValueLaws.{goes, stays}
use Rattle.leaf_items.proofs.laws.dealt_items_go_where_they_aim.Goals as goal

none_more : (i : ℕ) → i ≡ 0 + i
none_more i = omega arith

pub returns-clause-goes : goal.returns-clause-goes
returns-clause-goes c = λ value parts place item aim at aims_at.
    goes (length value.born) parts.list 0 value.leaf parts.aims place item aim (at ∙ ap Some (none_more item)) aims_at

pub returns-clause-stays : goal.returns-clause-stays
returns-clause-stays c = λ value parts item list at other. stays (length value.born) parts.list value.leaf parts.aims item list at other
