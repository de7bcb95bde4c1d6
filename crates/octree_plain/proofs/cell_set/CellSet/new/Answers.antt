use Rattle.std.proofs.Common.{◌≡◌}
use Rattle.octree_plain.proofs.Words.{no_marks, all_copies}
use Rattle.octree_plain.proofs.cell_set.CellSet.new.Goals as goal

pub returns : goal.returns
returns c = no_marks c.in_ok-vec.field-0.items (all_copies 0 (λ x y. y ≡ x) (λ y h. h) c.in_ok-vec.field-0.items c.in_ok-vec.ensures.items)
