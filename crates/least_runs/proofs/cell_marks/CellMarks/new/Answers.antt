use Rattle.std.proofs.Common.{◌≡◌, arith, length}
use Rattle.octree_plain.proofs.Words.{no_marks, all_copies}
use Rattle.least_runs.proofs.MarkLaws.{all_clear, zeros}
use Rattle.least_runs.proofs.cell_marks.CellMarks.new.Goals as goal

pub invariant_of-result : goal.invariant_of-result
invariant_of-result c =
    let words : length c.in_ok-vec.field-0.items ≡ 32768 = omega (arith, c.in_ok-vec.ensures.len, c.in_ok-vec.field-0.ok) in
    let upper : length c.in_ok-vec-2.field-0.items ≡ 512 = omega (arith, c.in_ok-vec-2.ensures.len, c.in_ok-vec-2.field-0.ok) in
    all_clear c.in_ok-vec.field-0.items c.in_ok-vec-2.field-0.items words upper
    (zeros c.in_ok-vec.field-0.items (all_copies 0 (λ x y. y ≡ x) (λ y h. h) c.in_ok-vec.field-0.items c.in_ok-vec.ensures.items))

pub returns : goal.returns
returns c = no_marks c.in_ok-vec.field-0.items (all_copies 0 (λ x y. y ≡ x) (λ y h. h) c.in_ok-vec.field-0.items c.in_ok-vec.ensures.items)
