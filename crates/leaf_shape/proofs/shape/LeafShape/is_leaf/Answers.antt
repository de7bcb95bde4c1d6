use Rattle.std.proofs.Common.{IsTrue, ap, arith, length, subst}
use Rattle.leaf_shape.specs.Shapes.{IsSplit, ShapeValue, path_of}
use Rattle.leaf_shape.proofs.WalkLaws.{leaf_told}
use Rattle.leaf_shape.proofs.shape.LeafShape.is_leaf.Goals as goal

pub returns : goal.returns
returns c =
    let split : ShapeValue → Type 0 = λ s. IsSplit s.paths (path_of s.paths c.args.list) in
    let P : ShapeValue → Type 0 = λ s. (IsTrue c.is_none.result → split s → ⊥) × ((split s → ⊥) → IsTrue c.is_none.result) in
    subst P c.self.view_is
    (leaf_told c.self.invariant.placed c.args.list c.index-place.result.now c.index.result.now c.is_none.result
    (omega (arith, ap (λ (s : ShapeValue). length s.paths) c.self.view_is, c.requires)) c.index-place.ensures c.index.ensures c.is_none.ensures)
