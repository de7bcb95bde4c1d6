use Rattle.std.proofs.Common.{◌≡◌, ◌∙◌, ◌+◌, ◌-◌, ◌≤◌, [], List, ℕ, ap, arith, sym, drop, length}
use Rattle.std.specs.Prelude.{All}
use Rattle.std.proofs.lemmas.List.Elements.{All-drop, All-from_get_or, All-same, All-take}
use Rattle.cube_math.specs.Cubes.{CubeValue}
use Rattle.leaf_shape.specs.Shapes.{ShapeValue}
use Rattle.leaf_shape.proofs.WalkLaws.{fit_of}
use Rattle.leaf_shape.proofs.shape.LeafShape.catch_up.Goals as goal

pub reserve-requires : goal.reserve-requires
reserve-requires c =
    let P : List ℕ → Type 0 = λ path. length path + 7 ≤ c.args.self.now.cube.bits in
    let bits : c.newer.inside.cube.bits ≡ c.args.self.now.cube.bits =
    sym (ap (λ (k : CubeValue). k.bits) (c.is_same_cube.ensures.0 c.if-not-is_same_cube.false)) ∙ ap (λ (s : ShapeValue). s.cube.bits) c.self.view_is in
    let all : All P c.deref.result.now =
    All-same P c.deref.result.now c.newer.inside.paths.items c.deref.ensures.value
    (All-from_get_or P c.newer.inside.paths.items []
    (λ i low. omega (arith, bits, (fit_of c.newer.invariant.placed i low).fits))) in
    All-take P (length c.deref.result.now - c.min-known.result) (drop c.min-known.result c.deref.result.now)
    (All-drop P c.min-known.result c.deref.result.now all)
