use Rattle.std.proofs.Common.{◌≡◌, ◌-◌, ◌<◌, ◌∙◌, length, get_or, List, ap, arith, rules, subst, sym}
use Rattle.octree_model.specs.Shapes.{IsOctreeIn}
use Rattle.octree_model.specs.declared.tree.Tree.{Tree}
use Rattle.cube_math.specs.Cubes.{CubeValue}
use Rattle.std.proofs.lemmas.List.{length_push}
use Rattle.octree_model.proofs.ShapeLaws.{IsInnerIn, inner_in}
use Rattle.octree_plain.proofs.outlines.+add_outline.Goals as goal

pub overflow_cast-octant : goal.overflow_cast-octant
overflow_cast-octant t c =
    let inner : IsInnerIn c.args.cube c.in-Inner.node = inner_in c.args.cube c.args.tree.now c.in-Inner.node c.requires.octree c.in-Inner.is in
    let low : c.loop-g.g < 8 = omega (arith, inner.eight, ap length c.trees-t-items.ensures) in
    search rules

pub child-requires-clause-below : goal.child-requires-clause-below
child-requires-clause-below t c =
    let inner : IsInnerIn c.args.cube c.in-Inner.node = inner_in c.args.cube c.args.tree.now c.in-Inner.node c.requires.octree c.in-Inner.is in
    omega (arith, inner.eight, ap length c.trees-t-items.ensures)

pub child-requires-clause-room : goal.child-requires-clause-room
child-requires-clause-room t c =
    let inner : IsInnerIn c.args.cube c.in-Inner.node = inner_in c.args.cube c.args.tree.now c.in-Inner.node c.requires.octree c.in-Inner.is in
    omega (arith, inner.splits, c.requires.room)

pub child-requires-in-loop-g-clause-below : goal.child-requires-in-loop-g-clause-below
child-requires-in-loop-g-clause-below t c =
    let inner : IsInnerIn c.args.cube c.in-Inner.node = inner_in c.args.cube c.args.tree.now c.in-Inner.node c.requires.octree c.in-Inner.is in
    omega (arith, inner.eight, ap length c.trees-t-items.ensures)

pub child-requires-in-loop-g-clause-splits : goal.child-requires-in-loop-g-clause-splits
child-requires-in-loop-g-clause-splits t c =
    let inner : IsInnerIn c.args.cube c.in-Inner.node = inner_in c.args.cube c.args.tree.now c.in-Inner.node c.requires.octree c.in-Inner.is in
    inner.splits

pub add_outline-requires : goal.add_outline-requires
add_outline-requires t c =
    let inner : IsInnerIn c.args.cube c.in-Inner.node = inner_in c.args.cube c.args.tree.now c.in-Inner.node c.requires.octree c.in-Inner.is in
    let low : c.loop-g.g < 8 = omega (arith, inner.eight, ap length c.trees-t-items.ensures) in
    let at : c.t-item.result ≡ get_or c.in-Inner.node.trees c.loop-g.g c.t-item.result =
    c.t-item.is ∙ ap (λ (ts : List Tree). get_or ts c.loop-g.g c.t-item.result) c.trees-t-items.ensures in
    let P : CubeValue → Type 0 = λ cube. IsOctreeIn cube c.t-item.result in
    let bits : c.child-in-loop-g.result.bits ≡ c.args.cube.bits - 1 = ap (λ (k : CubeValue). k.bits) c.child-in-loop-g.ensures in (
      omega (arith, bits, inner.splits),
      (
        subst P (sym c.child-in-loop-g.ensures) (inner.below c.loop-g.g c.t-item.result low at),
        omega (arith, ap length c.child.ensures, length_push c.args.path c.loop-g.g, bits, inner.splits, c.requires.room),
      ),
    )
