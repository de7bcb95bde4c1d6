use Rattle.std.proofs.Common.{◌≡◌, ℕ, ◌<◌, ◌∙◌, length, get_or, List, ap, arith, rules, subst, sym}
use Rattle.std.proofs.lemmas.List.{length_push}
use Rattle.octree_model.specs.declared.tree.Tree.{Tree}
use Rattle.octree_plain.specs.Descent.{IsOctreeBelow}
use Rattle.octree_plain.proofs.DescentLaws.{IsInnerBelow, inner_below}
use Rattle.octree_plain.proofs.ListingLaws.{leaf_written}
use Rattle.octree_plain.proofs.listing.+write_lines.Goals as goal

pub overflow_cast-g : goal.overflow_cast-g
overflow_cast-g t c =
    let inner : IsInnerBelow c.args.path c.in-Inner.node = inner_below c.args.path c.args.tree.now c.in-Inner.node c.requires c.in-Inner.is in
    let low : c.loop-g.g < 8 = omega (arith, inner.eight, ap length c.trees-t-items.ensures) in
    search rules

pub child-requires-clause-below : goal.child-requires-clause-below
child-requires-clause-below t c =
    let inner : IsInnerBelow c.args.path c.in-Inner.node = inner_below c.args.path c.args.tree.now c.in-Inner.node c.requires c.in-Inner.is in
    omega (arith, inner.eight, ap length c.trees-t-items.ensures)

pub child-requires-clause-room : goal.child-requires-clause-room
child-requires-clause-room t c =
    let inner : IsInnerBelow c.args.path c.in-Inner.node = inner_below c.args.path c.args.tree.now c.in-Inner.node c.requires c.in-Inner.is in
    inner.room

pub write_lines-requires : goal.write_lines-requires
write_lines-requires t c =
    let inner : IsInnerBelow c.args.path c.in-Inner.node = inner_below c.args.path c.args.tree.now c.in-Inner.node c.requires c.in-Inner.is in
    let low : c.loop-g.g < 8 = omega (arith, inner.eight, ap length c.trees-t-items.ensures) in
    let at : c.t-item.result ≡ get_or c.in-Inner.node.trees c.loop-g.g c.t-item.result =
    c.t-item.is ∙ ap (λ (ts : List Tree). get_or ts c.loop-g.g c.t-item.result) c.trees-t-items.ensures in
    let P : List ℕ → Type 0 = λ path. IsOctreeBelow path c.t-item.result in
    (omega (arith, ap length c.child.ensures, length_push c.args.path c.loop-g.g, inner.room), subst P (sym c.child.ensures) (inner.below c.loop-g.g c.t-item.result low at))

pub returns-in-Leaf : goal.returns-in-Leaf
returns-in-Leaf t c =
    leaf_written c.writeln.result _ _ _ c.args.path (length c.points.result.now) c.in-Leaf.points c.args.tree.now c.args.voxels c.in_ok-write_path.ensures c.writeln.ensures.bytes
    (ap length c.points.ensures) c.in-Leaf.is
