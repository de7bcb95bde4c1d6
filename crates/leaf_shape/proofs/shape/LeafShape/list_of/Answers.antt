use Rattle.std.proofs.Common.{◌≡◌, ◌∙◌, ◌+◌, ◌<◌, ap, arith, length, subst}
use Rattle.std.proofs.lemmas.List.{get_or_default}
use Rattle.leaf_shape.specs.Shapes.{IsListOf, ShapeValue}
use Rattle.leaf_shape.specs.Tables.{bare, node}
use Rattle.leaf_shape.proofs.WalkLaws.{next_within, walk_done, walk_on, walk_splits}
use Rattle.leaf_shape.proofs.shape.LeafShape.list_of.Goals as goal

pub octant-octant-requires-clause-splits : goal.octant-octant-requires-clause-splits
octant-octant-requires-clause-splits c = walk_splits c.self.invariant.placed c.in-Some.first c.loop-node.invariant c.in-Some.is

pub overflow_add-first : goal.overflow_add-first
overflow_add-first c =
    let low : c.in-Some.first + c.octant-octant.result < length c.self.inside.nodes.items =
    next_within c.self.invariant.placed c.in-Some.first c.octant-octant.result c.loop-node.invariant c.in-Some.is c.octant-octant.ensures.below in
    omega (arith, low, c.from.ensures, c.self.inside.nodes.ok.0, c.self.invariant.few_nodes)

pub overflow_cast-first : goal.overflow_cast-first
overflow_cast-first c =
    let low : c.in-Some.first + c.octant-octant.result < length c.self.inside.nodes.items =
    next_within c.self.invariant.placed c.in-Some.first c.octant-octant.result c.loop-node.invariant c.in-Some.is c.octant-octant.ensures.below in
    omega (arith, low, c.from.ensures, c.self.inside.nodes.ok.0, c.self.invariant.few_nodes)

pub index-node-requires-in-Some : goal.index-node-requires-in-Some
index-node-requires-in-Some c =
    let low : c.in-Some.first + c.octant-octant.result < length c.self.inside.nodes.items =
    next_within c.self.invariant.placed c.in-Some.first c.octant-octant.result c.loop-node.invariant c.in-Some.is c.octant-octant.ensures.below in
    omega (arith, low, c.from.ensures, c.self.inside.nodes.ok.0)

pub child-cube-requires-clause-splits : goal.child-cube-requires-clause-splits
child-cube-requires-clause-splits c = walk_splits c.self.invariant.placed c.in-Some.first c.loop-node.invariant c.in-Some.is

pub loop-node-preserved : goal.loop-node-preserved
loop-node-preserved c =
    let low : c.in-Some.first + c.octant-octant.result < length c.self.inside.nodes.items =
    next_within c.self.invariant.placed c.in-Some.first c.octant-octant.result c.loop-node.invariant c.in-Some.is c.octant-octant.ensures.below in
    let read : c.index-node-in-Some.result.now ≡ node c.self.inside.nodes.items (c.in-Some.first + c.from.result) =
    c.index-node-in-Some.ensures
    ∙ get_or_default c.self.inside.nodes.items (c.in-Some.first + c.from.result) c.index-node-in-Some.result.now bare
    (omega (arith, low, c.from.ensures)) in
    walk_on c.self.invariant.placed c.index-node-in-Some.result.now c.child-cube.result c.unwrap_or-list-in-Some.result c.in-Some.first
    c.octant-octant.result (c.in-Some.first + c.from.result) c.loop-node.invariant c.in-Some.is c.octant-octant.ensures.value
    (ap (λ n. c.in-Some.first + n) c.from.ensures) read c.child-cube.ensures c.unwrap_or-list-in-Some.ensures

pub returns : goal.returns
returns c =
    let P : ShapeValue → Type 0 = λ s. IsListOf s.cube s.paths c.args.p.now c.loop-node.list in
    subst P c.self.view_is (walk_done c.self.invariant.placed c.loop-node.invariant c.in_default.is)
