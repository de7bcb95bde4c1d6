use Rattle.std.proofs.Common.{◌≡◌, ◌∙◌, List, None, Option, Some, ap, arith, subst, sym, false}
use Rattle.std.specs.Prelude.{◌↔◌, IsTrue, is_some}
use Rattle.std.proofs.lemmas.List.{get_or_default}
use Rattle.leaf_shape.specs.declared.node.Node.{Node}
use Rattle.leaf_shape.specs.Shapes.{IsSplit, ShapeValue}
use Rattle.leaf_shape.specs.Tables.{bare, node, node_at}
use Rattle.leaf_shape.proofs.FindLaws.{no_split_nowhere, node_within, split_there}
use Rattle.leaf_shape.proofs.shape.LeafShape.is_split.Goals as goal

pub index-requires : goal.index-requires
index-requires c =
    let at : node_at c.self.inside.nodes.items 0 c.args.path.now ≡ Some c.in-Some.node =
    ap (λ (l : List Node). node_at l 0 c.args.path.now) (sym c.deref.ensures.value) ∙ sym c.find_node.ensures ∙ c.in-Some.is in
    omega (arith, node_within c.self.invariant.placed c.args.path.now c.in-Some.node at, c.self.inside.nodes.ok.0)

pub returns-in-Some : goal.returns-in-Some
returns-in-Some c =
    let at : node_at c.self.inside.nodes.items 0 c.args.path.now ≡ Some c.in-Some.node =
    ap (λ (l : List Node). node_at l 0 c.args.path.now) (sym c.deref.ensures.value) ∙ sym c.find_node.ensures ∙ c.in-Some.is in
    let read : node c.self.inside.nodes.items c.in-Some.node ≡ c.index.result.now =
    get_or_default c.self.inside.nodes.items c.in-Some.node bare c.index.result.now (node_within c.self.invariant.placed c.args.path.now c.in-Some.node at)
    ∙ sym c.index.ensures in
    let P : ShapeValue → Type 0 = λ s. IsTrue (is_some c.index.result.now.below) ↔ IsSplit s.paths c.args.path.now in
    let told = subst P c.self.view_is
    (split_there c.self.invariant.placed c.args.path.now c.in-Some.node c.index.result.now.below at (ap (λ (n : Node). n.below) read)) in
    (λ said. told.0 (sym c.is_some.ensures ∙ said), λ s. c.is_some.ensures ∙ told.1 s)

pub returns-in-None : goal.returns-in-None
returns-in-None c =
    let nowhere : node_at c.self.inside.nodes.items 0 c.args.path.now ≡ None =
    ap (λ (l : List Node). node_at l 0 c.args.path.now) (sym c.deref.ensures.value) ∙ sym c.find_node.ensures ∙ c.in-None.is in
    let P : ShapeValue → Type 0 = λ s. IsTrue false ↔ IsSplit s.paths c.args.path.now in
    subst P c.self.view_is (λ said. absurd (cc), λ s. absurd (no_split_nowhere c.self.invariant.placed c.args.path.now nowhere s))
