use Rattle.std.proofs.Common.{◌≡◌, ◌∙◌, ◌<◌, ℕ, List, None, Option, Some, ap, arith, length, subst, sym}
use Rattle.std.specs.Prelude.{◌↔◌, Contains, IfSome, IsSome}
use Rattle.std.proofs.lemmas.List.{get_or_default}
use Rattle.leaf_shape.specs.declared.node.Node.{Node}
use Rattle.leaf_shape.specs.Shapes.{IsLatest, ShapeValue}
use Rattle.leaf_shape.specs.Tables.{bare, node, node_at}
use Rattle.leaf_shape.proofs.FindLaws.{found_there, latest_there, node_within, none_nowhere}
use Rattle.leaf_shape.proofs.shape.LeafShape.list_at.Goals as goal

pub index-requires : goal.index-requires
index-requires c =
    let at : node_at c.self.inside.nodes.items 0 c.args.path.now ≡ Some c.in_ok-node.node =
    ap (λ (l : List Node). node_at l 0 c.args.path.now) (sym c.deref.ensures.value) ∙ sym c.find_node.ensures ∙ c.in_ok-node.was in
    omega (arith, node_within c.self.invariant.placed c.args.path.now c.in_ok-node.node at, c.self.inside.nodes.ok.0)

pub returns-clause-latest : goal.returns-clause-latest
returns-clause-latest c =
    let at : node_at c.self.inside.nodes.items 0 c.args.path.now ≡ Some c.in_ok-node.node =
    ap (λ (l : List Node). node_at l 0 c.args.path.now) (sym c.deref.ensures.value) ∙ sym c.find_node.ensures ∙ c.in_ok-node.was in
    let read : node c.self.inside.nodes.items c.in_ok-node.node ≡ c.index.result.now =
    get_or_default c.self.inside.nodes.items c.in_ok-node.node bare c.index.result.now
    (node_within c.self.invariant.placed c.args.path.now c.in_ok-node.node at)
    ∙ sym c.index.ensures in
    let P : ShapeValue → Type 0 = λ s. IfSome c.index.result.now.list (IsLatest s.paths c.args.path.now) in
    subst P c.self.view_is
    (latest_there c.self.invariant.placed c.args.path.now c.in_ok-node.node c.index.result.now.list at (ap (λ (n : Node). n.list) read))

pub returns-clause-found : goal.returns-clause-found
returns-clause-found c =
    let at : node_at c.self.inside.nodes.items 0 c.args.path.now ≡ Some c.in_ok-node.node =
    ap (λ (l : List Node). node_at l 0 c.args.path.now) (sym c.deref.ensures.value) ∙ sym c.find_node.ensures ∙ c.in_ok-node.was in
    let read : node c.self.inside.nodes.items c.in_ok-node.node ≡ c.index.result.now =
    get_or_default c.self.inside.nodes.items c.in_ok-node.node bare c.index.result.now
    (node_within c.self.invariant.placed c.args.path.now c.in_ok-node.node at)
    ∙ sym c.index.ensures in
    let P : ShapeValue → Type 0 = λ s. IsSome c.index.result.now.list ↔ Contains s.paths c.args.path.now in
    subst P c.self.view_is
    (found_there c.self.invariant.placed c.args.path.now c.in_ok-node.node c.index.result.now.list at (ap (λ (n : Node). n.list) read))

pub returns-in_err-node-clause-found : goal.returns-in_err-node-clause-found
returns-in_err-node-clause-found c =
    let nowhere : node_at c.self.inside.nodes.items 0 c.args.path.now ≡ None =
    ap (λ (l : List Node). node_at l 0 c.args.path.now) (sym c.deref.ensures.value) ∙ sym c.in_err-node.ensures in
    let P : ShapeValue → Type 0 = λ s. IsSome c.from_residual.result ↔ Contains s.paths c.args.path.now in
    subst P c.self.view_is (
      λ some. absurd (let e : IsSome {T = ℕ} None = subst (λ (o : Option ℕ). IsSome o) c.from_residual.ensures some in cc),
      λ has. absurd (none_nowhere c.self.invariant.placed c.args.path.now nowhere has),
    )
