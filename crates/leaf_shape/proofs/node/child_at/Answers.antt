use Rattle.std.proofs.Common.{◌≡◌, ◌∙◌, ◌+◌, Some, ap, sym, arith}
use Rattle.std.proofs.lemmas.List.{get_or_default}
use Rattle.leaf_shape.specs.declared.node.Node.{Node}
use Rattle.leaf_shape.specs.Tables.{bare, node}
use Rattle.leaf_shape.proofs.ChildrenLaws.{had_children}
use Rattle.leaf_shape.proofs.node.child_at.Goals as goal

pub returns-in-Some-clause-child : goal.returns-in-Some-clause-child
returns-in-Some-clause-child c =
    let here : c.index.result.now ≡ node c.args.nodes.now.items c.args.parent =
    c.index.ensures ∙ get_or_default c.args.nodes.now.items c.args.parent c.index.result.now bare
    (omega (arith, c.requires.within, c.args.nodes.now.ok.0)) in
    let below : (node c.args.nodes.now.items c.args.parent).below ≡ Some c.in-Some.first = ap (λ (n : Node). n.below) (sym here) ∙ c.in-Some.is in
    (c.in-Some.first, had_children c.args.nodes.now.items c.args.parent c.in-Some.first c.requires.tree below, ap (λ n. c.in-Some.first + n) c.from.ensures)
