use Rattle.std.proofs.Common.{◌≡◌, ◌++◌, ◌∙◌, List, [], drop, sym, ap, None}
use Rattle.std.proofs.lemmas.List.{append-nil, drop_all}
use Rattle.octree_model.specs.declared.outline.OutlineNode.{OutlineNode}
use Rattle.camera_cut.proofs.CutLaws.{walk, walked_cut}
use Rattle.camera_cut.proofs.cut.shown_nodes.Goals as goal

pub returns : goal.returns
returns c =
    let shown : List OutlineNode = c.loop-node.shown.items in
    let done : drop c.loop-node.node-index c.args.outline.now ≡ [] = drop_all c.loop-node.node-index c.args.outline.now c.loop-node-test.false in
    let all : shown ++ walk c.args.camera.now c.loop-node.last (drop c.loop-node.node-index c.args.outline.now) ≡ walk c.args.camera.now None c.args.outline.now = c.loop-node.invariant in
    let last : shown ++ [] ≡ shown ++ walk c.args.camera.now c.loop-node.last (drop c.loop-node.node-index c.args.outline.now) =
    ap (λ (l : List OutlineNode). shown ++ walk c.args.camera.now c.loop-node.last l) (sym done) in
    sym (append-nil shown) ∙ last ∙ all ∙ walked_cut c.args.camera.now c.args.outline.now c.requires
