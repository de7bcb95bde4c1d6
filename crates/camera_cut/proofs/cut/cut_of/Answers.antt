use Rattle.std.proofs.Common.{◌≡◌, ◌∙◌, List, ap, sym, subst}
use Rattle.picture_model.specs.Cuts.{cut, in_path_order}
use Rattle.octree_model.specs.declared.outline.OutlineNode.{OutlineNode}
use Rattle.camera_cut.specs.Outlines.{LeadToEachLeaf}
use Rattle.camera_cut.proofs.CutLaws.{cut_in_order, leads_to_leaves}
use Rattle.camera_cut.proofs.cut.cut_of.Goals as goal

pub new-requires : goal.new-requires
new-requires c =
    ap in_path_order c.in_ok-shown_nodes.ensures ∙ cut_in_order c.args.camera.now c.args.outline.now c.requires

pub returns-clause-leaves : goal.returns-clause-leaves
returns-clause-leaves c =
    let same : cut c.args.camera.now c.args.outline.now ≡ c.new.result = sym (c.new.ensures ∙ c.in_ok-shown_nodes.ensures) in
    subst (λ (nodes : List OutlineNode). LeadToEachLeaf nodes c.args.outline.now) same (leads_to_leaves c.args.camera.now c.args.outline.now c.requires)
