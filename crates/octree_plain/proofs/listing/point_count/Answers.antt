use Rattle.std.proofs.Common.{◌∙◌, ap, sym, subst, length}
use Rattle.octree_model.specs.Bags.{leaf_points}
use Rattle.octree_model.specs.Shapes.{IsOctreeIn}
use Rattle.octree_model.specs.declared.tree.Tree.{Tree}
use Rattle.octree_plain.proofs.NodeLaws.{count_is_points}
use Rattle.octree_plain.proofs.listing.point_count.Goals as goal

pub returns-in-Inner : goal.returns-in-Inner
returns-in-Inner c =
    c.count.ensures ∙ count_is_points c.requires.cube c.in-Inner.node (subst (IsOctreeIn c.requires.cube) c.in-Inner.is c.requires.octree)
    ∙ ap (λ (t : Tree). length (leaf_points t)) (sym c.in-Inner.is)
