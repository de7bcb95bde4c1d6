use Rattle.std.proofs.Common.{◌∙◌, ap, sym}
use Rattle.leaf_counts.specs.declared.counts.Counts.{Counts}
use Rattle.leaf_counts.specs.Nodes.{node_at, cube_at}
use Rattle.leaf_counts.proofs.CommitLaws.{SaysOf, node_says}
use Rattle.leaf_counts.proofs.CountLaws.{counted_is}
use Rattle.leaf_counts.proofs.laws.nodes_count_points.Goals as goal

pub returns : goal.returns
returns c = λ leaf cube points path node e.
    let says : SaysOf leaf (cube_at cube path) points node =
    node_says path leaf cube points node (ap (λ (t : Counts). node_at t path) (sym (counted_is leaf cube points)) ∙ e) in
    (says.count, says.inner)
