use Rattle.octree_plain.proofs.NodeLaws.{nodes_fit}
use Rattle.octree_plain.proofs.count.node_count.Goals as goal

pub count_nodes-requires : goal.count_nodes-requires
count_nodes-requires c = nodes_fit c.args.tree.now c.requires
