use Rattle.std.proofs.Common.{◌-◌}
use Rattle.leaf_counts.proofs.LeafLaws.{leaf_paths_stand}
use Rattle.leaf_counts.proofs.OutlineLaws.{leaf_paths_are, inner_paths_are}
use Rattle.leaf_counts.proofs.TotalLaws.{total_at}
use Rattle.leaf_counts.proofs.laws.nodes_are_those_of_outline.Goals as goal

pub returns : goal.returns
returns c = record {
  leaves = leaf_paths_are;
  inner = inner_paths_are;
  stand = leaf_paths_stand;
  number = λ leaf cube points. total_at leaf (cube.bits - 7) cube points;
}
