use Rattle.leaf_counts.proofs.LeafLaws.{one_leaf, leaf_by_counts}
use Rattle.leaf_counts.proofs.laws.leaves_of_a_point_are_one.Goals as goal

pub returns : goal.returns
returns c = λ leaf cube points p path other here there has has'.
    one_leaf path other leaf cube points p (leaf_by_counts leaf cube points path here) (leaf_by_counts leaf cube points other there) has has'
