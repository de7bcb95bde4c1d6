use Rattle.octree_model.proofs.LeafLaws.{one_leaf, some_leaf}
use Rattle.octree_model.proofs.laws.each_point_has_one_leaf.Goals as goal

pub returns : goal.returns
returns c = record {
  some = λ leaf cube points p has. some_leaf p leaf cube points has;
  one = λ leaf cube points p n m here there has has'. one_leaf p leaf cube points n m here there has has';
}
