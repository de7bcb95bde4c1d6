use Rattle.std.proofs.Common.{ℕ, List, All, IsSome, IsTrue, Contains, subst, sym}
use Rattle.leaf_counts.specs.declared.counts.Counts.{Counts}
use Rattle.leaf_counts.specs.Nodes.{is_leaf_at, node_at}
use Rattle.leaf_counts.proofs.CountLaws.{counted_is}
use Rattle.leaf_shape.specs.Shapes.{IsListOf, path_of}
use Rattle.leaf_shape.proofs.LeafListLaws.{leaf_has_list}
use Rattle.leaf_shape.proofs.laws.lists_are_those_of_leaves.Goals as goal

pub returns : goal.returns
returns c = λ leaf cube points paths p list seven has.
    let P : Counts → Type 0 = λ counts. ((path : List ℕ) → IsTrue (is_leaf_at counts path) → Contains paths path)
    → All (λ path. IsSome (node_at counts path)) paths
    → IsListOf cube paths p list → IsTrue (is_leaf_at counts (path_of paths list)) in
    subst P (sym (counted_is leaf cube points)) (leaf_has_list leaf cube points paths p list seven has)
