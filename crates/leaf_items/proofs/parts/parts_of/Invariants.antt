use Rattle.std.proofs.Common.{map, vec_items}
use Rattle.leaf_items.proofs.PartLaws.{AreSoFar}
use Rattle.leaf_items.proofs.parts.parts_of.Given as goal

abbrev pub invariant-loop-k : goal.invariant-loop-k
invariant-loop-k l = AreSoFar l.items l.aims (map vec_items l.parts.items) l.count l.k
