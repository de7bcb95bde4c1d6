use Rattle.std.proofs.Common.{◌≡◌, ◌++◌, ◌∷◌, length, take, flat_map}
use Rattle.octree_file.specs.Spelling.{point_bytes, u32_bytes}
use Rattle.octree_file.proofs.writing.write_leaf.Given as goal

abbrev pub invariant-loop-p : goal.invariant-loop-p
invariant-loop-p l = l.out.items ≡ l.fn.out.items ++ (0 ∷ u32_bytes (length l.points)) ++ flat_map point_bytes (take l.p-index l.p-items)
