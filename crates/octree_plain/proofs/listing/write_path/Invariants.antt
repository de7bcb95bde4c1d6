use Rattle.std.proofs.Common.{◌≡◌, ◌++◌, codes, decimal, string_bytes, take}
use Rattle.std.specs.List.{flat_map}
use Rattle.octree_plain.proofs.listing.write_path.Given as goal

abbrev pub invariant-loop-i : goal.invariant-loop-i
invariant-loop-i l = string_bytes l.out ≡ string_bytes l.fn.out ++ codes "r" ++ flat_map decimal (take l.i l.path)
