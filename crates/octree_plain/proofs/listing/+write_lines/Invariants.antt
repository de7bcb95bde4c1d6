use Rattle.std.proofs.Common.{◌≡◌, ◌-◌, ◌++◌, length, drop, map, string_bytes}
use Rattle.octree_plain.specs.Listing.{lines, children_lines}
use Rattle.octree_plain.proofs.listing.+write_lines.Given as goal

abbrev pub decreases-write_lines : goal.decreases-write_lines
decreases-write_lines l = 24 - length l.path

abbrev pub invariant-loop-g : goal.invariant-loop-g
invariant-loop-g l =
    string_bytes l.out ++ children_lines l.path l.g (map (lines l.voxels) (drop l.g l.t-items)) ≡ string_bytes l.fn.out ++ lines l.voxels l.tree l.path
