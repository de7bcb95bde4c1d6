use Rattle.std.proofs.Common.{◌-◌, ◌++◌, List, ℕ, ap}
use Rattle.octree_file.specs.Files.{head_bytes}
use Rattle.octree_file.proofs.SameFileLaws.{same_spelling}
use Rattle.octree_file.proofs.laws.same_points_have_same_file.Goals as goal

pub returns : goal.returns
returns c =
    λ leaf cube first second hp hq same. ap (λ (spelled : List ℕ). head_bytes leaf cube ++ spelled)
    (same_spelling leaf (cube.bits - 7) cube first second hp hq same)
