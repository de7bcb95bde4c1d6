-- Entries that change what a list of entries says.
use Rattle.std.specs.Prelude.{Bool, List}
use Rattle.octree_model.specs.Numbers.{least}
use Rattle.voxel_sampler.specs.Nears.{NearValue, near_key, keys_in}
use Rattle.voxel_sampler.specs.Runs.{is_lower}

-- whether an entry's cell is new to a list, or its key less than the least one there
abbrev pub is_change : List NearValue → NearValue → Bool
is_change best n = is_lower (near_key n) (least (keys_in best n.cell))
