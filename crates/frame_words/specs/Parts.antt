-- Lists of items in parts, and portions of them.
use Rattle.std.specs.Prelude.{ℕ, ◌<◌, ◌≤◌, ◌^◌, List, map, take, drop, length, All}
use Rattle.std.specs.List.{flat_map}
use Rattle.picture_model.specs.Items.{ItemValue, point_item, voxel_item}
use Rattle.frame_words.specs.declared.parts.Part.{Part}
use Rattle.frame_words.specs.declared.parts.Part.TheVariants.{Items, Points, Voxels}

-- the items of a part
abbrev pub part_items : Part → List ItemValue
part_items (Items items) = items.now
part_items (Points points) = map point_item points.now
part_items (Voxels cube voxels) = map (voxel_item cube) voxels.now

-- the items of parts, one part after the other
abbrev pub all_items : List Part → List ItemValue
all_items parts = flat_map part_items parts

-- a part of voxels has the cube of an inner node
abbrev pub IsPart : Part → Type 0
IsPart (Items items) = Unit {0}
IsPart (Points points) = Unit {0}
IsPart (Voxels cube voxels) = 7 < cube.bits

-- the items from a first one on, before an end
abbrev pub portion : {X : Type 0} → ℕ → ℕ → List X → List X
portion first end xs = drop first (take end xs)

-- the items from a first one on, before an end, can be counted and drawn
pub record CanDraw (parts : List Part) (first end : ℕ) : Type 0 where
  pub parts_are : All IsPart parts
  pub few : length (all_items parts) < 2 ^ 64
  pub ordered : first ≤ end
