-- How a viewer makes a frame.
use Rattle.std.specs.Prelude.{ℕ, ◌-◌, Bool, List, [], ◌∷◌, ◌++◌, length, map, filter, flat_map, option_to_list, if◌then◌else◌}
use Rattle.octree_model.specs.Numbers.{up_to}
use Rattle.octree_model.specs.Octree.{inside, octree}
use Rattle.octree_model.specs.Outlines.{outline}
use Rattle.octree_model.specs.Voxels.{voxels}
use Rattle.octree_model.specs.declared.outline.OutlineNode.{OutlineNode}
use Rattle.picture_model.specs.Cuts.{cut, in_cut}
use Rattle.picture_model.specs.Items.{ItemValue, point_item, voxel_item}
use Rattle.list_machine.specs.Words.{item_in}
use Rattle.sim_world.specs.Jobs.{JobValue}
use Rattle.sim_world.specs.Versions.{LeafRow, WorldVersion, published_items, points_in, found_points, chunks_of, leaf_node}
use Rattle.sim_world.specs.Worlds.{Slot, Look, reads, returns, World, at_viewer}

-- the nodes of the octree of a version
abbrev pub nodes_in : JobValue → WorldVersion → List OutlineNode
nodes_in job v = outline (octree job.config.leaf job.config.cube (points_in v)) job.config.cube

-- those that the camera shows
abbrev pub cut_in : JobValue → WorldVersion → List OutlineNode
cut_in job v = cut job.camera (nodes_in job v)

-- whether the camera shows a leaf of a version
abbrev pub is_shown : JobValue → WorldVersion → LeafRow → Bool
is_shown job v r = in_cut job.camera (nodes_in job v) (leaf_node r)

-- the 256 slots of a chunk
abbrev pub chunk_slots : ℕ → List Slot
chunk_slots c = map (λ k. record { chunk = c; place = k }) (up_to 256)

-- the slots of a leaf, of its claimed chain and then of its owned chain
abbrev pub row_slots : LeafRow → List Slot
row_slots r = flat_map chunk_slots (chunks_of r)

-- the slots of the shown leaves in path order
abbrev pub slots_due : JobValue → WorldVersion → List Slot
slots_due job v = flat_map row_slots (filter (is_shown job v) v.leaves)

-- the items of a shown node: voxels, or points that were read
abbrev pub node_items : WorldVersion → List ℕ → OutlineNode → List ItemValue
node_items v found n =
    if n.inner then map (voxel_item n.cube) (voxels n.cube (inside n.cube (points_in v)))
    else map point_item (found_points n.cube (published_items v) found)

-- the items of a frame
abbrev pub frame_items : JobValue → Look → List ItemValue
frame_items job v = flat_map (node_items v.version v.found) (cut_in job v.version)

-- the frame that takes the version now
abbrev pub look_now : JobValue → World → Look
look_now job w = record { seat = length w.lists.guests; version = w.version; todo = slots_due job w.version; found = [] }

-- the frame n of the actor a is finished
abbrev pub finished : JobValue → World → ℕ → ℕ → Look → World
finished job w a n v =
    record w { views = w.views ++ record { viewer = a - job.loaders; frame = n; length = length v.version.batches; items = frame_items job v } ∷ [] }

-- it goes on with what is left to be read, and is finished where that is nothing
abbrev pub goes_on : JobValue → World → ℕ → ℕ → Look → List Slot → World
goes_on job w a n v [] = at_viewer (finished job w a n v) a n (returns v)
goes_on job w a n v (slot ∷ slots) = at_viewer w a n (reads v)

-- the first slot that is left is read
abbrev pub read_step : JobValue → World → ℕ → ℕ → Look → List Slot → World
read_step job w a n v [] = w
read_step job w a n v (slot ∷ slots) =
    goes_on job w a n (record v { todo = slots; found = v.found ++ option_to_list (item_in (w.lists.words.slot slot.chunk slot.place)) }) slots
