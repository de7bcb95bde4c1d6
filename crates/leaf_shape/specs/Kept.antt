-- What a shape keeps.
use Rattle.std.specs.Prelude.{ℕ, ◌≡◌, ◌+◌, ◌*◌, ◌<◌, ◌≤◌, ◌^◌, List, [], length, All, Some, slice_index_or, vec_len}
use Rattle.std.specs.Vec.{vec_capacity}
use Rattle.cube_math.specs.Cubes.{CubeValue, cube_at}
use Rattle.leaf_shape.specs.declared.node.Node.{Node}
use Rattle.leaf_shape.specs.declared.opening.Opening.{Opening}
use Rattle.leaf_shape.specs.declared.place.Place.{Place}
use Rattle.leaf_shape.specs.declared.shape.LeafShape.TheInside.{Inside}
use Rattle.leaf_shape.specs.Openings.{AreShared, blocks, paths_of}
use Rattle.leaf_shape.specs.Shapes.{IsPathIn, ShapeValue, path_of}
use Rattle.leaf_shape.specs.Tables.{AreListed, node_at}

-- what contracts see of a shape
abbrev pub shape_of : Inside → ShapeValue
shape_of a = record { cube = a.cube; paths = a.paths.items; ready = paths_of a.ready.items }

-- a list's place: its cube, and its path's node
pub record IsPlaced (cube : CubeValue) (nodes : List Node) (path : List ℕ) (place : Place) : Type 0 where
  pub is : place.cube ≡ cube_at cube path
  pub at : node_at nodes 0 path ≡ Some place.node
  pub in_cube : IsPathIn cube path

-- lists with their nodes and places, the first one the root's
pub record ArePlaced (cube : CubeValue) (nodes : List Node) (paths : List (List ℕ)) (places : List Place) : Type 0 where
  pub listed : AreListed nodes paths
  pub len : length places ≡ length paths
  pub some : 0 < length paths
  pub root : path_of paths 0 ≡ []
  pub each : (list : ℕ) (place : Place) → list < length paths → place ≡ slice_index_or places list place → IsPlaced cube nodes (path_of paths list) place

-- besides, there is memory, and there are numbers, for what is ready
pub record IsKept (a : Inside) : Type 0 where
  pub placed : ArePlaced a.cube a.nodes.items a.paths.items a.places.items
  pub fit : All (λ (o : Opening). length o.path + 7 ≤ a.cube.bits) a.ready.items
  pub shared : AreShared a.ready.items
  pub node_room : vec_len a.nodes + 8 * blocks a.ready.items ≤ vec_capacity a.nodes
  pub few_nodes : vec_len a.nodes + 8 * blocks a.ready.items < 2 ^ 32
  pub path_room : vec_len a.paths + vec_len a.ready ≤ vec_capacity a.paths
  pub place_room : vec_len a.places + vec_len a.ready ≤ vec_capacity a.places
  pub few_lists : vec_len a.paths + vec_len a.ready < 2 ^ 32
