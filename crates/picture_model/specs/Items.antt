-- The items that a camera sees of an octree: points of leaves, and voxels of inner nodes.
use Rattle.std.specs.Prelude.{ℕ, ◌≡◌, ◌+◌, ◌-◌, ◌/◌, ◌%◌, ◌^◌, ℤ, List, [], ◌∷◌, ◌++◌, Bool, true, false, map, filter, count_by}
use Rattle.std.specs.List.{flat_map}
use Rattle.cube_math.specs.Points.{PointValue}
use Rattle.cube_math.specs.Cubes.{CubeValue, child, cell_middle}
use Rattle.octree_model.specs.Voxels.{VoxelValue}
use Rattle.picture_model.specs.Cameras.{CameraValue, Triple}
use Rattle.picture_model.specs.Cuts.{in_cut}
use Rattle.octree_model.specs.Outlines.{outline}
use Rattle.octree_model.specs.declared.outline.OutlineNode.{OutlineNode}
use Rattle.octree_model.specs.declared.tree.Tree.{Tree}
use Rattle.octree_model.specs.declared.tree.Tree.TheOpen.{Tree-F, InnerNode-F}
use Rattle.octree_model.specs.declared.tree.Tree.TheFolds.{fold-Tree}

-- an item as contracts see it: its place, its side, which is 0 for a point, and its colour number
pub record ItemValue : Type 0 where
  pub x : ℤ
  pub y : ℤ
  pub z : ℤ
  pub side : ℕ
  pub rgb : ℕ

-- where an item lies
abbrev pub item_place : ItemValue → Triple
item_place i = (i.x, i.y, i.z)

-- the item of a leaf's point
abbrev pub point_item : PointValue → ItemValue
point_item p = record { x = p.x; y = p.y; z = p.z; side = 0; rgb = p.rgb }

-- the item of a voxel of a node with this cube: it lies in the middle of its cell
abbrev pub voxel_item : CubeValue → VoxelValue → ItemValue
voxel_item c v = record {
  x = cell_middle c.ox c.bits (v.cell % 128);
  y = cell_middle c.oy c.bits (v.cell / 128 % 128);
  z = cell_middle c.oz c.bits (v.cell / 16384);
  side = 2 ^ (c.bits - 7);
  rgb = v.rgb;
}

-- two lists have the same items, each as often: whatever test is made, as many pass in one as in the other
abbrev pub IsSameItems : List ItemValue → List ItemValue → Type 0
IsSameItems xs ys = (test : ItemValue → Bool) → count_by test xs ≡ count_by test ys

-- a node, and the items that it is shown by
pub record Shown : Type 0 where
  pub node : OutlineNode
  pub items : List ItemValue

-- the shown nodes of a tree, by the path and the cube of its root
abbrev pub ShownAt : Type 0
ShownAt = List ℕ → CubeValue → List Shown

-- those of the children from octant g on, one after the other
abbrev pub children_shown : List ℕ → CubeValue → ℕ → List ShownAt → List Shown
children_shown path c g [] = []
children_shown path c g (t ∷ ts) = t (path ++ g ∷ []) (child c g) ++ children_shown path c (g + 1) ts

-- a leaf is shown by its points
abbrev pub tree_shown : Tree-F ShownAt ShownAt → ShownAt
tree_shown (Tree-F.Leaf ps) path c = record { node = record { path = path; cube = c; inner = false }; items = map point_item ps } ∷ []
tree_shown (Tree-F.Inner shown) path c = shown path c

-- an inner node is shown by its voxels
abbrev pub node_shown : InnerNode-F ShownAt ShownAt → ShownAt
node_shown n path c =
    record { node = record { path = path; cube = c; inner = true }; items = map (voxel_item c) n.voxels } ∷ children_shown path c 0 n.trees

-- the nodes of a tree with their items, where its root has this path and this cube
abbrev pub shown_at : Tree → ShownAt
shown_at = fold-Tree ShownAt ShownAt tree_shown node_shown

-- the items of the nodes that are in the cut of a whole octree
abbrev pub items : CameraValue → Tree → CubeValue → List ItemValue
items camera t c = flat_map (λ s. s.items) (filter (λ s. in_cut camera (outline t c) s.node) (shown_at t [] c))
