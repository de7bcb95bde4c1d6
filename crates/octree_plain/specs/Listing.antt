-- The text of an octree: a line of its cube, the lines of its nodes in path order, and a line of its numbers.
use Rattle.std.specs.Prelude.{ℕ, ◌+◌, ◌-◌, List, [], ◌∷◌, ◌++◌, length, replicate, codes, decimal, Bool, false, if◌then◌else◌}
use Rattle.std.specs.List.{flat_map}
use Rattle.std.specs.Fmt.{digits, signed_decimal}
use Rattle.cube_math.specs.Cubes.{CubeValue}
use Rattle.octree_model.specs.Voxels.{VoxelValue}
use Rattle.octree_model.specs.Bags.{leaf_points}
use Rattle.octree_model.specs.Counts.{nodes}
use Rattle.octree_model.specs.declared.tree.Tree.{Tree}
use Rattle.octree_model.specs.declared.tree.Tree.TheOpen.{Tree-F, InnerNode-F}
use Rattle.octree_model.specs.declared.tree.Tree.TheFolds.{fold-Tree}

-- the end of a line
abbrev pub line_feed : List ℕ
line_feed = 10 ∷ []

-- a path: r, and its octants
abbrev pub path_text : List ℕ → List ℕ
path_text path = codes "r" ++ flat_map decimal path

-- a colour number in hexadecimal digits, with zeros before them up to six
abbrev pub colour_text : ℕ → List ℕ
colour_text rgb = replicate (6 - length (digits 16 false rgb)) 48 ++ digits 16 false rgb

-- a voxel: its cell and its colour
abbrev pub voxel_line : VoxelValue → List ℕ
voxel_line v = codes "v " ++ decimal v.cell ++ codes " " ++ colour_text v.rgb ++ line_feed

-- a leaf: its path and its number of points
abbrev pub leaf_line : List ℕ → ℕ → List ℕ
leaf_line path points = path_text path ++ codes " leaf " ++ decimal points ++ line_feed

-- an inner node: its path, its number of points and its number of voxels
abbrev pub inner_line : List ℕ → ℕ → ℕ → List ℕ
inner_line path points voxels = path_text path ++ codes " inner " ++ decimal points ++ codes " " ++ decimal voxels ++ line_feed

-- the cube: its origin and its bits
abbrev pub cube_line : CubeValue → List ℕ
cube_line c = codes "cube " ++ signed_decimal c.ox ++ codes " " ++ signed_decimal c.oy ++ codes " " ++ signed_decimal c.oz ++ codes " " ++ decimal c.bits ++ line_feed

-- the lines of a tree, by the path of its root
abbrev pub LinesAt : Type 0
LinesAt = List ℕ → List ℕ

-- the lines of the children from octant g on, one after the other
abbrev pub children_lines : List ℕ → ℕ → List LinesAt → List ℕ
children_lines path g [] = []
children_lines path g (t ∷ ts) = t (path ++ g ∷ []) ++ children_lines path (g + 1) ts

-- a leaf's line, or the lines of an inner node
abbrev pub tree_lines : Tree-F LinesAt LinesAt → LinesAt
tree_lines (Tree-F.Leaf ps) path = leaf_line path (length ps)
tree_lines (Tree-F.Inner lines) path = lines path

-- an inner node's line, the lines of its voxels where they are wanted, and its children's lines
abbrev pub node_lines : Bool → InnerNode-F LinesAt LinesAt → LinesAt
node_lines voxels n path =
    inner_line path n.count (length n.voxels) ++ (if voxels then flat_map voxel_line n.voxels else []) ++ children_lines path 0 n.trees

-- the lines of a tree whose root has this path: each node before the nodes below it
abbrev pub lines : Bool → Tree → LinesAt
lines voxels = fold-Tree LinesAt LinesAt tree_lines (node_lines voxels)

-- how many nodes there are, and how many points in the leaves
abbrev pub totals_line : Tree → List ℕ
totals_line t = codes "nodes " ++ decimal (nodes t) ++ codes " points " ++ decimal (length (leaf_points t)) ++ line_feed

-- the whole text, with or without the lines of voxels
abbrev pub nodes_text : Bool → Tree → CubeValue → List ℕ
nodes_text voxels t c = cube_line c ++ lines voxels t [] ++ totals_line t
