-- The text of `demo`: what an octree has, in numbers.
use Rattle.std.specs.Prelude.{ℕ, ◌+◌, List, ◌++◌, length, sum, sum_by, codes, decimal}
use Rattle.cube_math.specs.Cubes.{CubeValue}
use Rattle.octree_model.specs.Bags.{leaf_points}
use Rattle.octree_model.specs.Counts.{nodes}
use Rattle.octree_model.specs.Voxels.{VoxelValue}
use Rattle.octree_model.specs.declared.tree.Tree.{Tree}
use Rattle.octree_model.specs.declared.tree.Tree.TheOpen.{Tree-F, InnerNode-F}
use Rattle.octree_model.specs.declared.tree.Tree.TheFolds.{fold-Tree}
use Rattle.octree_plain.specs.Listing.{line_feed, cube_line}

-- a leaf counts so much, and an inner node what its nodes do
abbrev pub tree_total : ℕ → Tree-F ℕ ℕ → ℕ
tree_total leaf (Tree-F.Leaf ps) = leaf
tree_total leaf (Tree-F.Inner n) = n

-- an inner node counts by its voxels, and the trees below it count too
abbrev pub node_total : (List VoxelValue → ℕ) → InnerNode-F ℕ ℕ → ℕ
node_total inner n = inner n.voxels + sum n.trees

-- the sum over all nodes of a tree, where a leaf counts so much and an inner node by its voxels
abbrev pub total : ℕ → (List VoxelValue → ℕ) → Tree → ℕ
total leaf inner = fold-Tree ℕ ℕ (tree_total leaf) (node_total inner)

-- how many leaves a tree has
abbrev pub leaf_count : Tree → ℕ
leaf_count = total 1 (λ vs. 0)

-- how many inner nodes
abbrev pub inner_count : Tree → ℕ
inner_count = total 0 (λ vs. 1)

-- how many voxels, in all inner nodes
abbrev pub voxel_count : Tree → ℕ
voxel_count = total 0 (λ vs. length vs)

-- the sum, over voxels, of cell number and colour number
abbrev pub cells_and_colours : List VoxelValue → ℕ
cells_and_colours vs = sum_by (λ v. v.cell + v.rgb) vs

-- the same over all voxels of a tree
abbrev pub voxel_sum : Tree → ℕ
voxel_sum = total 0 cells_and_colours

-- a word and a number
abbrev pub number_line : List ℕ → ℕ → List ℕ
number_line word n = word ++ codes " " ++ decimal n ++ line_feed

-- the nodes: how many, and how many of each kind
abbrev pub kinds_line : ℕ → ℕ → ℕ → List ℕ
kinds_line all inner leaves = codes "nodes " ++ decimal all ++ codes " inner " ++ decimal inner ++ codes " leaf " ++ decimal leaves ++ line_feed

-- the whole text, of an octree in a cube whose points came in so many batches
abbrev pub demo_text : ℕ → Tree → CubeValue → List ℕ
demo_text batches t c =
    number_line (codes "points") (length (leaf_points t)) ++ number_line (codes "batches") batches ++ cube_line c
    ++ kinds_line (nodes t) (inner_count t) (leaf_count t) ++ number_line (codes "voxels") (voxel_count t) ++ number_line (codes "sum") (voxel_sum t)
