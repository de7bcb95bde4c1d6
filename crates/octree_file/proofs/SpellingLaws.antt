-- How trees are spelled.
use Rattle.std.proofs.Common.{◌≡◌, List, [], ◌∷◌, ◌++◌, map, flat_map, length, ap, ◌∙◌, sym, refl, ℕ}
use Rattle.cube_math.specs.Points.{PointValue}
use Rattle.octree_model.specs.declared.tree.Tree.{Tree}
use Rattle.octree_model.specs.declared.tree.Tree.TheOpen.{Tree-F}
use Rattle.octree_model.specs.declared.tree.Tree.TheFolds.{fold-roll-Tree, fold-roll-InnerNode}
use Rattle.octree_model.specs.declared.tree.Tree.TheVariants.{Leaf, Inner, rolls-Leaf, rolls-Inner}
use Rattle.octree_model.specs.declared.tree.InnerNode.{InnerNode}
use Rattle.octree_file.specs.Spelling.{leaf_bytes, node_bytes, spelling, tree_bytes, u32_bytes, voxel_bytes}

pub spelling-Leaf : (ps : List PointValue) → spelling (Leaf ps) ≡ leaf_bytes ps
spelling-Leaf ps = ap spelling (sym (rolls-Leaf ps)) ∙ fold-roll-Tree (List ℕ) (List ℕ) tree_bytes node_bytes (Tree-F.Leaf ps)

one_by_one : (ts : List Tree) → flat_map (λ (spelled : List ℕ). spelled) (map spelling ts) ≡ flat_map spelling ts
one_by_one [] = refl
one_by_one (t ∷ ts) = ap (λ (bytes : List ℕ). spelling t ++ bytes) (one_by_one ts)

-- what an inner node has before its trees
abbrev pub before_trees : InnerNode → List ℕ
before_trees n = 1 ∷ u32_bytes (length n.voxels) ++ flat_map voxel_bytes n.voxels

pub spelling-Inner : (n : InnerNode) → spelling (Inner n) ≡ before_trees n ++ flat_map spelling n.trees
spelling-Inner n =
    ap spelling (sym (rolls-Inner n)) ∙ fold-roll-Tree (List ℕ) (List ℕ) tree_bytes node_bytes (Tree-F.Inner n)
    ∙ fold-roll-InnerNode (List ℕ) (List ℕ) tree_bytes node_bytes record { count = n.count; voxels = n.voxels; trees = n.trees }
    ∙ ap (λ (bytes : List ℕ). before_trees n ++ bytes) (one_by_one n.trees)
