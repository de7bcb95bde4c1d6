-- The paths of leaves and of inner nodes, in path order.
use Rattle.std.specs.Prelude.{ℕ, ◌+◌, List, [], ◌∷◌, ◌++◌, map}
use Rattle.leaf_counts.specs.declared.counts.Counts.{Counts}
use Rattle.leaf_counts.specs.declared.counts.Counts.TheOpen.{Counts-F}
use Rattle.leaf_counts.specs.declared.counts.Counts.TheFolds.{fold-Counts}

-- lists of paths, each led by one octant more, which is g at the first list
abbrev pub paths_below : ℕ → List (List (List ℕ)) → List (List ℕ)
paths_below g [] = []
paths_below g (paths ∷ others) = map (λ path. g ∷ path) paths ++ paths_below (g + 1) others

-- a leaf's own path, or those of the leaves below an inner node
abbrev pub layer_leaves : Counts-F (List (List ℕ)) → List (List ℕ)
layer_leaves (Counts-F.Leaf n) = [] ∷ []
layer_leaves (Counts-F.Inner n below) = paths_below 0 below

-- the paths of all leaves, from a node on
abbrev pub leaf_paths : Counts → List (List ℕ)
leaf_paths = fold-Counts (List (List ℕ)) layer_leaves

-- an inner node's own path and those of the inner nodes below it
abbrev pub layer_inner : Counts-F (List (List ℕ)) → List (List ℕ)
layer_inner (Counts-F.Leaf n) = []
layer_inner (Counts-F.Inner n below) = [] ∷ paths_below 0 below

-- the paths of all inner nodes, from a node on
abbrev pub inner_paths : Counts → List (List ℕ)
inner_paths = fold-Counts (List (List ℕ)) layer_inner
