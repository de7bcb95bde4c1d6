-- How counts change.
use Rattle.std.specs.Prelude.{ℕ, List, [], ◌∷◌}
use Rattle.leaf_counts.specs.declared.counts.Counts.{Counts, Leaf, Inner, out-Counts}
use Rattle.leaf_counts.specs.declared.counts.Counts.TheOpen.{Counts-F}
use Rattle.leaf_counts.specs.declared.growth.Growth.{Growth}
use Rattle.leaf_counts.specs.declared.growth.Growth.TheOpen.{Growth-F}
use Rattle.leaf_counts.specs.declared.growth.Growth.TheFolds.{fold-Growth}

-- some counts, each changed by the change at its place, and put into the place that was kept for it
abbrev pub grown_each : List (Counts → Counts) → List Counts → List Counts → List Counts
grown_each [] counts places = places
grown_each (grow ∷ others) [] places = places
grown_each (grow ∷ others) (counts ∷ more) [] = []
grown_each (grow ∷ others) (counts ∷ more) (place ∷ places) = grow counts ∷ grown_each others more places

-- an inner node with a new count and its children changed; a leaf has no children to change
abbrev pub grown_inner : ℕ → List (Counts → Counts) → List Counts → Counts-F Counts → Counts
grown_inner count changes places (Counts-F.Leaf n) = Leaf n
grown_inner count changes places (Counts-F.Inner n below) = Inner count (grown_each changes below places)

-- what becomes of counts: they stay, or are replaced, or an inner node's count and children change
abbrev pub layer_grown : Growth-F (Counts → Counts) → Counts → Counts
layer_grown Growth-F.Same counts = counts
layer_grown (Growth-F.New new) counts = new
layer_grown (Growth-F.Each count changes places) counts = grown_inner count changes places (out-Counts counts)

-- counts after a change
abbrev pub grown : Growth → Counts → Counts
grown = fold-Growth (Counts → Counts) layer_grown
