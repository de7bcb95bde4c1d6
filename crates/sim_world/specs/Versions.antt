-- Versions in a world: what a publication leaves for those who look.
use Rattle.std.specs.Prelude.{ℕ, suc, List, [], ◌∷◌, ◌++◌, ◌==◌, ◌&&◌, Bool, true, false, map, filter, flat_map, Option, Some, None, if◌then◌else◌}
use Rattle.cube_math.specs.Points.{PointValue}
use Rattle.cube_math.specs.Cubes.{CubeValue, contains}
use Rattle.octree_model.specs.Numbers.{has}
use Rattle.octree_model.specs.declared.outline.OutlineNode.{OutlineNode}
use Rattle.record_model.specs.Records.{JournalEntry}
use Rattle.version_rows.specs.Versions.{ChainsValue}

-- a leaf: its path, its cube, the number of its list, and the chains of this list
pub record LeafRow : Type 0 where
  pub path : List ℕ
  pub cube : CubeValue
  pub list : ℕ
  pub chains : ChainsValue

-- a published batch: its entry in the journal, and the number of its first item
pub record PublishedBatch : Type 0 where
  pub entry : JournalEntry
  pub first : ℕ

-- a version: the leaves in path order, and the batches in the order of their publications
pub record WorldVersion : Type 0 where
  pub leaves : List LeafRow
  pub batches : List PublishedBatch

-- chains without chunks
abbrev pub no_chains : ChainsValue
no_chains = record { claimed = []; owned = [] }

-- the version before the first publication: the root is a leaf
abbrev pub opening_version : CubeValue → WorldVersion
opening_version cube = record { leaves = record { path = []; cube = cube; list = 0; chains = no_chains } ∷ []; batches = [] }

-- the entries of a version
abbrev pub entries : WorldVersion → List JournalEntry
entries v = map (λ (b : PublishedBatch). b.entry) v.batches

-- points with the item numbers from n on
abbrev pub numbered : ℕ → List PointValue → List (ℕ × PointValue)
numbered n [] = []
numbered n (p ∷ ps) = (n, p) ∷ numbered (suc n) ps

-- the published points with their item numbers, in the order of publication
abbrev pub published_items : WorldVersion → List (ℕ × PointValue)
published_items v = flat_map (λ (b : PublishedBatch). numbered b.first b.entry.points) v.batches

-- the published points
abbrev pub points_in : WorldVersion → List PointValue
points_in v = map (λ x. x.1) (published_items v)

-- those of them that lie in a cube and whose items are among the found ones
abbrev pub found_points : CubeValue → List (ℕ × PointValue) → List ℕ → List PointValue
found_points cube items found = map (λ x. x.1) (filter (λ x. contains cube x.1 && has x.0 found) items)

-- the chunks of a leaf's list, in the order in which they are read
abbrev pub chunks_of : LeafRow → List ℕ
chunks_of r = r.chains.claimed ++ r.chains.owned

-- a leaf as a node of the octree
abbrev pub leaf_node : LeafRow → OutlineNode
leaf_node r = record { path = r.path; cube = r.cube; inner = false }

-- whether two paths are one
abbrev pub is_same_path : List ℕ → List ℕ → Bool
is_same_path [] [] = true
is_same_path [] (h ∷ hs) = false
is_same_path (g ∷ gs) [] = false
is_same_path (g ∷ gs) (h ∷ hs) = g == h && is_same_path gs hs

-- the leaf with a path
abbrev pub row_with : List ℕ → List LeafRow → Option LeafRow
row_with path [] = None
row_with path (r ∷ rs) = if is_same_path r.path path then Some r else row_with path rs

-- the leaf in whose cube a point lies
abbrev pub row_for : PointValue → List LeafRow → Option LeafRow
row_for p [] = None
row_for p (r ∷ rs) = if contains r.cube p then Some r else row_for p rs

-- the list of a leaf
abbrev pub list_or_0 : Option LeafRow → ℕ
list_or_0 None = 0
list_or_0 (Some r) = r.list

-- the list that takes a point
abbrev pub list_for : List LeafRow → PointValue → ℕ
list_for rows p = list_or_0 (row_for p rows)
