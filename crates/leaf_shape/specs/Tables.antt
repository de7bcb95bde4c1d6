-- The table of a shape's nodes, by octants.
use Rattle.std.specs.Prelude.{ℕ, ◌≡◌, ◌≢◌, ◌+◌, ◌<◌, ◌≤◌, ◌⊎◌, List, [], ◌∷◌, length, Option, Some, None, IsSome, option_and_then, nat_lt, if◌then◌else◌, slice_index_or}
use Rattle.std.specs.Option.{option_map_or}
use Rattle.leaf_shape.specs.declared.node.Node.{Node}
use Rattle.leaf_shape.specs.Shapes.{IsBelow, IsLatest, IsSplit, path_of}

-- a node with no children and no list
abbrev pub bare : Node
bare = record { below = None; list = None }

-- the node with a number; past the last one, a bare one
abbrev pub node : List Node → ℕ → Node
node nodes i = slice_index_or nodes i bare

-- the number of the node to which a path leads from a node
abbrev pub node_at : List Node → ℕ → List ℕ → Option ℕ
node_at nodes i [] = Some i
node_at nodes i (g ∷ path) = if nat_lt g 8 then option_and_then (λ first. node_at nodes (first + g) path) (node nodes i).below else None

-- the list at the node to which a path leads from the root
abbrev pub list_at : List Node → List ℕ → Option ℕ
list_at nodes path = option_and_then (λ i. (node nodes i).list) (node_at nodes 0 path)

-- how many nodes are missing on a path from a node
abbrev pub missing : List Node → ℕ → List ℕ → ℕ
missing nodes i [] = 0
missing nodes i (g ∷ path) = option_map_or (λ first. missing nodes (first + g) path) (node nodes i).below (length path + 1)

-- the nodes are a tree: the eight children of a node stand one behind the other, and to no node two paths lead
pub record IsTree (nodes : List Node) : Type 0 where
  pub some : 0 < length nodes
  pub eight : (i first : ℕ) → (node nodes i).below ≡ Some first → first + 8 ≤ length nodes
  pub single : (path other : List ℕ) (i : ℕ) → node_at nodes 0 path ≡ Some i → node_at nodes 0 other ≡ Some i → path ≡ other

-- at the node of each path stands the list that was opened last for it, and at no other node a list; and only nodes below
-- which a list was opened have children
pub record AreListed (nodes : List Node) (paths : List (List ℕ)) : Type 0 where
  pub tree : IsTree nodes
  pub named : (path : List ℕ) (list : ℕ) → list_at nodes path ≡ Some list → IsLatest paths path list
  pub found : (list : ℕ) → list < length paths → IsSome (list_at nodes (path_of paths list))
  pub used : (path : List ℕ) (i first : ℕ) → node_at nodes 0 path ≡ Some i → (node nodes i).below ≡ Some first → IsSplit paths path

-- nodes before and after a node was given children, unless it had some
pub record HasChildren (old new : List Node) (i first : ℕ) : Type 0 where
  pub below : (node new i).below ≡ Some first
  pub list : (node new i).list ≡ (node old i).list
  pub others : (j : ℕ) → j ≢ i → j < length old → node new j ≡ node old j
  pub fresh : (j : ℕ) → length old ≤ j → node new j ≡ bare
  pub longer : length old ≤ length new
  pub eight : first + 8 ≤ length new
  pub made : ((node old i).below ≡ Some first) ⊎ ((node old i).below ≡ None) × (first ≡ length old)

-- a node with children stands at a path
pub record HasChildrenAt (nodes : List Node) (path : List ℕ) : Type 0 where
  pub number : ℕ
  pub first : ℕ
  pub at : node_at nodes 0 path ≡ Some number
  pub below : (node nodes number).below ≡ Some first

-- nodes before and after a list was opened for a path, at a node
pub record IsOpened (old new : List Node) (path : List ℕ) (list i : ℕ) : Type 0 where
  pub tree : IsTree new
  pub kept : (other : List ℕ) (j : ℕ) → node_at old 0 other ≡ Some j → node_at new 0 other ≡ Some j
  pub here : node_at new 0 path ≡ Some i
  pub noted : list_at new path ≡ Some list
  pub others : (other : List ℕ) → other ≢ path → list_at new other ≡ list_at old other
  pub used : (other : List ℕ) (j first : ℕ) → node_at new 0 other ≡ Some j → (node new j).below ≡ Some first → HasChildrenAt old other ⊎ IsBelow other path
