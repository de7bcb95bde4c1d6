-- Versions with the runs of their inner nodes, and the rows in them.
use Rattle.std.specs.Prelude.{ℕ, ◌≡◌, ◌<◌, ◌^◌, List, length, map, AllPairs, Contains}
use Rattle.std.specs.Ordering.{nat_cmp}
use Rattle.std.specs.Cmp.Lexicographic.{slice_cmp}
use Rattle.std.specs.declared.cmp.Ordering.TheVariants.{Less}
use Rattle.cube_math.specs.Cubes.{CubeValue}
use Rattle.version_rows.specs.Versions.{BatchRowValue, ChainsValue, VersionValue}
use Rattle.voxel_sampler.specs.Nears.{NearValue}
use Rattle.pinned_version.specs.Rows.{row_of}
use Rattle.pinned_version.specs.declared.node_row.NodeRow.{NodeRow}
use Rattle.pinned_version.specs.declared.node_row.Role.TheVariants.{Leaf, Inner}

-- a version: its cube, its nodes in path order with their chains or runs, and its batches in the order of their publications
pub record PinnedValue : Type 0 where
  pub cube : CubeValue
  pub nodes : List NodeRow
  pub batches : List BatchRowValue

-- the same without runs
abbrev pub version_of : PinnedValue → VersionValue
version_of v = record { cube = v.cube; nodes = map row_of v.nodes; batches = v.batches }

-- a node stands before another one in path order: the order of lists of octants
abbrev pub StandsBefore : List ℕ → List ℕ → Type 0
StandsBefore path other = slice_cmp nat_cmp path other ≡ Less

-- each row stands before all later ones
abbrev pub AreInPathOrder : List NodeRow → Type 0
AreInPathOrder rows = AllPairs (λ (a b : NodeRow). StandsBefore a.path b.path) rows

-- what holds of the rows of each version
pub record IsPinned (nodes : List NodeRow) (batches : List BatchRowValue) : Type 0 where
  pub order : AreInPathOrder nodes
  pub few : length batches < 2 ^ 32

-- the row is one of these, and has the path
pub record IsRowAt (rows : List NodeRow) (path : List ℕ) (row : NodeRow) : Type 0 where
  pub there : Contains rows row
  pub path_is : row.path ≡ path

-- and it is that of a leaf with these chains
pub record IsLeafRow (rows : List NodeRow) (path : List ℕ) (row : NodeRow) (chains : ChainsValue) : Type 0 where
  pub row_is : IsRowAt rows path row
  pub role : row.role ≡ Leaf chains

-- or that of an inner node with these runs
pub record IsInnerRow (rows : List NodeRow) (path : List ℕ) (row : NodeRow) (runs : List (List NearValue)) : Type 0 where
  pub row_is : IsRowAt rows path row
  pub role : row.role ≡ Inner runs
