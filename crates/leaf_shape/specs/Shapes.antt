-- The shape of an octree as its lists stand: for which paths lists were opened, and which list a point has.
use Rattle.std.specs.Prelude.{ℕ, ◌≡◌, ◌+◌, ◌<◌, ◌≤◌, List, [], ◌∷◌, ◌++◌, length, drop, IsTrue, slice_index_or, All}
use Rattle.cube_math.specs.Cubes.{CubeValue, contains, cube_at}
use Rattle.cube_math.specs.Points.{PointValue}

-- a shape as contracts see it: the cube of the root; for each list the path for which it was opened, in the order in
-- which lists were opened; and the paths for which lists are opened next, with no more memory
pub record ShapeValue : Type 0 where
  pub cube : CubeValue
  pub paths : List (List ℕ)
  pub ready : List (List ℕ)

-- a shape with the lists that a newer one has beyond its own number of lists
abbrev pub caught_up : ShapeValue → ShapeValue → ShapeValue
caught_up older newer = record { cube = older.cube; paths = older.paths ++ drop (length older.paths) newer.paths; ready = [] }

-- the path for which a list was opened
abbrev pub path_of : List (List ℕ) → ℕ → List ℕ
path_of paths list = slice_index_or paths list []

-- a path below a cube: octants, and no more of them than lead to a cube of 7 bits
pub record IsPathIn (cube : CubeValue) (path : List ℕ) : Type 0 where
  pub octants : All (λ g. g < 8) path
  pub fits : length path + 7 ≤ cube.bits

-- a list is the last one that was opened for a path
pub record IsLatest (paths : List (List ℕ)) (path : List ℕ) (list : ℕ) : Type 0 where
  pub opened : list < length paths
  pub is : path_of paths list ≡ path
  pub latest : (other : ℕ) → other < length paths → path_of paths other ≡ path → other ≤ list

-- a list is that of a point: its path is the longest whose cube contains the point, and it is the last one that was opened for that path
pub record IsListOf (cube : CubeValue) (paths : List (List ℕ)) (p : PointValue) (list : ℕ) : Type 0 where
  pub latest : IsLatest paths (path_of paths list) list
  pub contained : IsTrue (contains (cube_at cube (path_of paths list)) p)
  pub longest : (other : ℕ) → other < length paths → IsTrue (contains (cube_at cube (path_of paths other)) p)
      → length (path_of paths other) ≤ length (path_of paths list)

-- a path goes on from another one, or is that one
pub record GoesOn (from path : List ℕ) : Type 0 where
  pub rest : List ℕ
  pub is : path ≡ from ++ rest

-- a path goes on below another one
pub record IsBelow (above path : List ℕ) : Type 0 where
  pub octant : ℕ
  pub rest : List ℕ
  pub is : path ≡ above ++ octant ∷ rest

-- some list was opened below a path
pub record IsSplit (paths : List (List ℕ)) (path : List ℕ) : Type 0 where
  pub list : ℕ
  pub opened : list < length paths
  pub below : IsBelow path (path_of paths list)
