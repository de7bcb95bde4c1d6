-- The files of octrees.
use Rattle.std.specs.Prelude.{ℕ, ◌≡◌, ◌<◌, ◌≤◌, ◌^◌, List, [], ◌∷◌, ◌++◌, length, codes, All}
use Rattle.cube_math.specs.Points.{PointValue}
use Rattle.cube_math.specs.Cubes.{CubeValue, FitsSpace}
use Rattle.octree_model.specs.Octree.{octree}
use Rattle.octree_model.specs.declared.tree.Tree.{Tree}
use Rattle.octree_file.specs.Order.{IsCoordinate, IsPoint}
use Rattle.octree_file.specs.Spelling.{u32_bytes, i32_bytes, spelling}

-- what each file begins with: SLOD, and the number of the format
abbrev pub signature : List ℕ
signature = codes "SLOD" ++ 1 ∷ []

-- the head of a file: the signature, the cube's origin and its bits, and the leaf limit
abbrev pub head_bytes : ℕ → CubeValue → List ℕ
head_bytes leaf c = signature ++ i32_bytes c.ox ++ i32_bytes c.oy ++ i32_bytes c.oz ++ c.bits ∷ [] ++ u32_bytes leaf

-- the file of a tree in a cube with a leaf limit
abbrev pub tree_file : ℕ → CubeValue → Tree → List ℕ
tree_file leaf c t = head_bytes leaf c ++ spelling t

-- a leaf limit of files
abbrev pub IsLimit : ℕ → Type 0
IsLimit leaf = (1 ≤ leaf) × (leaf ≤ 50000)

-- points of which a file can have the octree
pub record ArePoints (ps : List PointValue) : Type 0 where
  pub each : All IsPoint ps
  pub few : length ps < 2 ^ 32

-- a cube of the space of 32-bit coordinates
pub record IsCube (c : CubeValue) : Type 0 where
  pub fits : FitsSpace c.ox c.oy c.oz c.bits
  pub x : IsCoordinate c.ox
  pub y : IsCoordinate c.oy
  pub z : IsCoordinate c.oz

-- the bytes are the file of the octree of these points
pub record IsFileOf (bytes : List ℕ) (c : CubeValue) (leaf : ℕ) (ps : List PointValue) : Type 0 where
  pub limit : IsLimit leaf
  pub cube : IsCube c
  pub points : ArePoints ps
  pub is : bytes ≡ tree_file leaf c (octree leaf c ps)

-- a tree is the octree in the cube, at this leaf limit, of some list of points
pub record IsTreeOf (leaf : ℕ) (c : CubeValue) (t : Tree) : Type 0 where
  pub points : List PointValue
  pub few : length points < 2 ^ 32
  pub is : t ≡ octree leaf c points
