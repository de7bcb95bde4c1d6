-- Versions: what a publication leaves for those who look.
use Rattle.std.specs.Prelude.{ℕ, Bool, true, false, List}
use Rattle.cube_math.specs.Cubes.{CubeValue}

-- the chunks of the two chains of a leaf's list
pub record ChainsValue : Type 0 where
  pub claimed : List ℕ
  pub owned : List ℕ

-- what a node is: an inner node, or a leaf with the chains of its list
pub data RoleValue : Type 0 where
  Inner : RoleValue
  Leaf : ChainsValue → RoleValue

-- whether it is an inner node
abbrev pub is_inner : RoleValue → Bool
is_inner Inner = true
is_inner (Leaf chains) = false

-- a node: where it stands, its cube, how many published points lie in it, how many admitted ones, and what it is
pub record NodeRowValue : Type 0 where
  pub path : List ℕ
  pub cube : CubeValue
  pub count : ℕ
  pub admitted : ℕ
  pub role : RoleValue

-- a published batch: the number of its publication, its input, its loader, the number of its first item, and its length
pub record BatchRowValue : Type 0 where
  pub number : ℕ
  pub input : ℕ
  pub loader : ℕ
  pub first : ℕ
  pub len : ℕ

-- a version: its cube, its nodes in path order, and its batches in the order of their publications; it holds no points
pub record VersionValue : Type 0 where
  pub cube : CubeValue
  pub nodes : List NodeRowValue
  pub batches : List BatchRowValue
