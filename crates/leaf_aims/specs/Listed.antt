-- Lists that belong to the leaves of an octree that grows.
use Rattle.std.specs.Prelude.{◌≡◌, ◌⊎◌, ℕ, ◌<◌, ◌≤◌, Bool, false, ◌&&◌, nat_lt, List, ◌++◌, Contains, IsTrue}
use Rattle.cube_math.specs.Points.{PointValue}
use Rattle.cube_math.specs.Cubes.{contains, cube_at}
use Rattle.cube_math.specs.declared.config.Config.{Config}
use Rattle.chunk_needs.specs.Leaves.{is_leaf_of}
use Rattle.list_words.specs.Store.{Store, IsOpen, IsShut}

-- whether one of the first lists is or was that of a leaf in whose cube the point of an item lies, and the item was admitted
-- before that leaf ended, as leaves end that are split
abbrev pub covers_of : Config → (ℕ → PointValue) → (ℕ → ℕ) → ℕ → (ℕ → List ℕ) → ℕ → ℕ → Bool
covers_of config point ended lists path l x = nat_lt x (ended l) && (nat_lt l lists && contains (cube_at config.cube (path l)) (point x))

-- whether an item was admitted before a list was opened, and its point lies in the cube of the list's leaf
abbrev pub guest_of : Config → (ℕ → PointValue) → (ℕ → List ℕ) → (ℕ → ℕ) → ℕ → ℕ → Bool
guest_of config point path born l x = nat_lt x (born l) && contains (cube_at config.cube (path l)) (point x)

-- Lists once those of new leaves are opened, and before those of the leaves that were split are swept: the points `before`
-- were published, and the points `batch` come to them. The first lists were opened, each for the leaf of a path, and n
-- items were admitted; `born` is how many of them were when a list was opened, and `ended` how many were when its leaf ended,
-- which is all of them for a list that takes items. Each open list is that of a leaf, or is to be swept; no two are of one path;
-- and each item's leaf has an open list, in whose cube its point lies
pub record AreListed (config : Config) (before batch : List PointValue) (point : ℕ → PointValue) (n lists : ℕ) (path : ℕ → List ℕ) (born ended : ℕ → ℕ)
    (s : Store) (leaf : ℕ → ℕ) (splits : List ℕ) : Type 0 where
  pub takes : (l : ℕ) → Contains splits l → IsOpen s l
  pub split_was : (l : ℕ) → Contains splits l → IsTrue (is_leaf_of config before (path l))
  pub split_gone : (l : ℕ) → Contains splits l → is_leaf_of config (before ++ batch) (path l) ≡ false
  pub open_is : (l : ℕ) → IsOpen s l → Contains splits l ⊎ IsTrue (is_leaf_of config (before ++ batch) (path l))
  pub apart : (l m : ℕ) → IsOpen s l → IsOpen s m → path l ≡ path m → l ≡ m
  pub fresh : (l : ℕ) → IsOpen s l → is_leaf_of config before (path l) ≡ false → born l ≡ n
  pub few : (l : ℕ) → ended l ≤ n
  pub lasts : (l : ℕ) → IsOpen s l → ended l ≡ n
  pub below : (l : ℕ) → IsOpen s l → l < lists
  pub opened : (l : ℕ) → l < lists → IsOpen s l ⊎ IsShut s l
  pub leaf_open : (x : ℕ) → x < n → IsOpen s (leaf x)
  pub leaf_is : (x : ℕ) → x < n → IsTrue (is_leaf_of config (before ++ batch) (path (leaf x)))
  pub leaf_has : (x : ℕ) → x < n → IsTrue (contains (cube_at config.cube (path (leaf x))) (point x))
