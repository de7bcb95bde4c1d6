-- Lists that belong to the leaves of an octree that grows.
use Rattle.std.proofs.Common.{◌≡◌, ◌⊎◌, ℕ, ◌<◌, ◌≤◌, inl, inr, Bool, true, false, List, ◌++◌, length, Contains, IsTrue, refl, sym, ◌∙◌, subst, arith}
use Rattle.std.proofs.lemmas.Bool.{and_parts, and_from, lt-ltb, ltb-true}
use Rattle.cube_math.specs.Points.{PointValue}
use Rattle.cube_math.specs.Cubes.{contains, cube_at}
use Rattle.cube_math.specs.declared.config.Config.{Config}
use Rattle.chunk_needs.specs.Leaves.{is_leaf_of}
use Rattle.list_words.specs.Store.{Store, IsOpen}
use Rattle.item_moves.specs.Aimed.{AreAimed}
use Rattle.item_moves.specs.Homes.{AreHomed}
use Rattle.leaf_aims.specs.Listed.{AreListed, covers_of, guest_of}

differ : false ≡ true → ⊥
differ e = cc

bool_cases : (b : Bool) → (b ≡ true) ⊎ (b ≡ false)
bool_cases true = inl refl
bool_cases false = inr refl

-- leaves whose cubes contain the same point are one
abbrev pub OneLeaf : Config → Type 0
OneLeaf config =
    (points : List PointValue) (p : PointValue) (path other : List ℕ) → IsTrue (is_leaf_of config points path) → IsTrue (is_leaf_of config points other)
    → IsTrue (contains (cube_at config.cube path) p) → IsTrue (contains (cube_at config.cube other) p) → path ≡ other

module _ (config : Config) (before batch : List PointValue) (point : ℕ → PointValue) (lists : ℕ) (path : ℕ → List ℕ) (born ended : ℕ → ℕ) (s : Store)
    (leaf : ℕ → ℕ) (homes splits : List ℕ) (one : OneLeaf config)
    (h : AreListed config before batch point (length homes) lists path born ended s leaf splits) where
  abbrev covers : ℕ → ℕ → Bool
  covers = covers_of config point ended lists path

  abbrev guest : ℕ → ℕ → Bool
  guest = guest_of config point path born

  item_of : (l x : ℕ) → IsTrue (covers l x) → x < length homes
  item_of l x can = let early : x < ended l = ltb-true x (ended l) (and_parts _ _ can).0 in let few : ended l ≤ length homes = h.few l in omega arith

  list_of : (l x : ℕ) → IsTrue (covers l x) → l < lists
  list_of l x can = ltb-true l lists (and_parts _ _ (and_parts _ _ can).1).0

  has_of : (l x : ℕ) → IsTrue (covers l x) → IsTrue (contains (cube_at config.cube (path l)) (point x))
  has_of l x can = (and_parts _ _ (and_parts _ _ can).1).1

  -- the leaf of an open list has not ended
  lasting : (l x : ℕ) → IsOpen s l → x < length homes → x < ended l
  lasting l x o low = let all : ended l ≡ length homes = h.lasts l o in omega arith

  -- an open list of a leaf in which a point lies is that of the point's leaf
  own_list : (l x : ℕ) → x < length homes → IsOpen s l → IsTrue (is_leaf_of config (before ++ batch) (path l))
      → IsTrue (contains (cube_at config.cube (path l)) (point x)) → l ≡ leaf x
  own_list l x low o is has =
      h.apart l (leaf x) o (h.leaf_open x low) (one (before ++ batch) (point x) (path l) (path (leaf x)) is (h.leaf_is x low) has (h.leaf_has x low))

  not_split : (x : ℕ) → x < length homes → Contains splits (leaf x) → ⊥
  not_split x low c = differ (sym (h.split_gone (leaf x) c) ∙ h.leaf_is x low)

  -- lists of split leaves in which a point lies are one
  one_split : (l m x : ℕ) → Contains splits l → Contains splits m → IsTrue (contains (cube_at config.cube (path l)) (point x))
      → IsTrue (contains (cube_at config.cube (path m)) (point x)) → l ≡ m
  one_split l m x c d has also = h.apart l m (h.takes l c) (h.takes m d) (one before (point x) (path l) (path m) (h.split_was l c) (h.split_was m d) has also)

  -- the leaf of a point of a leaf that was split is new
  new_leaf : (l x : ℕ) → Contains splits l → IsTrue (covers l x) → is_leaf_of config before (path (leaf x)) ≡ false
  new_leaf l x c can = elim (bool_cases (is_leaf_of config before (path (leaf x)))) [
    | inr e ↦ e
    | inl e ↦
        let low : x < length homes = item_of l x can in
        let same : l ≡ leaf x =
        h.apart l (leaf x) (h.takes l c) (h.leaf_open x low)
        (one before (point x) (path l) (path (leaf x)) (h.split_was l c) e (has_of l x can) (h.leaf_has x low)) in
        absurd (not_split x low (subst (Contains splits) same c))
  ]

  pub aimed_are : (knows : ℕ → ℕ → ℕ → Type 0) → AreHomed s knows guest homes → AreAimed s leaf covers guest homes splits
  aimed_are knows homed = record {
    open_leaf = h.leaf_open;
    apart = not_split;
    home = λ l x low o e.
        let has : IsTrue (contains (cube_at config.cube (path l)) (point x)) = (and_parts _ _ (homed.guests l x o low e)).1 in
        elim (h.open_is l o) [
          | inr is ↦ inl (own_list l x low o is has)
          | inl split ↦ inr (split, and_from _ _ (lt-ltb x (ended l) (lasting l x o low)) (and_from _ _ (lt-ltb l lists (h.below l o)) has))
        ];
    admitted = item_of;
    here = λ l x can. elim (h.opened l (list_of l x can)) [
      | inr shut ↦ inl shut
      | inl o ↦ elim (h.open_is l o) [
        | inl split ↦ inr (inl split)
        | inr is ↦ inr (inr (sym (own_list l x (item_of l x can) o is (has_of l x can))))
      ]
    ];
    single = λ l m x c d can also. one_split l m x c d (has_of l x can) (has_of m x also);
    guests = λ l x c can.
        let low : x < length homes = item_of l x can in
        let early : x < born (leaf x) = omega (arith, low, h.fresh (leaf x) (h.leaf_open x low) (new_leaf l x c can)) in
        and_from _ _ (lt-ltb x (born (leaf x)) early) (h.leaf_has x low);
  }
