-- What is kept of points, one level after the other.
use Rattle.std.proofs.Common.{◌≡◌, ◌⊎◌, ℕ, zero, suc, ◌-◌, ◌<◌, ◌≤◌, inl, inr, List, ◌++◌, map, length, ap, ◌∙◌, sym, refl, arith, IsTrue}
use Rattle.std.specs.List.{All}
use Rattle.std.proofs.lemmas.Bool.{cases_lt, le-leb, lt-leb}
use Rattle.std.proofs.lemmas.List.Elements.{filter-append}
use Rattle.cube_math.specs.Points.{PointValue}
use Rattle.cube_math.specs.Cubes.{CubeValue, contains, child}
use Rattle.octree_model.specs.Numbers.{up_to}
use Rattle.octree_model.specs.Octree.{inside}
use Rattle.octree_model.proofs.OctreeLaws.{all_inside, inside_twice}
use Rattle.voxel_sampler.specs.Nears.{nears}
use Rattle.batch_levels.specs.declared.level.Level.{out-Level, out-roll-Level}
use Rattle.batch_levels.specs.declared.level.Level.TheOpen.{Level-F}
use Rattle.batch_levels.specs.declared.level.Level.TheVariants.{Leaf, Inner, rolls-Leaf, rolls-Inner}
use Rattle.batch_levels.specs.declared.level.InnerLevel.{InnerLevel}
use Rattle.batch_levels.specs.Levels.{level_at, level_of}

out-Leaf : (ps : List PointValue) → out-Level (Leaf ps) ≡ Level-F.Leaf ps
out-Leaf ps = ap out-Level (sym (rolls-Leaf ps)) ∙ out-roll-Level (Level-F.Leaf ps)

out-Inner : (n : InnerLevel) → out-Level (Inner n) ≡ Level-F.Inner n
out-Inner n = ap out-Level (sym (rolls-Inner n)) ∙ out-roll-Level (Level-F.Inner n)

-- an inner node is no leaf; a leaf has one list, and an inner node one record
pub no_leaf : (n : InnerLevel) (ps : List PointValue) → Inner n ≡ Leaf ps → ⊥
no_leaf n ps e = let same : Level-F.Inner n ≡ Level-F.Leaf ps = sym (out-Inner n) ∙ ap out-Level e ∙ out-Leaf ps in cc

same_leaf : (ps qs : List PointValue) → Leaf ps ≡ Leaf qs → ps ≡ qs
same_leaf ps qs e = let same : Level-F.Leaf ps ≡ Level-F.Leaf qs = sym (out-Leaf ps) ∙ ap out-Level e ∙ out-Leaf qs in cc

same_node : (m n : InnerLevel) → Inner m ≡ Inner n → m ≡ n
same_node m n e = let same : Level-F.Inner m ≡ Level-F.Inner n = sym (out-Inner m) ∙ ap out-Level e ∙ out-Inner n in cc

-- a cube sees its own points alone
level_at-same : (leaf depth : ℕ) (c : CubeValue) (ps qs : List PointValue) → inside c ps ≡ inside c qs → level_at leaf depth c ps ≡ level_at leaf depth c qs
unfolding level_at
level_at-same leaf zero c ps qs e = ap Leaf e
level_at-same leaf (suc depth) c ps qs e = rw e refl

pub level_same : (leaf : ℕ) (c : CubeValue) (ps qs : List PointValue) → inside c ps ≡ inside c qs → level_of leaf c ps ≡ level_of leaf c qs
level_same leaf c ps qs e = level_at-same leaf (c.bits - 7) c ps qs e

-- the inner node of points in its cube
abbrev pub node_of : ℕ → CubeValue → List PointValue → InnerLevel
node_of leaf c q = record { count = length q; runs = nears c q; levels = map (λ g. level_of leaf (child c g) q) (up_to 8) }

leaf_at : (leaf depth : ℕ) (c : CubeValue) (ps : List PointValue) → (length (inside c ps) ≤ leaf) ⊎ (depth ≡ 0) → level_at leaf depth c ps ≡ Leaf (inside c ps)
unfolding level_at
leaf_at leaf zero c ps h = refl
leaf_at leaf (suc depth) c ps h =
    let few : length (inside c ps) ≤ leaf = elim h [ inl l ↦ l | inr z ↦ absurd (omega arith) ] in
    rw (le-leb _ _ few) refl

inner_at : (leaf depth below : ℕ) (c : CubeValue) (ps : List PointValue) → leaf < length (inside c ps) → depth ≡ suc below
    → level_at leaf depth c ps ≡ Inner record { count = length (inside c ps); runs = nears c (inside c ps); levels = map (λ g. level_at leaf below (child c g) (inside c ps)) (up_to 8) }
unfolding level_at
inner_at leaf zero below c ps more d = absurd (omega arith)
inner_at leaf (suc depth) below c ps more d =
    let same : depth ≡ below = omega arith in
    let q : List PointValue = inside c ps in
    rw (lt-leb _ _ more) (ap (λ k. Inner record { count = length q; runs = nears c q; levels = map (λ g. level_at leaf k (child c g) q) (up_to 8) }) same)

pub is_leaf : (leaf : ℕ) (c : CubeValue) (ps : List PointValue) → (length (inside c ps) ≤ leaf) ⊎ (c.bits ≤ 7) → level_of leaf c ps ≡ Leaf (inside c ps)
is_leaf leaf c ps h = leaf_at leaf (c.bits - 7) c ps (elim h [ inl l ↦ inl l | inr low ↦ inr (omega arith) ])

pub is_inner : (leaf : ℕ) (c : CubeValue) (ps : List PointValue) → leaf < length (inside c ps) → 7 < c.bits → level_of leaf c ps ≡ Inner (node_of leaf c (inside c ps))
is_inner leaf c ps more high = inner_at leaf (c.bits - 7) (c.bits - 1 - 7) c ps more (omega arith)

-- a leaf has the points of its cube
pub record IsLeafOf (leaf : ℕ) (c : CubeValue) (ps xs : List PointValue) : Type 0 where
  pub points : xs ≡ inside c ps
  pub stays : (length (inside c ps) ≤ leaf) ⊎ (c.bits ≤ 7)

pub leaf_of : (leaf : ℕ) (c : CubeValue) (ps xs : List PointValue) → Leaf xs ≡ level_of leaf c ps → IsLeafOf leaf c ps xs
leaf_of leaf c ps xs e =
    elim (cases_lt leaf (length (inside c ps))) [
      | inl more ↦ elim (cases_lt 7 c.bits) [
        | inl high ↦ absurd (no_leaf _ xs (sym (e ∙ is_inner leaf c ps more high)))
        | inr low ↦ record { points = same_leaf xs _ (e ∙ is_leaf leaf c ps (inr low)); stays = inr low }
      ]
      | inr few ↦ record { points = same_leaf xs _ (e ∙ is_leaf leaf c ps (inl few)); stays = inl few }
    ]

-- an inner node is that of the points of its cube
pub record IsInnerOf (leaf : ℕ) (c : CubeValue) (ps : List PointValue) (n : InnerLevel) : Type 0 where
  pub splits : 7 < c.bits
  pub more : leaf < length (inside c ps)
  pub is : n ≡ node_of leaf c (inside c ps)

pub inner_of : (leaf : ℕ) (c : CubeValue) (ps : List PointValue) (n : InnerLevel) → Inner n ≡ level_of leaf c ps → IsInnerOf leaf c ps n
inner_of leaf c ps n e =
    elim (cases_lt leaf (length (inside c ps))) [
      | inl more ↦ elim (cases_lt 7 c.bits) [
        | inl high ↦ record { splits = high; more = more; is = same_node n _ (e ∙ is_inner leaf c ps more high) }
        | inr low ↦ absurd (no_leaf n _ (e ∙ is_leaf leaf c ps (inr low)))
      ]
      | inr few ↦ absurd (no_leaf n _ (e ∙ is_leaf leaf c ps (inl few)))
    ]

-- ---- points that lie in the cube
pub leaf_of_points : (leaf : ℕ) (c : CubeValue) (ps : List PointValue) → All (λ p. IsTrue (contains c p)) ps → (length ps ≤ leaf) ⊎ (c.bits ≤ 7) → Leaf ps ≡ level_of leaf c ps
leaf_of_points leaf c ps h stays =
    let whole : inside c ps ≡ ps = all_inside c ps h in
    ap Leaf (sym whole) ∙ sym (is_leaf leaf c ps (elim stays [ inl few ↦ inl (omega (arith, ap length whole)) | inr low ↦ inr low ]))

pub inner_of_points : (leaf : ℕ) (c : CubeValue) (ps : List PointValue) → All (λ p. IsTrue (contains c p)) ps → leaf < length ps → 7 < c.bits → Inner (node_of leaf c ps) ≡ level_of leaf c ps
inner_of_points leaf c ps h more high =
    let whole : inside c ps ≡ ps = all_inside c ps h in
    ap (λ q. Inner (node_of leaf c q)) (sym whole) ∙ sym (is_inner leaf c ps (omega (arith, ap length whole)) high)

-- ---- the points of both, where the second ones lie in the cube
pub inside_both : (c : CubeValue) (ps qs : List PointValue) → All (λ p. IsTrue (contains c p)) qs → inside c (ps ++ qs) ≡ inside c ps ++ qs
inside_both c ps qs h = filter-append (contains c) ps qs ∙ ap (λ (xs : List PointValue). inside c ps ++ xs) (all_inside c qs h)

pub level_both : (leaf : ℕ) (c : CubeValue) (ps qs : List PointValue) → level_of leaf c (inside c ps ++ qs) ≡ level_of leaf c (ps ++ qs)
level_both leaf c ps qs =
    level_same leaf c (inside c ps ++ qs) (ps ++ qs)
    (filter-append (contains c) (inside c ps) qs ∙ ap (λ (xs : List PointValue). xs ++ inside c qs) (inside_twice c ps) ∙ sym (filter-append (contains c) ps qs))
