-- Laws of the octree.
use Rattle.std.proofs.Common.{◌≡◌, ℕ, zero, suc, ◌<◌, ◌≤◌, ◌⊎◌, inl, inr, true, false, ◌&&◌, cond, List, [], ◌∷◌, map, length, nat_eq, ap, ◌∙◌, sym, refl, arith, IsTrue}
use Rattle.std.specs.List.{All}
use Rattle.std.proofs.lemmas.List.Elements.{filter_passes, All-tail}
use Rattle.std.proofs.lemmas.Bool.{le-leb, lt-leb}
use Rattle.cube_math.specs.Points.{PointValue}
use Rattle.cube_math.specs.Cubes.{CubeValue, contains, child, octant}
use Rattle.cube_math.proofs.Halves.{child_has}
use Rattle.octree_model.specs.Numbers.{up_to}
use Rattle.octree_model.specs.Octree.{inside, octree_at}
use Rattle.octree_model.specs.Voxels.{voxels}
use Rattle.octree_model.specs.declared.tree.Tree.{Leaf, Inner}

pub all_inside : (c : CubeValue) (ps : List PointValue) → All (λ p. IsTrue (contains c p)) ps → inside c ps ≡ ps
all_inside c [] h = refl
all_inside c (p ∷ ps) h = rw (h 0 p (omega arith)) (ap (λ (qs : List PointValue). p ∷ qs) (all_inside c ps (All-tail (λ x. IsTrue (contains c x)) p ps h)))

pub inside_twice : (c : CubeValue) (ps : List PointValue) → inside c (inside c ps) ≡ inside c ps
inside_twice c ps = all_inside c (inside c ps) (filter_passes (contains c) ps)

-- a cube sees its own points alone
pub octree_at-inside : (leaf depth : ℕ) (c : CubeValue) (ps : List PointValue) → octree_at leaf depth c (inside c ps) ≡ octree_at leaf depth c ps
unfolding octree_at
octree_at-inside leaf zero c ps = ap Leaf (inside_twice c ps)
octree_at-inside leaf (suc depth) c ps = rw (inside_twice c ps) refl

pub leaf_by_count : (leaf depth : ℕ) (c : CubeValue) (ps : List PointValue) → All (λ p. IsTrue (contains c p)) ps → (length ps ≤ leaf) ⊎ (depth ≡ 0) → Leaf ps ≡ octree_at leaf depth c ps
unfolding octree_at
leaf_by_count leaf zero c ps h e = ap Leaf (sym (all_inside c ps h))
leaf_by_count leaf (suc depth) c ps h e =
    let few : length ps ≤ leaf = elim e [ inl l ↦ l | inr z ↦ absurd (omega arith) ] in
    rw (all_inside c ps h, le-leb _ _ few) refl

pub inner_by_count : (leaf depth : ℕ) (c : CubeValue) (ps : List PointValue) → All (λ p. IsTrue (contains c p)) ps → leaf < length ps
    → Inner record { count = length ps; voxels = voxels c ps; trees = map (λ g. octree_at leaf depth (child c g) ps) (up_to 8) } ≡ octree_at leaf (suc depth) c ps
unfolding octree_at
inner_by_count leaf depth c ps h l = rw (all_inside c ps h, lt-leb _ _ l) refl

-- ---- points of children
-- a child sees the points of its cube alone
pub child_inside : (c : CubeValue) (g : ℕ) (ps : List PointValue) → 0 < c.bits → g < 8 → inside (child c g) (inside c ps) ≡ inside (child c g) ps
child_inside c g [] s l = refl
child_inside c g (p ∷ ps) s l = elim (contains c p) as (λ b. contains c p ≡ b → inside (child c g) (cond b (p ∷ inside c ps) (inside c ps)) ≡ inside (child c g) (p ∷ ps)) [
  | true ↦ λ e. ap (λ (qs : List PointValue). cond (contains (child c g) p) (p ∷ qs) qs) (child_inside c g ps s l)
  | false ↦ λ e.
      let out : contains (child c g) p ≡ false = child_has c p g s l ∙ ap (λ b. b && nat_eq (octant c p) g) e in
      child_inside c g ps s l ∙ sym (ap (λ b. cond b (p ∷ inside (child c g) ps) (inside (child c g) ps)) out)
] refl

-- lists with the same points in a cube have the same ones in its children
pub same_below : (c : CubeValue) (g : ℕ) (ps qs : List PointValue) → 0 < c.bits → g < 8 → inside c ps ≡ inside c qs → inside (child c g) ps ≡ inside (child c g) qs
same_below c g ps qs s l e = sym (child_inside c g ps s l) ∙ ap (inside (child c g)) e ∙ child_inside c g qs s l
