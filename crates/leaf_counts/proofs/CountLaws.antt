-- The counts of an octree, one level after the other.
use Rattle.std.proofs.Common.{◌≡◌, ◌⊎◌, ℕ, zero, suc, ◌-◌, ◌<◌, ◌≤◌, inl, inr, cond, List, [], ◌∷◌, ◌++◌, map, length, nat_le, ap, ◌∙◌, sym, refl, arith}
use Rattle.std.proofs.lemmas.Bool.{cases_lt, le-leb, lt-leb}
use Rattle.std.proofs.lemmas.List.{map-append}
use Rattle.cube_math.specs.Points.{PointValue}
use Rattle.cube_math.specs.Cubes.{CubeValue, child}
use Rattle.octree_model.specs.Numbers.{up_to}
use Rattle.octree_model.specs.Octree.{inside, octree_at, octree}
pub use Rattle.octree_model.proofs.OctreeLaws.{child_inside, same_below}
use Rattle.octree_model.specs.declared.tree.Tree.TheOpen.{Tree-F}
use Rattle.octree_model.specs.declared.tree.Tree.TheFolds.{fold-roll-Tree, fold-roll-InnerNode}
use Rattle.octree_model.specs.declared.tree.Tree.TheVariants as tree
use Rattle.octree_model.specs.declared.tree.InnerNode.{InnerNode}
use Rattle.leaf_counts.specs.declared.counts.Counts.{Counts, Leaf, Inner}
use Rattle.leaf_counts.specs.Nodes.{counted, tree_counts, inner_counts}
use Rattle.leaf_counts.proofs.NodeLaws.{no_leaf, same_leaf, same_inner}

pub map_same : {X : Type 0} (F G : ℕ → X) (n : ℕ) → ((g : ℕ) → g < n → F g ≡ G g) → map F (up_to n) ≡ map G (up_to n)
map_same F G zero h = refl
map_same F G (suc n) h =
    map-append F (up_to n) (n ∷ []) ∙ ap (λ l. l ++ F n ∷ []) (map_same F G n (λ g l. h g (omega arith)))
    ∙ ap (λ x. map G (up_to n) ++ x ∷ []) (h n (omega arith)) ∙ sym (map-append G (up_to n) (n ∷ []))

-- ---- counts by levels
unfoldable pub counts_at : ℕ → ℕ → CubeValue → List PointValue → Counts
counts_at leaf zero c ps = Leaf (length (inside c ps))
counts_at leaf (suc depth) c ps =
    cond (nat_le (length (inside c ps)) leaf) (Leaf (length (inside c ps))) (Inner (length (inside c ps)) (map (λ g. counts_at leaf depth (child c g) ps) (up_to 8)))

abbrev pub counts_of : ℕ → CubeValue → List PointValue → Counts
counts_of leaf c ps = counts_at leaf (c.bits - 7) c ps

pub counted-Leaf : (ps : List PointValue) → counted (tree.Leaf ps) ≡ Leaf (length ps)
counted-Leaf ps = ap counted (sym (tree.rolls-Leaf ps)) ∙ fold-roll-Tree Counts Counts tree_counts inner_counts (Tree-F.Leaf ps)

pub counted-Inner : (n : InnerNode) → counted (tree.Inner n) ≡ Inner n.count (map counted n.trees)
counted-Inner n = ap counted (sym (tree.rolls-Inner n)) ∙ fold-roll-Tree Counts Counts tree_counts inner_counts (Tree-F.Inner n)
    ∙ fold-roll-InnerNode Counts Counts tree_counts inner_counts record { count = n.count; voxels = n.voxels; trees = n.trees }

-- the octree's counts, of any list with the same points in the cube
counted_same : (leaf depth : ℕ) (c : CubeValue) (ps qs : List PointValue) → depth ≤ c.bits → inside c ps ≡ inside c qs → counted (octree_at leaf depth c ps) ≡ counts_at leaf depth c qs
unfolding octree_at counts_at
counted_same leaf zero c ps qs d e = counted-Leaf (inside c ps) ∙ ap (λ (xs : List PointValue). Leaf (length xs)) e
counted_same leaf (suc depth) c ps qs d e =
    let q : List PointValue = inside c ps in
    elim (cases_lt leaf (length q)) [
      | inl more ↦
          let more' : leaf < length (inside c qs) = omega (arith, ap length e) in
          let below : map counted (map (λ g. octree_at leaf depth (child c g) q) (up_to 8)) ≡ map (λ g. counts_at leaf depth (child c g) qs) (up_to 8) =
          map_same (λ g. counted (octree_at leaf depth (child c g) q)) (λ g. counts_at leaf depth (child c g) qs) 8
          (λ g l. counted_same leaf depth (child c g) q qs (omega arith) (child_inside c g ps (omega arith) l ∙ same_below c g ps qs (omega arith) l e)) in
          rw (lt-leb _ _ more, lt-leb _ _ more') (counted-Inner _ ∙ (λ i. Inner (length (e i)) (below i)))
      | inr few ↦
          let few' : length (inside c qs) ≤ leaf = omega (arith, ap length e) in
          rw (le-leb _ _ few, le-leb _ _ few') (counted-Leaf q ∙ ap (λ (xs : List PointValue). Leaf (length xs)) e)
    ]

pub counted_is : (leaf : ℕ) (c : CubeValue) (ps : List PointValue) → counted (octree leaf c ps) ≡ counts_of leaf c ps
counted_is leaf c ps = counted_same leaf (c.bits - 7) c ps ps (omega arith) refl

pub counts_same : (leaf : ℕ) (c : CubeValue) (ps qs : List PointValue) → inside c ps ≡ inside c qs → counts_of leaf c ps ≡ counts_of leaf c qs
counts_same leaf c ps qs e = sym (counted_same leaf (c.bits - 7) c ps ps (omega arith) refl) ∙ counted_same leaf (c.bits - 7) c ps qs (omega arith) e

-- ---- leaves and inner nodes
leaf_at : (leaf depth : ℕ) (c : CubeValue) (ps : List PointValue) → (length (inside c ps) ≤ leaf) ⊎ (depth ≡ 0) → counts_at leaf depth c ps ≡ Leaf (length (inside c ps))
unfolding counts_at
leaf_at leaf zero c ps h = refl
leaf_at leaf (suc depth) c ps h =
    let few : length (inside c ps) ≤ leaf = elim h [ inl l ↦ l | inr z ↦ absurd (omega arith) ] in
    rw (le-leb _ _ few) refl

inner_at : (leaf depth below : ℕ) (c : CubeValue) (ps : List PointValue) → leaf < length (inside c ps) → depth ≡ suc below
    → counts_at leaf depth c ps ≡ Inner (length (inside c ps)) (map (λ g. counts_at leaf below (child c g) ps) (up_to 8))
unfolding counts_at
inner_at leaf zero below c ps more d = absurd (omega arith)
inner_at leaf (suc depth) below c ps more d =
    let same : depth ≡ below = omega arith in
    rw (lt-leb _ _ more) (ap (λ k. Inner (length (inside c ps)) (map (λ g. counts_at leaf k (child c g) ps) (up_to 8))) same)

pub is_leaf : (leaf : ℕ) (c : CubeValue) (ps : List PointValue) → (length (inside c ps) ≤ leaf) ⊎ (c.bits ≤ 7) → counts_of leaf c ps ≡ Leaf (length (inside c ps))
is_leaf leaf c ps h = leaf_at leaf (c.bits - 7) c ps (elim h [ inl l ↦ inl l | inr low ↦ inr (omega arith) ])

pub is_inner : (leaf : ℕ) (c : CubeValue) (ps : List PointValue) → leaf < length (inside c ps) → 7 < c.bits
    → counts_of leaf c ps ≡ Inner (length (inside c ps)) (map (λ g. counts_of leaf (child c g) ps) (up_to 8))
is_inner leaf c ps more high = inner_at leaf (c.bits - 7) (c.bits - 1 - 7) c ps more (omega arith)

-- a leaf has its count, and does not split
pub record IsLeafOf (leaf : ℕ) (c : CubeValue) (ps : List PointValue) (n : ℕ) : Type 0 where
  pub count : n ≡ length (inside c ps)
  pub stays : (length (inside c ps) ≤ leaf) ⊎ (c.bits ≤ 7)

-- an inner node has its count, and the counts of its children below it
pub record IsInnerOf (leaf : ℕ) (c : CubeValue) (ps : List PointValue) (n : ℕ) (ts : List Counts) : Type 0 where
  pub count : n ≡ length (inside c ps)
  pub splits : 7 < c.bits
  pub more : leaf < length (inside c ps)
  pub below : ts ≡ map (λ g. counts_of leaf (child c g) ps) (up_to 8)

pub leaf_of : (leaf : ℕ) (c : CubeValue) (ps : List PointValue) (n : ℕ) → Leaf n ≡ counts_of leaf c ps → IsLeafOf leaf c ps n
leaf_of leaf c ps n e =
    elim (cases_lt leaf (length (inside c ps))) [
      | inl more ↦ elim (cases_lt 7 c.bits) [
        | inl high ↦ absurd (no_leaf _ _ n (sym (e ∙ is_inner leaf c ps more high)))
        | inr low ↦ record { count = same_leaf n _ (e ∙ is_leaf leaf c ps (inr low)); stays = inr low }
      ]
      | inr few ↦ record { count = same_leaf n _ (e ∙ is_leaf leaf c ps (inl few)); stays = inl few }
    ]

pub inner_of : (leaf : ℕ) (c : CubeValue) (ps : List PointValue) (n : ℕ) (ts : List Counts) → Inner n ts ≡ counts_of leaf c ps → IsInnerOf leaf c ps n ts
inner_of leaf c ps n ts e =
    elim (cases_lt leaf (length (inside c ps))) [
      | inl more ↦ elim (cases_lt 7 c.bits) [
        | inl high ↦
            let same : (n ≡ length (inside c ps)) × (ts ≡ map (λ g. counts_of leaf (child c g) ps) (up_to 8)) = same_inner n _ ts _ (e ∙ is_inner leaf c ps more high) in
            record { count = same.0; splits = high; more = more; below = same.1 }
        | inr low ↦ absurd (no_leaf n ts _ (e ∙ is_leaf leaf c ps (inr low)))
      ]
      | inr few ↦ absurd (no_leaf n ts _ (e ∙ is_leaf leaf c ps (inl few)))
    ]

-- without points the root is a leaf
pub no_points : (leaf : ℕ) (c : CubeValue) → Leaf 0 ≡ counted (octree leaf c [])
no_points leaf c = sym (counted_is leaf c [] ∙ is_leaf leaf c [] (inl (omega arith)))
