-- Lists of points that are the same bag have octrees that differ in the order of points in leaves alone.
use Rattle.std.proofs.Common.{◌≡◌, ◌⊎◌, ℕ, zero, suc, ◌+◌, ◌%◌, ◌^◌, ◌<◌, ◌≤◌, inl, inr, Bool, true, false, ◌&&◌, ◌||◌, cond, List, [], ◌∷◌, map, length, filter, min, Some, ap, ◌∙◌, sym, refl, arith, nat_eq, nat_lt, count_by}
use Rattle.std.proofs.lemmas.Bool.{cases_lt, lt-ltb, eq-eqb, eqb-true, lt-leb, le-leb}
use Rattle.std.proofs.lemmas.List.Sums.{sum_by-append}
use Rattle.std.proofs.lemmas.List.Elements.{All-nil, All-cons}
use Rattle.std.specs.List.{All}
use Rattle.std.specs.Prelude.{unwrap_or}
use Rattle.cube_math.specs.Points.{PointValue}
use Rattle.cube_math.specs.Cubes.{CubeValue, contains, cell, key, child}
use Rattle.octree_model.specs.Bags.{IsSameBag}
use Rattle.octree_model.specs.Facts.{FactsAt, facts_at, tree_facts, node_facts}
use Rattle.octree_model.specs.Numbers.{up_to, has, ascending, least, lesser}
use Rattle.octree_model.specs.Octree.{inside, octree_at}
use Rattle.octree_model.specs.Voxels.{VoxelValue, voxels, cell_keys, cell_colour}
use Rattle.octree_model.specs.declared.tree.Tree.{Tree}
use Rattle.octree_model.specs.declared.tree.Tree.TheOpen.{Tree-F}
use Rattle.octree_model.specs.declared.tree.Tree.TheFolds.{fold-roll-Tree, fold-roll-InnerNode}
use Rattle.octree_model.specs.declared.tree.Tree.TheVariants.{Leaf, Inner, rolls-Leaf, rolls-Inner}
use Rattle.octree_model.specs.declared.tree.InnerNode.{InnerNode}
use Rattle.octree_model.proofs.FilterLaws.{filter_same, ascending_by_filter}

-- ---- lists with the same elements, each as often: as many pass each test
abbrev pub Same : {X : Type 0} → List X → List X → Type 0
Same {X} xs ys = (test : X → Bool) → count_by test xs ≡ count_by test ys

count_first : {X : Type 0} (t : X → Bool) (x : X) (xs : List X) → count_by t (x ∷ xs) ≡ cond (t x) 1 0 + count_by t xs
count_first t x xs = omega (arith, sum_by-append (λ y. cond (t y) 1 0) (x ∷ []) xs)

count_in : (a b : Bool) (n m : ℕ) (rest : ℕ) → n ≡ rest → cond (a && b) 1 0 + rest ≡ m → cond a (cond b 1 0 + n) n ≡ m
count_in true b n m rest e f = ap (λ k. cond b 1 0 + k) e ∙ f
count_in false b n m rest e f = omega arith

-- a filter joins its test
count_by-filter : {X : Type 0} (t keep : X → Bool) (xs : List X) → count_by t (filter keep xs) ≡ count_by (λ x. keep x && t x) xs
count_by-filter t keep [] = refl
count_by-filter {X} t keep (x ∷ xs) =
    split (keep x) (filter keep xs) ∙ count_in (keep x) (t x) (count_by t (filter keep xs)) _ (count_by (λ y. keep y && t y) xs) (count_by-filter t keep xs) (sym (count_first (λ y. keep y && t y) x xs))
  where
    split : (b : Bool) (ys : List X) → count_by t (cond b (x ∷ ys) ys) ≡ cond b (cond (t x) 1 0 + count_by t ys) (count_by t ys)
    split true ys = count_first t x ys
    split false ys = refl

-- the part of a bag that passes a test
pub same_filter : {X : Type 0} (keep : X → Bool) (xs ys : List X) → Same xs ys → Same (filter keep xs) (filter keep ys)
same_filter keep xs ys same test = count_by-filter test keep xs ∙ same (λ x. keep x && test x) ∙ sym (count_by-filter test keep ys)

count_all : (ps : List PointValue) → count_by (λ p. true) ps ≡ length ps
count_all [] = refl
count_all (p ∷ ps) = let rest : count_by (λ q. true) ps ≡ length ps = count_all ps in omega (arith, count_first (λ q. true) p ps)

pub same_length : (ps qs : List PointValue) → IsSameBag ps qs → length ps ≡ length qs
same_length ps qs same = sym (count_all ps) ∙ same (λ p. true) ∙ count_all qs

-- ---- numbers of elements: a number stands in a list of them where an element has it
some_or : (b : Bool) (n : ℕ) → (b || nat_lt 0 n) ≡ nat_lt 0 (cond b 1 0 + n)
some_or true n = sym (lt-ltb _ _ (omega arith))
some_or false n = let same : n ≡ 0 + n = omega arith in ap (nat_lt 0) same

has-map : {X : Type 0} (z : ℕ) (f : X → ℕ) (xs : List X) → has z (map f xs) ≡ nat_lt 0 (count_by (λ x. nat_eq z (f x)) xs)
has-map z f [] = refl
has-map z f (x ∷ xs) = ap (λ b. nat_eq z (f x) || b) (has-map z f xs) ∙ some_or (nat_eq z (f x)) (count_by (λ y. nat_eq z (f y)) xs) ∙ ap (nat_lt 0) (sym (count_first (λ y. nat_eq z (f y)) x xs))

pub same_numbers : {X : Type 0} (f : X → ℕ) (xs ys : List X) → Same xs ys → (z : ℕ) → has z (map f xs) ≡ has z (map f ys)
same_numbers f xs ys same z = has-map z f xs ∙ ap (nat_lt 0) (same (λ x. nat_eq z (f x))) ∙ sym (has-map z f ys)

-- ---- lists with the same numbers
-- a number above all of a list
above_all : List ℕ → ℕ
above_all [] = 0
above_all (n ∷ ns) = suc n + above_all ns

all_below : (ns : List ℕ) (top : ℕ) → above_all ns ≤ top → All (λ n. n < top) ns
unfolding above_all
all_below [] top l = All-nil (λ n. n < top)
all_below (n ∷ ns) top l = All-cons (λ m. m < top) n ns (omega arith) (all_below ns top (omega arith))

same_ascending : (ns ms : List ℕ) → ((z : ℕ) → has z ns ≡ has z ms) → ascending ns ≡ ascending ms
same_ascending ns ms same =
    let top : ℕ = above_all ns + above_all ms in
    ascending_by_filter top ns (all_below ns top (omega arith)) ∙ filter_same (λ z. has z ms) (λ z. has z ns) top (λ i l. same i)
    ∙ sym (ascending_by_filter top ms (all_below ms top (omega arith)))

-- the least number stands in its list, and no number of it is less
pub record IsLeast (ns : List ℕ) (m : ℕ) : Type 0 where
  pub stands : has m ns ≡ true
  pub least : (z : ℕ) → has z ns ≡ true → m ≤ z

or_cases : (a b : Bool) → (a || b) ≡ true → (a ≡ true) ⊎ (b ≡ true)
or_cases true b e = inl refl
or_cases false b e = inr e

or_right : (a b : Bool) → b ≡ true → (a || b) ≡ true
or_right true b e = refl
or_right false b e = e

is_least : (n : ℕ) (ns : List ℕ) → IsLeast (n ∷ ns) (lesser n (least ns))
is_least n [] = record {
  stands = ap (λ b. b || false) (eq-eqb n n refl);
  least = λ z h. elim (or_cases (nat_eq z n) false h) [ inl same ↦ let e : z ≡ n = eqb-true z n same in omega arith | inr never ↦ cc ];
}
is_least n (m ∷ ns) =
    let k : ℕ = lesser m (least ns) in
    let rest : IsLeast (m ∷ ns) k = is_least m ns in
    record {
      stands = elim (cases_lt n k) [
        | inl first ↦ let same : min n k ≡ n = omega arith in ap (λ x. has x (n ∷ m ∷ ns)) same ∙ ap (λ b. b || has n (m ∷ ns)) (eq-eqb n n refl)
        | inr second ↦ let same : min n k ≡ k = omega arith in ap (λ x. has x (n ∷ m ∷ ns)) same ∙ or_right (nat_eq k n) (has k (m ∷ ns)) rest.stands
      ];
      least = λ z h. elim (or_cases (nat_eq z n) (has z (m ∷ ns)) h) [
        | inl same ↦ let e : z ≡ n = eqb-true z n same in omega arith
        | inr among ↦ let more : k ≤ z = rest.least z among in omega arith
      ];
    }

no_number : (m : ℕ) (ms : List ℕ) → has m [] ≡ has m (m ∷ ms) → ⊥
no_number m ms e = let no : false ≡ true = e ∙ ap (λ b. b || has m ms) (eq-eqb m m refl) in cc

pub same_least : (ns ms : List ℕ) → ((z : ℕ) → has z ns ≡ has z ms) → least ns ≡ least ms
same_least [] [] same = refl
same_least [] (m ∷ ms) same = absurd (no_number m ms (same m))
same_least (n ∷ ns) [] same = absurd (no_number n ns (sym (same n)))
same_least (n ∷ ns) (m ∷ ms) same =
    let first : IsLeast (n ∷ ns) (lesser n (least ns)) = is_least n ns in
    let second : IsLeast (m ∷ ms) (lesser m (least ms)) = is_least m ms in
    let below : lesser n (least ns) ≤ lesser m (least ms) = first.least _ (same _ ∙ second.stands) in
    let above : lesser m (least ms) ≤ lesser n (least ns) = second.least _ (sym (same _) ∙ first.stands) in
    let equal : lesser n (least ns) ≡ lesser m (least ms) = omega arith in
    ap (λ k. Some k) equal

-- ---- voxels
same_colour : (c : CubeValue) (ps qs : List PointValue) → IsSameBag ps qs → (z : ℕ) → cell_colour c ps z ≡ cell_colour c qs z
same_colour c ps qs same z =
    let here : IsSameBag (filter (λ p. nat_eq (cell c p) z) ps) (filter (λ p. nat_eq (cell c p) z) qs) = same_filter (λ p. nat_eq (cell c p) z) ps qs same in
    ap (λ o. unwrap_or o 0 % 2 ^ 24) (same_least (cell_keys c ps z) (cell_keys c qs z) (same_numbers (key c) (filter (λ p. nat_eq (cell c p) z) ps) (filter (λ p. nat_eq (cell c p) z) qs) here))

pub same_voxels : (c : CubeValue) (ps qs : List PointValue) → IsSameBag ps qs → voxels c ps ≡ voxels c qs
unfolding voxels
same_voxels c ps qs same =
    let cells : ascending (map (cell c) ps) ≡ ascending (map (cell c) qs) = same_ascending (map (cell c) ps) (map (cell c) qs) (same_numbers (cell c) ps qs same) in
    λ i. map (λ z. record { cell = z; rgb = same_colour c ps qs same z i }) (cells i)

-- ---- facts of trees
facts_at-Leaf : (ps : List PointValue) → facts_at (Leaf ps) ≡ tree_facts (Tree-F.Leaf ps)
facts_at-Leaf ps = ap facts_at (sym (rolls-Leaf ps)) ∙ fold-roll-Tree FactsAt FactsAt tree_facts node_facts (Tree-F.Leaf ps)

facts_at-Inner : (n : InnerNode) → facts_at (Inner n) ≡ node_facts record { count = n.count; voxels = n.voxels; trees = map facts_at n.trees }
facts_at-Inner n = ap facts_at (sym (rolls-Inner n)) ∙ fold-roll-Tree FactsAt FactsAt tree_facts node_facts (Tree-F.Inner n)
    ∙ fold-roll-InnerNode FactsAt FactsAt tree_facts node_facts record { count = n.count; voxels = n.voxels; trees = n.trees }

same_leaf : (ps qs : List PointValue) → IsSameBag ps qs → facts_at (Leaf ps) ≡ facts_at (Leaf qs)
same_leaf ps qs same =
    facts_at-Leaf ps
    ∙ (λ i path. record { path = path; inner = false; count = same_length ps qs same i; voxels = []; bag = λ test. same test i } ∷ [])
    ∙ sym (facts_at-Leaf qs)

same_inner : (n m : ℕ) (vs ws : List VoxelValue) (T S : ℕ → Tree) → n ≡ m → vs ≡ ws → ((g : ℕ) → facts_at (T g) ≡ facts_at (S g))
    → facts_at (Inner record { count = n; voxels = vs; trees = map T (up_to 8) }) ≡ facts_at (Inner record { count = m; voxels = ws; trees = map S (up_to 8) })
same_inner n m vs ws T S counts voxels below =
    facts_at-Inner record { count = n; voxels = vs; trees = map T (up_to 8) }
    ∙ (λ i. node_facts record { count = counts i; voxels = voxels i; trees = map (λ g. below g i) (up_to 8) })
    ∙ sym (facts_at-Inner record { count = m; voxels = ws; trees = map S (up_to 8) })

-- equal bags have octrees with the same facts
pub same_facts : (leaf depth : ℕ) (c : CubeValue) (ps qs : List PointValue) → IsSameBag ps qs → facts_at (octree_at leaf depth c ps) ≡ facts_at (octree_at leaf depth c qs)
unfolding octree_at
same_facts leaf zero c ps qs same = same_leaf (inside c ps) (inside c qs) (same_filter (contains c) ps qs same)
same_facts leaf (suc depth) c ps qs same =
    let a : List PointValue = inside c ps in
    let b : List PointValue = inside c qs in
    let here : IsSameBag a b = same_filter (contains c) ps qs same in
    let long : length a ≡ length b = same_length a b here in
    elim (cases_lt leaf (length a)) [
      | inl more ↦
          let more' : leaf < length b = omega arith in
          rw (lt-leb _ _ more, lt-leb _ _ more')
          (same_inner (length a) (length b) (voxels c a) (voxels c b) (λ g. octree_at leaf depth (child c g) a) (λ g. octree_at leaf depth (child c g) b) long (same_voxels c a b here)
          (λ g. same_facts leaf depth (child c g) a b here))
      | inr few ↦
          let few' : length b ≤ leaf = omega arith in
          rw (le-leb _ _ few, le-leb _ _ few') (same_leaf a b here)
    ]
