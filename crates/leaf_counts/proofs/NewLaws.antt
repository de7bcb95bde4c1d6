-- Inner nodes and leaves that were none before.
use Rattle.std.proofs.Common.{◌≡◌, ℕ, zero, suc, ◌+◌, ◌≤◌, inl, inr, Bool, true, false, not, cond, List, [], ◌∷◌, ◌++◌, map, length, filter, Some, Option, ap, ◌∙◌, sym, refl, arith, slice_get}
use Rattle.std.proofs.lemmas.Bool.{cases_lt}
use Rattle.std.proofs.lemmas.List.Elements.{filter-append}
use Rattle.std.proofs.lemmas.Option.{slice_get_within, get_or_from_slice_get}
use Rattle.cube_math.specs.Points.{PointValue}
use Rattle.cube_math.specs.Cubes.{CubeValue, child}
use Rattle.octree_model.specs.Numbers.{up_to}
use Rattle.octree_model.specs.Octree.{inside}
use Rattle.leaf_counts.specs.declared.counts.Counts.{Counts, Leaf, Inner}
use Rattle.leaf_counts.specs.Nodes.{NodeValue, NodesAt, is_inner, is_leaf, is_inner_at, is_leaf_at}
use Rattle.leaf_counts.specs.Paths.{inner_paths, leaf_paths, paths_below}
use Rattle.leaf_counts.specs.Plans.{new_inner, new_leaves}
use Rattle.leaf_counts.proofs.CountLaws as counts
use Rattle.leaf_counts.proofs.CountLaws.{counts_of}
use Rattle.leaf_counts.proofs.NodeLaws.{node_at-Leaf, node_at-Inner}
use Rattle.leaf_counts.proofs.OverfullLaws.{child_counts, eight_children}
use Rattle.leaf_counts.proofs.PathLaws.{picked, same_test, none_below, filter-map, leaf_paths-Leaf, leaf_paths-Inner, inner_paths-Leaf, inner_paths-Inner}
use Rattle.leaf_counts.proofs.WayLaws.{node_below, none_below_leaf}

all_pass : {X : Type 0} (test : X → Bool) (xs : List X) → ((x : X) → test x ≡ true) → filter test xs ≡ xs
all_pass test [] h = refl
all_pass test (x ∷ xs) h = (λ i. cond (h x i) (x ∷ filter test xs) (filter test xs)) ∙ ap (λ l. x ∷ l) (all_pass test xs h)

all_below_pass : (test : List ℕ → Bool) (g : ℕ) (xss : List (List (List ℕ))) → ((k : ℕ) (path : List ℕ) → test (k ∷ path) ≡ true) → filter test (paths_below g xss) ≡ paths_below g xss
all_below_pass test g [] h = refl
all_below_pass test g (xs ∷ xss) h =
    filter-append test (map (λ path. g ∷ path) xs) (paths_below (g + 1) xss)
    ∙ (λ i. (filter-map (λ path. g ∷ path) test xs ∙ ap (map (λ path. g ∷ path)) (all_pass (λ path. test (g ∷ path)) xs (h g))) i ++ all_below_pass test (g + 1) xss h i)

-- ---- of a leaf
leaf_has_no_inner : (t : Counts) (n : ℕ) (path : List ℕ) → t ≡ Leaf n → is_inner_at t path ≡ false
leaf_has_no_inner t n [] is = ap (λ (u : Counts). is_inner_at u []) is ∙ ap (λ (f : NodesAt). is_inner (f [])) (node_at-Leaf n)
leaf_has_no_inner t n (g ∷ path) is = ap is_inner (none_below_leaf t n g path is)

leaf_is_leaf : (t : Counts) (n : ℕ) → t ≡ Leaf n → is_leaf_at t [] ≡ true
leaf_is_leaf t n is = ap (λ (u : Counts). is_leaf_at u []) is ∙ ap (λ (f : NodesAt). is_leaf (f [])) (node_at-Leaf n)

-- where a leaf stood, all inner nodes are new
pub all_new_inner : (t after : Counts) (n : ℕ) → t ≡ Leaf n → new_inner t after ≡ inner_paths after
all_new_inner t after n is = all_pass (λ path. not (is_inner_at t path)) (inner_paths after) (λ path. ap not (leaf_has_no_inner t n path is))

pub all_new_leaves : (t after : Counts) (n m : ℕ) (ts : List Counts) → t ≡ Leaf n → after ≡ Inner m ts → new_leaves t after ≡ leaf_paths after
all_new_leaves t after n m ts is inner =
    let paths : leaf_paths after ≡ paths_below 0 (map leaf_paths ts) = ap leaf_paths inner ∙ leaf_paths-Inner m ts in
    ap (filter (λ path. not (is_leaf_at t path))) paths
    ∙ all_below_pass (λ path. not (is_leaf_at t path)) 0 (map leaf_paths ts) (λ k path. ap (λ (o : Option NodeValue). not (is_leaf o)) (none_below_leaf t n k path is))
    ∙ sym paths

pub leaf_stays_inner : (t after : Counts) (n m : ℕ) → t ≡ Leaf n → after ≡ Leaf m → new_inner t after ≡ []
leaf_stays_inner t after n m is leaf = all_new_inner t after n is ∙ ap inner_paths leaf ∙ inner_paths-Leaf m

pub leaf_stays_leaves : (t after : Counts) (n m : ℕ) → t ≡ Leaf n → after ≡ Leaf m → new_leaves t after ≡ []
leaf_stays_leaves t after n m is leaf =
    ap (filter (λ path. not (is_leaf_at t path))) (ap leaf_paths leaf ∙ leaf_paths-Leaf m) ∙ ap (λ b. cond (not b) ([] ∷ []) []) (leaf_is_leaf t n is)

-- ---- of an inner node
inner_is_inner : (t : Counts) (n : ℕ) (ts : List Counts) → t ≡ Inner n ts → is_inner_at t [] ≡ true
inner_is_inner t n ts is = ap (λ (u : Counts). is_inner_at u []) is ∙ ap (λ (f : NodesAt). is_inner (f [])) (node_at-Inner n ts)

pub new_inner-Inner : (t after : Counts) (n m : ℕ) (ts us : List Counts) → t ≡ Inner n ts → after ≡ Inner m us → new_inner t after ≡ picked (λ path. not (is_inner_at t path)) inner_paths 0 us
new_inner-Inner t after n m ts us is inner =
    ap (filter (λ path. not (is_inner_at t path))) (ap inner_paths inner ∙ inner_paths-Inner m us)
    ∙ ap (λ b. cond (not b) ([] ∷ picked (λ path. not (is_inner_at t path)) inner_paths 0 us) (picked (λ path. not (is_inner_at t path)) inner_paths 0 us)) (inner_is_inner t n ts is)

pub new_leaves-Inner : (t after : Counts) (m : ℕ) (us : List Counts) → after ≡ Inner m us → new_leaves t after ≡ picked (λ path. not (is_leaf_at t path)) leaf_paths 0 us
new_leaves-Inner t after m us inner = ap (filter (λ path. not (is_leaf_at t path))) (ap leaf_paths inner ∙ leaf_paths-Inner m us)

-- below a child, the test is the child's
pub new_inner_child : (t : Counts) (n g : ℕ) (ts : List Counts) (u after : Counts) → t ≡ Inner n ts → slice_get ts g ≡ Some u
    → filter (λ path. not (is_inner_at t (g ∷ path))) (inner_paths after) ≡ new_inner u after
new_inner_child t n g ts u after is at =
    same_test (λ path. not (is_inner_at t (g ∷ path))) (λ path. not (is_inner_at u path)) (inner_paths after) (λ path. ap (λ (o : Option NodeValue). not (is_inner o)) (node_below t n g ts path u is at))

pub new_leaves_child : (t : Counts) (n g : ℕ) (ts : List Counts) (u after : Counts) → t ≡ Inner n ts → slice_get ts g ≡ Some u
    → filter (λ path. not (is_leaf_at t (g ∷ path))) (leaf_paths after) ≡ new_leaves u after
new_leaves_child t n g ts u after is at =
    same_test (λ path. not (is_leaf_at t (g ∷ path))) (λ path. not (is_leaf_at u path)) (leaf_paths after) (λ path. ap (λ (o : Option NodeValue). not (is_leaf o)) (node_below t n g ts path u is at))

-- ---- where nothing changes
record NoneNew (t : Counts) : Type 0 where
  inner : new_inner t t ≡ []
  leaves : new_leaves t t ≡ []

leaf_not_new : (t : Counts) (n : ℕ) → t ≡ Leaf n → NoneNew t
leaf_not_new t n is = record { inner = leaf_stays_inner t t n n is is; leaves = leaf_stays_leaves t t n n is is }

none_new : (depth leaf : ℕ) (cube : CubeValue) (ps : List PointValue) (t : Counts) → cube.bits ≤ depth → t ≡ counts_of leaf cube ps → NoneNew t
none_new zero leaf cube ps t d is = leaf_not_new t _ (is ∙ counts.is_leaf leaf cube ps (inr (omega arith)))
none_new (suc depth) leaf cube ps t d is =
    elim (cases_lt leaf (length (inside cube ps))) [
      | inl more ↦ elim (cases_lt 7 cube.bits) [
        | inl high ↦
            let n : ℕ = length (inside cube ps) in
            let ts : List Counts = map (λ g. counts_of leaf (child cube g) ps) (up_to 8) in
            let inner : t ≡ Inner n ts = is ∙ counts.is_inner leaf cube ps more high in
            let below : (k : ℕ) (u : Counts) → slice_get ts k ≡ Some u → NoneNew u =
            λ k u at. none_new depth leaf (child cube k) ps u (omega arith) (sym (get_or_from_slice_get ts k u u at) ∙ child_counts leaf cube ps k u (omega (arith, slice_get_within ts k u at, eight_children leaf cube ps))) in
            record {
              inner = new_inner-Inner t t n n ts ts inner inner ∙ none_below (λ path. not (is_inner_at t path)) inner_paths ts (λ k u at. new_inner_child t n k ts u u inner at ∙ (below k u at).inner);
              leaves = new_leaves-Inner t t n ts inner ∙ none_below (λ path. not (is_leaf_at t path)) leaf_paths ts (λ k u at. new_leaves_child t n k ts u u inner at ∙ (below k u at).leaves);
            }
        | inr low ↦ leaf_not_new t _ (is ∙ counts.is_leaf leaf cube ps (inr low))
      ]
      | inr few ↦ leaf_not_new t _ (is ∙ counts.is_leaf leaf cube ps (inl few))
    ]

pub no_new_inner : (leaf : ℕ) (cube : CubeValue) (ps : List PointValue) (t : Counts) → t ≡ counts_of leaf cube ps → new_inner t t ≡ []
no_new_inner leaf cube ps t is = (none_new cube.bits leaf cube ps t (omega arith) is).inner

pub no_new_leaves : (leaf : ℕ) (cube : CubeValue) (ps : List PointValue) (t : Counts) → t ≡ counts_of leaf cube ps → new_leaves t t ≡ []
no_new_leaves leaf cube ps t is = (none_new cube.bits leaf cube ps t (omega arith) is).leaves
