-- Paths of leaves and of inner nodes that pass a test.
use Rattle.std.proofs.Common.{◌≡◌, ℕ, suc, ◌+◌, ◌≤◌, Bool, true, false, cond, List, [], ◌∷◌, ◌++◌, map, length, filter, drop, Some, ap, ◌∙◌, sym, refl, arith, slice_get, append_assoc}
use Rattle.std.proofs.lemmas.List.Elements.{filter-append}
use Rattle.std.proofs.lemmas.List.{drop_all}
use Rattle.leaf_counts.proofs.NodeLaws.{next_of}
use Rattle.leaf_counts.specs.declared.counts.Counts.{Counts}
use Rattle.leaf_counts.specs.declared.counts.Counts.TheOpen.{Counts-F}
use Rattle.leaf_counts.specs.declared.counts.Counts.TheFolds.{fold-roll-Counts}
use Rattle.leaf_counts.specs.declared.counts.Counts.TheVariants.{Leaf, Inner, rolls-Leaf, rolls-Inner}
use Rattle.leaf_counts.specs.Paths.{paths_below, leaf_paths, layer_leaves, inner_paths, layer_inner}

pub leaf_paths-Leaf : (n : ℕ) → leaf_paths (Leaf n) ≡ [] ∷ []
leaf_paths-Leaf n = ap leaf_paths (sym (rolls-Leaf n)) ∙ fold-roll-Counts (List (List ℕ)) layer_leaves (Counts-F.Leaf n)

pub leaf_paths-Inner : (n : ℕ) (ts : List Counts) → leaf_paths (Inner n ts) ≡ paths_below 0 (map leaf_paths ts)
leaf_paths-Inner n ts = ap leaf_paths (sym (rolls-Inner n ts)) ∙ fold-roll-Counts (List (List ℕ)) layer_leaves (Counts-F.Inner n ts)

pub inner_paths-Leaf : (n : ℕ) → inner_paths (Leaf n) ≡ []
inner_paths-Leaf n = ap inner_paths (sym (rolls-Leaf n)) ∙ fold-roll-Counts (List (List ℕ)) layer_inner (Counts-F.Leaf n)

pub inner_paths-Inner : (n : ℕ) (ts : List Counts) → inner_paths (Inner n ts) ≡ [] ∷ paths_below 0 (map inner_paths ts)
inner_paths-Inner n ts = ap inner_paths (sym (rolls-Inner n ts)) ∙ fold-roll-Counts (List (List ℕ)) layer_inner (Counts-F.Inner n ts)

-- ---- tests of paths
pub filter-map : {X : Type 0} (f : X → X) (test : X → Bool) (xs : List X) → filter test (map f xs) ≡ map f (filter (λ x. test (f x)) xs)
filter-map f test [] = refl
filter-map f test (x ∷ xs) = one (test (f x)) (filter-map f test xs)
  where
    one : (b : Bool) → filter test (map f xs) ≡ map f (filter (λ y. test (f y)) xs)
        → cond b (f x ∷ filter test (map f xs)) (filter test (map f xs)) ≡ map f (cond b (x ∷ filter (λ y. test (f y)) xs) (filter (λ y. test (f y)) xs))
    one true e = ap (λ l. f x ∷ l) e
    one false e = e

-- the paths below some children, from octant g on, that pass a test
abbrev pub picked : (List ℕ → Bool) → (Counts → List (List ℕ)) → ℕ → List Counts → List (List ℕ)
picked test paths g ts = filter test (paths_below g (map paths ts))

pub picked-cons : (test : List ℕ → Bool) (paths : Counts → List (List ℕ)) (g : ℕ) (t : Counts) (ts : List Counts)
    → picked test paths g (t ∷ ts) ≡ map (λ path. g ∷ path) (filter (λ path. test (g ∷ path)) (paths t)) ++ picked test paths (g + 1) ts
picked-cons test paths g t ts =
    filter-append test (map (λ path. g ∷ path) (paths t)) (paths_below (g + 1) (map paths ts))
    ∙ ap (λ (l : List (List ℕ)). l ++ picked test paths (g + 1) ts) (filter-map (λ path. g ∷ path) test (paths t))

-- none passes where none passes below any child
pub none_picked : (test : List ℕ → Bool) (paths : Counts → List (List ℕ)) (g : ℕ) (ts : List Counts)
    → ((k : ℕ) (t : Counts) → slice_get ts k ≡ Some t → filter (λ path. test ((g + k) ∷ path)) (paths t) ≡ []) → picked test paths g ts ≡ []
none_picked test paths g [] h = refl
none_picked test paths g (t ∷ ts) h =
    let here : filter (λ path. test (g ∷ path)) (paths t) ≡ [] = ap (λ k. filter (λ path. test (k ∷ path)) (paths t)) (at_zero g) ∙ h 0 t refl in
    picked-cons test paths g t ts ∙ ap (λ (l : List (List ℕ)). map (λ path. g ∷ path) l ++ picked test paths (g + 1) ts) here
    ∙ none_picked test paths (g + 1) ts (λ k u at. ap (λ n. filter (λ path. test (n ∷ path)) (paths u)) (behind g k) ∙ h (suc k) u at)
  where
    at_zero : (g : ℕ) → g ≡ g + 0
    at_zero g = omega arith

    behind : (g k : ℕ) → g + 1 + k ≡ g + suc k
    behind g k = omega arith

pub none_below : (test : List ℕ → Bool) (paths : Counts → List (List ℕ)) (ts : List Counts)
    → ((k : ℕ) (t : Counts) → slice_get ts k ≡ Some t → filter (λ path. test (k ∷ path)) (paths t) ≡ []) → picked test paths 0 ts ≡ []
none_below test paths ts h = none_picked test paths 0 ts (λ k t at. ap (λ n. filter (λ path. test (n ∷ path)) (paths t)) (from_zero k) ∙ h k t at)
  where
    from_zero : (k : ℕ) → 0 + k ≡ k
    from_zero k = omega arith

-- tests that agree
pub same_test : {X : Type 0} (first second : X → Bool) (xs : List X) → ((x : X) → first x ≡ second x) → filter first xs ≡ filter second xs
same_test first second [] h = refl
same_test first second (x ∷ xs) h = (λ i. cond (h x i) (x ∷ filter first xs) (filter first xs)) ∙ ap (λ l. cond (second x) (x ∷ l) l) (same_test first second xs h)

-- paths from further up: of the child g, and of the children behind it
pub further : (path : List ℕ) (g : ℕ) (xs ys : List (List ℕ)) → map (λ steps. path ++ steps) (map (λ steps. g ∷ steps) xs ++ ys) ≡ map (λ steps. (path ++ g ∷ []) ++ steps) xs ++ map (λ steps. path ++ steps) ys
further path g [] ys = refl
further path g (x ∷ xs) ys = (λ i. sym (append_assoc path (g ∷ []) x) i ∷ further path g xs ys i)

-- the paths below the next child, and those behind it
pub next_picked : (test : List ℕ → Bool) (paths : Counts → List (List ℕ)) (g : ℕ) (ts : List Counts) (u : Counts) → slice_get ts g ≡ Some u
    → picked test paths g (drop g ts) ≡ map (λ path. g ∷ path) (filter (λ path. test (g ∷ path)) (paths u)) ++ picked test paths (g + 1) (drop (g + 1) ts)
next_picked test paths g ts u at = ap (picked test paths g) (next_of ts g u at) ∙ picked-cons test paths g u (drop (g + 1) ts)

pub last_picked : (test : List ℕ → Bool) (paths : Counts → List (List ℕ)) (g : ℕ) (ts : List Counts) → length ts ≤ g → picked test paths g (drop g ts) ≡ []
last_picked test paths g ts l = ap (picked test paths g) (drop_all g ts l)

-- paths from the root
pub from_root : (path : List ℕ) (xs : List (List ℕ)) → path ≡ [] → map (λ steps. path ++ steps) xs ≡ xs
from_root path xs root = ap (λ (p : List ℕ). map (λ steps. p ++ steps) xs) root ∙ same xs
  where
    same : (xs : List (List ℕ)) → map (λ steps. [] ++ steps) xs ≡ xs
    same [] = refl
    same (x ∷ xs) = ap (λ l. x ∷ l) (same xs)

pub named_from_root : (path : List ℕ) (old new xs ys : List (List ℕ)) → new ≡ old ++ map (λ steps. path ++ steps) xs → old ≡ [] → path ≡ [] → xs ≡ ys → new ≡ ys
named_from_root path old new xs ys named none root same = named ∙ ap (λ (l : List (List ℕ)). l ++ map (λ steps. path ++ steps) xs) none ∙ from_root path xs root ∙ same
