-- What becomes of counts by a change.
use Rattle.std.proofs.Common.{◌≡◌, ◌⊎◌, inl, inr, ℕ, zero, suc, ◌+◌, ◌<◌, ◌≤◌, List, [], ◌∷◌, ◌++◌, length, map, take, drop, get_or, slice_get, slice_set, sum, Some, None, ap, ◌∙◌, sym, refl, arith, append_assoc}
use Rattle.std.proofs.lemmas.List.{drop_all}
use Rattle.std.proofs.lemmas.List.Sums.{sum_by-cons}
use Rattle.std.proofs.lemmas.Option.{none-some, same_Some}
use Rattle.leaf_counts.specs.declared.counts.Counts.{Counts, Leaf, Inner, out-Counts}
use Rattle.leaf_counts.specs.declared.growth.Growth.{Growth}
use Rattle.leaf_counts.specs.declared.growth.Growth.TheOpen.{Growth-F}
use Rattle.leaf_counts.specs.declared.growth.Growth.TheFolds.{fold-Growth, fold-roll-Growth}
use Rattle.leaf_counts.specs.declared.growth.Growth.TheVariants.{Same, New, Each, rolls-Same, rolls-New, rolls-Each}
use Rattle.leaf_counts.specs.Growths.{grown, grown_each, grown_inner, layer_grown}
use Rattle.leaf_counts.proofs.NodeLaws.{out-Leaf, out-Inner}

pub grown-Same : (t : Counts) → grown Same t ≡ t
grown-Same t = ap (λ (g : Growth). grown g t) (sym rolls-Same) ∙ ap (λ (f : Counts → Counts). f t) (fold-roll-Growth (Counts → Counts) layer_grown Growth-F.Same)

pub grown-New : (new t : Counts) → grown (New new) t ≡ new
grown-New new t = ap (λ (g : Growth). grown g t) (sym (rolls-New new)) ∙ ap (λ (f : Counts → Counts). f t) (fold-roll-Growth (Counts → Counts) layer_grown (Growth-F.New new))

grown-Each : (n : ℕ) (gs : List Growth) (places : List Counts) (t : Counts) → grown (Each n gs places) t ≡ grown_inner n (map grown gs) places (out-Counts t)
grown-Each n gs places t =
    ap (λ (g : Growth). grown g t) (sym (rolls-Each n gs places)) ∙ ap (λ (f : Counts → Counts). f t) (fold-roll-Growth (Counts → Counts) layer_grown (Growth-F.Each n gs places))

pub grown-leaf : (n m : ℕ) (gs : List Growth) (places : List Counts) → grown (Each n gs places) (Leaf m) ≡ Leaf m
grown-leaf n m gs places = grown-Each n gs places (Leaf m) ∙ ap (grown_inner n (map grown gs) places) (out-Leaf m)

pub grown-inner : (n m : ℕ) (gs : List Growth) (ts places : List Counts) → grown (Each n gs places) (Inner m ts) ≡ Inner n (grown_each (map grown gs) ts places)
grown-inner n m gs ts places = grown-Each n gs places (Inner m ts) ∙ ap (grown_inner n (map grown gs) places) (out-Inner m ts)

-- the first of a list, and the others
first_of_list : {X : Type 0} (xs others : List X) (x : X) → slice_get xs 0 ≡ Some x → others ≡ drop 1 xs → xs ≡ x ∷ others
first_of_list [] others x at rest = let never : slice_get [] 0 ≡ Some x = at in cc
first_of_list (y ∷ ys) others x at rest = let same : y ≡ x = some_is y x at in λ i. same i ∷ sym rest i
  where
    some_is : {X : Type 0} (a b : X) → Some a ≡ Some b → a ≡ b
    some_is a b e = cc

pub grown_node : (growth : Growth) (t : Counts) (n m : ℕ) (gs : List Growth) (ts places : List Counts) → growth ≡ Each n gs places → t ≡ Inner m ts → grown growth t ≡ Inner n (grown_each (map grown gs) ts places)
grown_node growth t n m gs ts places change is = (λ i. grown (change i) (is i)) ∙ grown-inner n m gs ts places

-- ---- how large a change is
abbrev layer_size : Growth-F ℕ → ℕ
layer_size Growth-F.Same = 0
layer_size (Growth-F.New new) = 0
layer_size (Growth-F.Each count sizes places) = 1 + sum sizes

-- how many nodes change and are inner before and after
abbrev pub size : Growth → ℕ
size = fold-Growth ℕ layer_size

pub size-Each : (n : ℕ) (gs : List Growth) (places : List Counts) → size (Each n gs places) ≡ 1 + sum (map size gs)
size-Each n gs places = ap size (sym (rolls-Each n gs places)) ∙ fold-roll-Growth ℕ layer_size (Growth-F.Each n gs places)

-- the first of some changes, and the others
pub size_first : (gs gs' : List Growth) (g : Growth) → slice_get gs 0 ≡ Some g → gs' ≡ drop 1 gs → sum (map size gs) ≡ size g + sum (map size gs')
size_first gs gs' g at rest = ap (λ (l : List Growth). sum (map size l)) (first_of_list gs gs' g at rest) ∙ both (size g) (map size gs')
  where
    both : (n : ℕ) (ns : List ℕ) → sum (n ∷ ns) ≡ n + sum ns
    both n ns = omega (arith, sum_by-cons (λ m. m) n ns)

-- ---- one child after the other
-- a place that is taken
taken : (places : List Counts) (g : ℕ) (made : Counts) → g < length places → take (suc g) (slice_set places g made) ≡ take g places ++ made ∷ []
taken [] g made l = absurd (omega arith)
taken (p ∷ ps) zero made l = refl
taken (p ∷ ps) (suc g) made l = ap (λ (xs : List Counts). p ∷ xs) (taken ps g made (omega arith))

places_left : (places : List Counts) (g : ℕ) (made : Counts) → drop (suc g) (slice_set places g made) ≡ drop (suc g) places
places_left [] g made = refl
places_left (p ∷ ps) zero made = refl
places_left (p ∷ ps) (suc g) made = places_left ps g made

next_place : (places : List Counts) (g : ℕ) → g < length places → drop g places ≡ get_or places g (Leaf 0) ∷ drop (suc g) places
next_place [] g l = absurd (omega arith)
next_place (p ∷ ps) zero l = refl
next_place (p ∷ ps) (suc g) l = next_place ps g (omega arith)

pub one_grown : (gs gs' : List Growth) (ts ts' places : List Counts) (g : ℕ) (growth : Growth) (child made : Counts) (all : List Counts) → g < length places
    → slice_get gs 0 ≡ Some growth → gs' ≡ drop 1 gs → slice_get ts 0 ≡ Some child → ts' ≡ drop 1 ts → made ≡ grown growth child
    → take g places ++ grown_each (map grown gs) ts (drop g places) ≡ all → take (g + 1) (slice_set places g made) ++ grown_each (map grown gs') ts' (drop (g + 1) (slice_set places g made)) ≡ all
one_grown gs gs' ts ts' places g growth child made all l change changes here others is before =
    let more : gs ≡ growth ∷ gs' = first_of_list gs gs' growth change changes in
    let more' : ts ≡ child ∷ ts' = first_of_list ts ts' child here others in
    let next : g + 1 ≡ suc g = omega arith in
    ap (λ n. take n (slice_set places g made) ++ grown_each (map grown gs') ts' (drop n (slice_set places g made))) next
    ∙ (λ i. taken places g made l i ++ grown_each (map grown gs') ts' (places_left places g made i))
    ∙ append_assoc (take g places) (made ∷ []) (grown_each (map grown gs') ts' (drop (suc g) places))
    ∙ ap (λ (x : Counts). take g places ++ x ∷ grown_each (map grown gs') ts' (drop (suc g) places)) is
    ∙ sym (λ i. take g places ++ grown_each (map grown (more i)) (more' i) (next_place places g l i)) ∙ before

-- all children: no place, no child or no change is left
pub all_grown : (gs : List Growth) (ts places : List Counts) (g : ℕ) (all : List Counts) → (length places ≤ g) ⊎ (ts ≡ []) ⊎ (gs ≡ []) → take g places ++ grown_each (map grown gs) ts (drop g places) ≡ all → places ≡ all
all_grown gs ts places g all end before = sym (ap (λ (l : List Counts). take g places ++ l) (elim end [
  | inl past ↦ no_place (map grown gs) ts (drop g places) (drop_all g places past)
  | inr others ↦ elim others [
    | inl none ↦ ap (λ (l : List Counts). grown_each (map grown gs) l (drop g places)) none ∙ no_child (map grown gs) (drop g places)
    | inr none ↦ ap (λ (l : List Growth). grown_each (map grown l) ts (drop g places)) none
  ]
]) ∙ take_drop g places) ∙ before
  where
    no_child : (fs : List (Counts → Counts)) (places : List Counts) → grown_each fs [] places ≡ places
    no_child [] places = refl
    no_child (f ∷ fs) places = refl

    no_place : (fs : List (Counts → Counts)) (ts places : List Counts) → places ≡ [] → grown_each fs ts places ≡ places
    no_place [] ts places none = refl
    no_place (f ∷ fs) [] places none = refl
    no_place (f ∷ fs) (t ∷ ts) places none = ap (grown_each (f ∷ fs) (t ∷ ts)) none ∙ sym none

    take_drop : (g : ℕ) (xs : List Counts) → take g xs ++ drop g xs ≡ xs
    take_drop zero xs = refl
    take_drop (suc g) [] = refl
    take_drop (suc g) (x ∷ xs) = ap (λ (l : List Counts). x ∷ l) (take_drop g xs)

-- ---- one child
-- there are no more children than places
pub few_grown : (fs : List (Counts → Counts)) (ts places : List Counts) → length (grown_each fs ts places) ≤ length places
few_grown [] ts places = omega arith
few_grown (f ∷ fs) [] places = omega arith
few_grown (f ∷ fs) (t ∷ ts) [] = omega arith
few_grown (f ∷ fs) (t ∷ ts) (p ∷ ps) = omega (arith, few_grown fs ts ps)

-- a child that changed
pub grown_at : (gs : List Growth) (ts places : List Counts) (g : ℕ) (growth : Growth) (t d : Counts) → slice_get gs g ≡ Some growth → slice_get ts g ≡ Some t → g < length (grown_each (map grown gs) ts places)
    → get_or (grown_each (map grown gs) ts places) g d ≡ grown growth t
grown_at [] ts places g growth t d change here l = absurd (none-some growth change)
grown_at (h ∷ hs) [] places g growth t d change here l = absurd (none-some t here)
grown_at (h ∷ hs) (u ∷ us) [] g growth t d change here l = absurd (omega arith)
grown_at (h ∷ hs) (u ∷ us) (p ∷ ps) zero growth t d change here l = λ i. grown (same_Some h growth change i) (same_Some u t here i)
grown_at (h ∷ hs) (u ∷ us) (p ∷ ps) (suc g) growth t d change here l = grown_at hs us ps g growth t d change here (omega arith)

-- a place without a change or without a child
pub place_at : (gs : List Growth) (ts places : List Counts) (g : ℕ) (d : Counts) → (slice_get gs g ≡ None) ⊎ (slice_get ts g ≡ None) → g < length (grown_each (map grown gs) ts places)
    → get_or (grown_each (map grown gs) ts places) g d ≡ get_or places g d
place_at [] ts places g d none l = refl
place_at (h ∷ hs) [] places g d none l = refl
place_at (h ∷ hs) (u ∷ us) [] g d none l = refl
place_at (h ∷ hs) (u ∷ us) (p ∷ ps) zero d none l = elim none [ inl e ↦ absurd (none-some h (sym e)) | inr e ↦ absurd (none-some u (sym e)) ]
place_at (h ∷ hs) (u ∷ us) (p ∷ ps) (suc g) d none l = place_at hs us ps g d none (omega arith)
