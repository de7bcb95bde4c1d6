-- The first of numbered answers.
use Rattle.std.proofs.Common.{◌≡◌, ℕ, zero, suc, ◌+◌, ◌<◌, inl, inr, Bool, true, false, cond, List, [], ◌∷◌, ◌++◌, length, get_or, Option, Some, None, ap, ◌∙◌, sym, refl, arith}
use Rattle.std.specs.Prelude.{filter_map, slice_get, position}
use Rattle.std.specs.List.{cons_option, position_from}
use Rattle.std.specs.Option.{option_or}
use Rattle.std.proofs.lemmas.Bool.{cases_lt}
use Rattle.std.proofs.lemmas.Iterator.Adapters.{position_from-zero}
use Rattle.std.proofs.lemmas.List.Elements.{filter_map-append}
use Rattle.cube_math.specs.declared.refused.RefusedRow.{RefusedRow}
use Rattle.octree_model.specs.Numbers.{up_to}

-- the first answer of numbers
abbrev pub first_of : (ℕ → Option RefusedRow) → ℕ → Option RefusedRow
first_of f n = slice_get (filter_map f (up_to n)) 0

head_of : (o : Option RefusedRow) (rows : List RefusedRow) → slice_get (cons_option o rows) 0 ≡ option_or o (slice_get rows 0)
head_of None rows = refl
head_of (Some row) rows = refl

head-append : (xs ys : List RefusedRow) → slice_get (xs ++ ys) 0 ≡ option_or (slice_get xs 0) (slice_get ys 0)
head-append [] ys = refl
head-append (x ∷ xs) ys = refl

or_none : (a : Option RefusedRow) → option_or a None ≡ a
or_none None = refl
or_none (Some row) = refl

first_more : (f : ℕ → Option RefusedRow) (n : ℕ) → first_of f (suc n) ≡ option_or (first_of f n) (f n)
first_more f n =
    ap (λ (rows : List RefusedRow). slice_get rows 0) (filter_map-append f (up_to n) (n ∷ [])) ∙ head-append (filter_map f (up_to n)) (filter_map f (n ∷ []))
    ∙ ap (option_or (first_of f n)) (head_of (f n) [] ∙ or_none (f n))

pub none_first : (f : ℕ → Option RefusedRow) (n : ℕ) → ((k : ℕ) → k < n → f k ≡ None) → first_of f n ≡ None
none_first f zero none = refl
none_first f (suc n) none = first_more f n ∙ (λ i. option_or (none_first f n (λ k l. none k (omega arith)) i) (none n (omega arith) i))

pub one_first : (f : ℕ → Option RefusedRow) (n k : ℕ) (row : RefusedRow) → k < n → f k ≡ Some row → ((j : ℕ) → j < k → f j ≡ None) → first_of f n ≡ Some row
one_first f zero k row l is none = absurd (omega arith)
one_first f (suc n) k row l is none = elim (cases_lt k n) [
  | inl before ↦ first_more f n ∙ ap (λ o. option_or o (f n)) (one_first f n k row before is none)
  | inr last ↦
      let same : k ≡ n = omega arith in
      let here : f n ≡ Some row = ap f (sym same) ∙ is in
      first_more f n ∙ (λ i. option_or (none_first f n (λ j b. none j (omega arith)) i) (here i))
]

-- ---- places
place_from : {X : Type 0} (p : X → Bool) (n : ℕ) (xs : List X) (i : ℕ) (d : X) → i < length xs → p (get_or xs i d) ≡ true → ((k : ℕ) → k < i → p (get_or xs k d) ≡ false) → position_from p n xs ≡ Some (n + i)
place_from p n [] i d l is none = absurd (omega arith)
place_from p n (x ∷ xs) zero d l is none = let same : n ≡ n + 0 = omega arith in rw is (ap (λ k. Some k) same)
place_from p n (x ∷ xs) (suc i) d l is none =
    let here : p x ≡ false = none 0 (omega arith) in
    let next : n + 1 + i ≡ n + suc i = omega arith in
    rw here (place_from p (n + 1) xs i d (omega arith) is (λ k b. none (suc k) (omega arith)) ∙ ap (λ k. Some k) next)

no_place_from : {X : Type 0} (p : X → Bool) (n : ℕ) (xs : List X) (d : X) → ((k : ℕ) → k < length xs → p (get_or xs k d) ≡ false) → position_from p n xs ≡ None
no_place_from p n [] d none = refl
no_place_from p n (x ∷ xs) d none =
    let here : p x ≡ false = none 0 (omega arith) in
    rw here (no_place_from p (n + 1) xs d (λ k b. none (suc k) (omega arith)))

-- the first place is the one at which the test passes, and at none before it
pub first_place : {X : Type 0} (p : X → Bool) (xs : List X) (i : ℕ) (d : X) → i < length xs → p (get_or xs i d) ≡ true → ((k : ℕ) → k < i → p (get_or xs k d) ≡ false) → position p xs ≡ Some i
first_place p xs i d l is none = position_from-zero p xs ∙ place_from p 0 xs i d l is none ∙ (let same : 0 + i ≡ i = omega arith in ap (λ k. Some k) same)

pub no_place : {X : Type 0} (p : X → Bool) (xs : List X) (d : X) → ((k : ℕ) → k < length xs → p (get_or xs k d) ≡ false) → position p xs ≡ None
no_place p xs d none = position_from-zero p xs ∙ no_place_from p 0 xs d none

-- where no place passes, none does
none_passes_from : {X : Type 0} (p : X → Bool) (n : ℕ) (xs : List X) → position_from p n xs ≡ None → (k : ℕ) (d : X) → k < length xs → p (get_or xs k d) ≡ false
none_passes_from p n [] e k d l = absurd (omega arith)
none_passes_from p n (x ∷ xs) e zero d l = here (p x) e
  where
    here : (b : Bool) → cond b (Some n) (position_from p (n + 1) xs) ≡ None → b ≡ false
    here true e = cc
    here false e = refl
none_passes_from p n (x ∷ xs) e (suc k) d l = none_passes_from p (n + 1) xs (rest (p x) e) k d (omega arith)
  where
    rest : (b : Bool) → cond b (Some n) (position_from p (n + 1) xs) ≡ None → position_from p (n + 1) xs ≡ None
    rest true e = cc
    rest false e = e

pub none_passes : {X : Type 0} (p : X → Bool) (xs : List X) → position p xs ≡ None → (k : ℕ) (d : X) → k < length xs → p (get_or xs k d) ≡ false
none_passes p xs e k d l = none_passes_from p 0 xs (sym (position_from-zero p xs) ∙ e) k d l
