-- How a list is cut at its first element that passes a test.
use Rattle.std.proofs.Common.{◌≡◌, ℕ, ◌+◌, ◌<◌, ◌≤◌, Bool, true, false, List, [], ◌∷◌, take, drop, length, Some, None, ap, ◌∙◌, sym, refl, arith, cond, not, inl, inr}
use Rattle.std.specs.List.{slice_split, onto_first, position, position_or_len}
use Rattle.std.proofs.lemmas.List.Splits.{slice_split_first}
use Rattle.std.proofs.lemmas.Bool.{cases_lt, lt-ltb, le-ltb}

-- where no element passes, the list is one part
one_part : {X : Type 0} (p : X → Bool) (xs : List X) → length xs ≤ position_or_len p xs → slice_split p xs ≡ xs ∷ []
one_part p [] long = refl
one_part p (x ∷ xs) long =
    elim (p x) as
    (λ b. length (x ∷ xs) ≤ cond (not b) (1 + position_or_len p xs) 0 → cond b ([] ∷ slice_split p xs) (onto_first x (slice_split p xs)) ≡ (x ∷ xs) ∷ []) [
      | true ↦ λ l. absurd (omega arith)
      | false ↦ λ l. ap (onto_first x) (one_part p xs (omega arith))
    ] long

-- what a place that was not found says
pub not_found : {X : Type 0} (p : X → Bool) (xs : List X) → position p xs ≡ None → length xs ≤ position_or_len p xs
not_found p xs e = elim (cases_lt (position_or_len p xs) (length xs)) [
  | inl l ↦ let f : Some (position_or_len p xs) ≡ None = ap (λ b. cond b (Some (position_or_len p xs)) None) (sym (lt-ltb _ _ l)) ∙ e in cc
  | inr l ↦ l
]

-- what a place that was found says
pub record IsFound {X : Type 0} (p : X → Bool) (xs : List X) (k : ℕ) : Type 0 where
  pub at : position_or_len p xs ≡ k
  pub within : k < length xs

-- where the search answered a place, it is the first
pub found : {X : Type 0} (p : X → Bool) (xs : List X) (k : ℕ) → position p xs ≡ Some k → IsFound p xs k
found p xs k e = elim (cases_lt (position_or_len p xs) (length xs)) [
  | inl l ↦
      let f : Some (position_or_len p xs) ≡ Some k = ap (λ b. cond b (Some (position_or_len p xs)) None) (sym (lt-ltb _ _ l)) ∙ e in
      let same : position_or_len p xs ≡ k = cc in
      record { at = same; within = omega arith }
  | inr l ↦ let f : None ≡ Some k = ap (λ b. cond b (Some (position_or_len p xs)) None) (sym (le-ltb _ _ l)) ∙ e in cc
]

-- a list without such an element is one part
pub uncut : {X : Type 0} (p : X → Bool) (xs : List X) → position p xs ≡ None → slice_split p xs ≡ xs ∷ []
uncut p xs e = one_part p xs (not_found p xs e)

-- the first part ends at the first such element
pub cut_at : {X : Type 0} (p : X → Bool) (xs : List X) (k : ℕ) (d : X) → position p xs ≡ Some k → slice_split p xs ≡ take k xs ∷ slice_split p (drop (k + 1) xs)
cut_at p xs k d e =
    let f = found p xs k e in
    slice_split_first p xs d (omega (arith, f.at, f.within)) ∙ ap (λ n. take n xs ∷ slice_split p (drop (n + 1) xs)) f.at
