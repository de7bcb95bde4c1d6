-- Values that are lists of numbers.
use Rattle.std.proofs.Common.{◌≡◌, ℕ, ◌<◌, ◌&&◌, ◌==◌, Bool, true, false, List, [], ◌∷◌, length, ap, ◌∙◌, sym, refl, arith, map}
use Rattle.std.specs.Prelude.{ℤ, pos, ◌-ℤ◌, ◌-◌, ◌^◌, int_le, int_lt, slice_index_or, zero, suc}
use Rattle.std.specs.List.{list_all}
use Rattle.std.proofs.lemmas.Int.{ints}
use Rattle.std.proofs.lemmas.Bool.Decides.{nat_tests}
use Rattle.run_words.specs.Commands.{Text}
use Rattle.run_words.specs.Numbers.{whole, is_numeral, is_number, pieces, piece}
use Rattle.run_words.specs.Forms.{is_coordinate, are_numbers}

-- both parts of a test hold where the whole holds
pub both : (a b : Bool) → (a && b) ≡ true → (a ≡ true) × (b ≡ true)
both true b holds = (refl, holds)
both false b holds = cc

-- what all pass, each passes
pub passes_at : {X : Type 0} (test : X → Bool) (xs : List X) (k : ℕ) (d : X) → list_all test xs ≡ true → k < length xs → test (slice_index_or xs k d) ≡ true
passes_at test [] k d all within = absurd (omega arith)
passes_at test (x ∷ xs) zero d all within = (both _ _ all).0
passes_at test (x ∷ xs) (suc k) d all within = passes_at test xs k d (both _ _ all).1 (omega arith)

le_trans : (a b c : ℤ) → int_le a b ≡ true → int_le b c ≡ true → int_le a c ≡ true
le_trans a b c ab bc = grind (arith, ints)

-- a number of a range is one of a wider range, if both or none has negative numbers
pub wider : (low high low' high' : ℤ) (text : Text) → int_lt low (pos 0) ≡ int_lt low' (pos 0) → int_le low' low ≡ true → int_le high high' ≡ true → is_number low high text ≡ true → is_number low' high' text ≡ true
wider low high low' high' text signs lower higher is =
    let above = both _ _ is in
    let numeral = both _ _ above.0 in
    rw (ap (λ s. is_numeral s text) (sym signs) ∙ numeral.0, le_trans low' low (whole text) lower numeral.1, le_trans (whole text) high high' above.1 higher) refl

-- how many numbers there are
pub numbers_count : (count : ℕ) (low high : ℤ) (text : Text) → are_numbers count low high text ≡ true → length (pieces text) ≡ count
numbers_count count low high text are = same (length (pieces text)) count (both _ _ are).0
  where
    same : (m n : ℕ) → (m == n) ≡ true → m ≡ n
    same m n is = grind (arith, nat_tests)

-- each of the numbers is a coordinate
pub coordinate_at : (count : ℕ) (low high : ℤ) (text : Text) (k : ℕ) → are_numbers count low high text ≡ true → k < count
    → int_lt low (pos 0) ≡ true → int_le (pos 0 -ℤ pos (2 ^ 31)) low ≡ true → int_le high (pos (2 ^ 31 - 1)) ≡ true → is_coordinate (piece text k) ≡ true
coordinate_at count low high text k are within signed lower higher =
    let n = numbers_count count low high text are in
    let inside : k < length (pieces text) = omega arith in
    wider low high (pos 0 -ℤ pos (2 ^ 31)) (pos (2 ^ 31 - 1)) (piece text k) signed lower higher (passes_at (λ number. is_number low high number) (pieces text) k [] (both _ _ are).1 inside)

-- a list of three and one of nine, by their elements
pub three_mapped : {A : Type 0} (f : Text → A) (xs : List Text) → length xs ≡ 3 → f (slice_index_or xs 0 []) ∷ f (slice_index_or xs 1 []) ∷ f (slice_index_or xs 2 []) ∷ [] ≡ map f xs
three_mapped f (a ∷ b ∷ c ∷ []) n = refl
three_mapped f (a ∷ b ∷ c ∷ d ∷ xs) n = absurd (omega arith)
three_mapped f (a ∷ b ∷ []) n = absurd (omega arith)
three_mapped f (a ∷ []) n = absurd (omega arith)
three_mapped f [] n = absurd (omega arith)

pub nine_mapped : {A : Type 0} (f : Text → A) (xs : List Text) → length xs ≡ 9
    → f (slice_index_or xs 0 []) ∷ f (slice_index_or xs 1 []) ∷ f (slice_index_or xs 2 []) ∷ f (slice_index_or xs 3 []) ∷ f (slice_index_or xs 4 []) ∷ f (slice_index_or xs 5 []) ∷ f (slice_index_or xs 6 []) ∷ f (slice_index_or xs 7 []) ∷ f (slice_index_or xs 8 []) ∷ [] ≡ map f xs
nine_mapped value (a ∷ b ∷ c ∷ d ∷ e ∷ f ∷ g ∷ h ∷ i ∷ []) n = refl
nine_mapped value (a ∷ b ∷ c ∷ d ∷ e ∷ f ∷ g ∷ h ∷ i ∷ j ∷ xs) n = absurd (omega arith)
nine_mapped value (a ∷ b ∷ c ∷ d ∷ e ∷ f ∷ g ∷ h ∷ []) n = absurd (omega arith)
nine_mapped value (a ∷ b ∷ c ∷ d ∷ e ∷ f ∷ g ∷ []) n = absurd (omega arith)
nine_mapped value (a ∷ b ∷ c ∷ d ∷ e ∷ f ∷ []) n = absurd (omega arith)
nine_mapped value (a ∷ b ∷ c ∷ d ∷ e ∷ []) n = absurd (omega arith)
nine_mapped value (a ∷ b ∷ c ∷ d ∷ []) n = absurd (omega arith)
nine_mapped value (a ∷ b ∷ c ∷ []) n = absurd (omega arith)
nine_mapped value (a ∷ b ∷ []) n = absurd (omega arith)
nine_mapped value (a ∷ []) n = absurd (omega arith)
nine_mapped value [] n = absurd (omega arith)
