-- A small record and the batch rows of its version.
use Rattle.std.proofs.Common.{◌≡◌, ◌≤◌, ◌<◌, ◌+◌, ℕ, [], ◌∷◌, List, All, AllPairs, pos, refl, arith, inr}
use Rattle.std.proofs.lemmas.List.Elements.{All-cons}
use Rattle.std.proofs.lemmas.List.Kept.{AllPairs-cons}
use Rattle.cube_math.specs.Points.{PointValue}
use Rattle.record_model.specs.Records.{Record}
use Rattle.record_model.specs.declared.event.Event.TheVariants.{Admission, Publication, Look}
use Rattle.version_rows.specs.Journals.{AreApart, AreBatchesOf, HasAdmission, up_to_publication}
use Rattle.version_rows.specs.Versions.{BatchRowValue}

abbrev white : ℕ → PointValue
white x = record { x = pos x; y = pos 0; z = pos 0; rgb = 16777215 }

-- two batches are admitted, the second is published first, and a third is admitted behind both publications
abbrev story : Record
story =
    (Admission 0 (white 1 ∷ white 2 ∷ []), 0) ∷ (Admission 1 (white 3 ∷ []), 1) ∷ (Publication 1 (white 3 ∷ []), 1)
    ∷ (Publication 0 (white 1 ∷ white 2 ∷ []), 0) ∷ (Admission 2 (white 4 ∷ []), 0) ∷ (Look, 2) ∷ []

abbrev first_row : BatchRowValue
first_row = record { number = 1; input = 1; loader = 1; first = 2; len = 1 }

abbrev second_row : BatchRowValue
second_row = record { number = 2; input = 0; loader = 0; first = 0; len = 2 }

-- the rows stand in the order of the publications, each with the numbers of its items
abbrev rows : List BatchRowValue
rows = first_row ∷ second_row ∷ []

abbrev InAll : BatchRowValue → Type 0
InAll r = r.first + r.len ≤ 4

none_of : (P : BatchRowValue → Type 0) → All P []
none_of P k d low = absurd (below_nothing k low)
  where
    below_nothing : (k : ℕ) → k < 0 → ⊥
    below_nothing k low = omega arith

no_pairs : AllPairs AreApart []
no_pairs i j d low high = absurd (below_nothing j high)
  where
    below_nothing : (k : ℕ) → k < 0 → ⊥
    below_nothing k low = omega arith

-- each with its admission
first_admission : HasAdmission story first_row
first_admission = record {
  before = (Admission 0 (white 1 ∷ white 2 ∷ []), 0) ∷ [];
  points = white 3 ∷ [];
  behind = (Publication 1 (white 3 ∷ []), 1) ∷ (Publication 0 (white 1 ∷ white 2 ∷ []), 0) ∷ (Admission 2 (white 4 ∷ []), 0) ∷ (Look, 2) ∷ [];
  is = refl;
  first = refl;
  len = refl;
}

second_admission : HasAdmission story second_row
second_admission = record {
  before = [];
  points = white 1 ∷ white 2 ∷ [];
  behind = (Admission 1 (white 3 ∷ []), 1) ∷ (Publication 1 (white 3 ∷ []), 1)
      ∷ (Publication 0 (white 1 ∷ white 2 ∷ []), 0) ∷ (Admission 2 (white 4 ∷ []), 0) ∷ (Look, 2) ∷ [];
  is = refl;
  first = refl;
  len = refl;
}

-- they stand for the journal
rows_are_the_journal : AreBatchesOf story rows
rows_are_the_journal = record {
  entries = refl;
  numbers = refl;
  within = All-cons InAll first_row (second_row ∷ []) (omega arith) (All-cons InAll second_row [] (omega arith) (none_of InAll));
  admitted = All-cons (HasAdmission story) first_row (second_row ∷ []) first_admission
      (All-cons (HasAdmission story) second_row [] second_admission (none_of (HasAdmission story)));
  apart = AllPairs-cons AreApart first_row (second_row ∷ []) (All-cons (AreApart first_row) second_row [] (inr (omega arith)) (none_of (AreApart first_row)))
      (AllPairs-cons AreApart second_row [] (none_of (AreApart second_row)) no_pairs);
}

-- what was admitted behind the last publication does not count
third_is_left_out : up_to_publication story ≡ (Admission 0 (white 1 ∷ white 2 ∷ []), 0) ∷ (Admission 1 (white 3 ∷ []), 1) ∷ (Publication 1 (white 3 ∷ []), 1) ∷ (Publication 0 (white 1 ∷ white 2 ∷ []), 0) ∷ []
third_is_left_out = refl
