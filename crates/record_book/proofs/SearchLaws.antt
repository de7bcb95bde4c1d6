-- How the batch of an item is found among the admitted ones.
use Rattle.std.proofs.Common.{◌≡◌, ℕ, ◌+◌, ◌<◌, ◌≤◌, inl, inr, true, false, List, [], ◌∷◌, nat_le, length, get_or, Option, Some, None, ap, sym, subst, ◌∙◌, refl, arith}
use Rattle.std.specs.Prelude.{IfSome, slice_get, suc}
use Rattle.std.specs.List.{AllWithin}
use Rattle.std.specs.List.Sorted.{IsNonDecreasingBy}
use Rattle.std.proofs.lemmas.Bool.{cases_lt, leb-false, leb-true}
use Rattle.std.proofs.lemmas.Option.{get_or_from_slice_get, none-some, slice_get-get_or, slice_get_past, slice_get_within}
use Rattle.cube_math.specs.Points.{PointValue}
use Rattle.record_model.specs.Admissions.{admitted_points}
use Rattle.record_model.specs.Records.{Record}
use Rattle.record_book.specs.KeptBatches.{KeptValue, kept_of, points_in}
use Rattle.record_book.proofs.KeptLaws.{covers, first_batch, item_of, ordered, points_kept}

-- the first items rise
pub firsts_rise : (events : Record) → IsNonDecreasingBy (λ (b : KeptValue). b.first) (kept_of events)
firsts_rise events i j d before within = elim (cases_lt i j) [
  | inl less ↦
      let apart = ordered 0 events i j (get_or (kept_of events) i d) (get_or (kept_of events) j d) (slice_get-get_or (kept_of events) i d (omega arith))
      (slice_get-get_or (kept_of events) j d within) less in
      omega (arith, apart)
  | inr not_less ↦
      let same : i ≡ j = omega arith in
      omega (arith, ap (λ (k : ℕ). (get_or (kept_of events) k d).first) same)
]

pub begun_before : (kept : List KeptValue) (begun item : ℕ) → AllWithin (λ (b : KeptValue). nat_le b.first item ≡ true) kept 0 begun
    → (k : ℕ) (b : KeptValue) → slice_get kept k ≡ Some b → k < begun → b.first ≤ item
begun_before kept begun item all k b at less =
    leb-true b.first item (subst (λ (y : KeptValue). nat_le y.first item ≡ true) (get_or_from_slice_get kept k b b at) (all k b (omega arith) less))

pub begun_behind : (kept : List KeptValue) (begun item : ℕ) → AllWithin (λ (b : KeptValue). nat_le b.first item ≡ false) kept begun (length kept)
    → (k : ℕ) (b : KeptValue) → slice_get kept k ≡ Some b → begun ≤ k → item < b.first
begun_behind kept begun item all k b at past =
    leb-false b.first item
    (subst (λ (y : KeptValue). nat_le y.first item ≡ false) (get_or_from_slice_get kept k b b at) (all k b past (slice_get_within kept k b at)))

-- where there are points there is a batch
pub some_batch : (kept : List KeptValue) (item : ℕ) → item < length (points_in kept) → 1 ≤ length kept
some_batch [] item low = absurd (omega arith)
some_batch (b ∷ kept) item low = omega arith

if_some : {X : Type 0} (o : Option X) (P : X → Type 0) → ((x : X) → o ≡ Some x → P x) → IfSome o P
if_some None P all = tt
if_some (Some x) P all = all x refl

module _ (events : Record) (item : ℕ) (low : item < length (points_in (kept_of events))) where
  -- a batch that begins at the item or before it has the item, where no later one begins there
  found : (place : ℕ) → ((b : KeptValue) → slice_get (kept_of events) place ≡ Some b → b.first ≤ item)
      → ((c : KeptValue) → slice_get (kept_of events) (suc place) ≡ Some c → item < c.first)
      → IfSome (slice_get (kept_of events) place) (λ (b : KeptValue). (b.first ≤ item) × (item < b.first + length b.points))
  found place begins later = if_some (slice_get (kept_of events) place) (λ (b : KeptValue). (b.first ≤ item) × (item < b.first + length b.points))
      (λ b at. (begins b at, covers 0 events place b item at later (omega (arith, low))))

  pub found_last : (place : ℕ) (b : KeptValue) → slice_get (kept_of events) place ≡ Some b → place + 1 ≡ length (kept_of events) → b.first ≤ item
      → IfSome (slice_get (kept_of events) place) (λ (b : KeptValue). (b.first ≤ item) × (item < b.first + length b.points))
  found_last place b at is_last begins = found place
      (λ c at_c. subst (λ (o : Option KeptValue). IfSome o (λ (x : KeptValue). x.first ≤ item)) at_c
      (subst (λ (o : Option KeptValue). IfSome o (λ (x : KeptValue). x.first ≤ item)) (sym at) begins))
      (λ c at_c. absurd (none-some c (sym (slice_get_past (kept_of events) (suc place) (omega (arith, is_last))) ∙ at_c)))

  module _ (begun : ℕ) (before : (k : ℕ) (b : KeptValue) → slice_get (kept_of events) k ≡ Some b → k < begun → b.first ≤ item)
      (behind : (k : ℕ) (b : KeptValue) → slice_get (kept_of events) k ≡ Some b → begun ≤ k → item < b.first) where
    -- the first batch begins at item 0
    pub some_begun : 1 ≤ begun
    some_begun = elim (cases_lt 0 begun) [
      | inl some ↦ omega arith
      | inr none ↦ elim (first_batch 0 events) [
        | inl empty ↦ absurd (omega (arith, low, ap (λ (l : List KeptValue). length (points_in l)) empty))
        | inr b ↦ absurd (omega (arith, behind 0 b.0 b.1 none, b.2))
      ]
    ]

    pub found_begun : (place : ℕ) → place + 1 ≡ begun
        → IfSome (slice_get (kept_of events) place) (λ (b : KeptValue). (b.first ≤ item) × (item < b.first + length b.points))
    found_begun place is = found place (λ b at. before place b at (omega (arith, is))) (λ c at. behind (suc place) c at (omega (arith, is)))

-- only one batch has an item
pub one_place : (events : Record) (i j : ℕ) (a b : KeptValue) → slice_get (kept_of events) i ≡ Some a → slice_get (kept_of events) j ≡ Some b
    → a.first ≤ b.first → b.first < a.first + length a.points → 1 ≤ length b.points → j ≡ i
one_place events i j a b at_i at_j low high some = elim (cases_lt i j) [
  | inl less ↦ absurd (omega (arith, ordered 0 events i j a b at_i at_j less))
  | inr more ↦ elim (cases_lt j i) [
    | inl less ↦ absurd (omega (arith, ordered 0 events j i b a at_j at_i less))
    | inr same ↦ omega arith
  ]
]

-- the point of an item, as it is read
pub point_there : (events : Record) (place item at : ℕ) (b : KeptValue) (points : List PointValue) (p : PointValue) → slice_get (kept_of events) place ≡ Some b
    → IfSome (slice_get (kept_of events) place) (λ (x : KeptValue). (x.first ≤ item) × (item < x.first + length x.points))
    → points ≡ b.points → b.first + at ≡ item → p ≡ get_or points at p → slice_get (admitted_points events) item ≡ Some p
point_there events place item at b points p there has same is read =
    let within = subst (λ (o : Option KeptValue). IfSome o (λ (x : KeptValue). (x.first ≤ item) × (item < x.first + length x.points))) there has in
    ap (λ (l : List PointValue). slice_get l item) (points_kept events) ∙ ap (slice_get (points_in (kept_of events))) (sym is)
    ∙ item_of events place b at p there (omega (arith, within.1, is)) ∙ ap Some (ap (λ (l : List PointValue). get_or l at p) (sym same) ∙ sym read)
