-- The first batch that stops for a point outside, or for points.
use Rattle.std.proofs.Common.{◌≡◌, ℕ, zero, suc, ◌+◌, ◌-◌, ◌<◌, ◌≤◌, ◌==◌, Bool, true, false, not, List, [], ◌∷◌, length, take, get_or, Some, None, pos, ap, ◌∙◌, sym, refl, arith, nat_lt, if◌then◌else◌}
use Rattle.std.specs.Prelude.{position, option_map}
use Rattle.std.proofs.lemmas.Bool.{lt-ltb, le-ltb, ltb-true, ltb-false}
use Rattle.std.proofs.lemmas.Bool.Decides.{nat_tests}
use Rattle.std.proofs.lemmas.List.{take_all}
use Rattle.std.proofs.lemmas.List.Quantifiers.{position-Some}
use Rattle.cube_math.specs.Points.{PointValue}
use Rattle.cube_math.specs.Cubes.{CubeValue, contains}
use Rattle.cube_math.specs.Refusals.{first_outside}
use Rattle.cube_math.specs.declared.refused.Cause.TheVariants.{Outside, Points}
use Rattle.octree_model.specs.Bags.{joined}
use Rattle.batch_bounds.specs.Batches.{ends_from}
use Rattle.batch_bounds.specs.Stops.{IsFirst, outside_at, points_at}
use Rattle.batch_bounds.proofs.Cuts.{batch_at, end_of, length-ends, ends_at, end_more, ends_within, point_in}
use Rattle.batch_bounds.proofs.Firsts.{first_place, no_place, none_passes}

-- the batch in which a place lies
pub record IsAbove (bs : List (List PointValue)) (place k : ℕ) : Type 0 where
  pub within : k < length bs
  pub above : place < end_of bs (k + 1)
  pub start : end_of bs k ≤ place
  pub below : (i : ℕ) → i < k → end_of bs (i + 1) ≤ place

-- the end of a batch, as the list of ends has it
pub end_is : (ends : List ℕ) (bs : List (List PointValue)) (k : ℕ) → ends ≡ ends_from 0 bs → k < length bs → get_or ends k 0 ≡ end_of bs (k + 1)
end_is ends bs k are l = ap (λ (es : List ℕ). get_or es k 0) are ∙ ends_at 0 bs k l ∙ omega arith

pub start_is : (ends : List ℕ) (bs : List (List PointValue)) (k : ℕ) → ends ≡ ends_from 0 bs → k < length bs → (if k == 0 then 0 else get_or ends (k - 1) 0) ≡ end_of bs k
start_is ends bs zero are l = refl
start_is ends bs (suc k) are l =
    let not_first : (suc k == 0) ≡ false = grind (arith, nat_tests) in
    let before : suc k - 1 ≡ k = omega arith in
    let next : k + 1 ≡ suc k = omega arith in
    ap (λ b. if b then 0 else get_or ends (suc k - 1) 0) not_first ∙ ap (λ j. get_or ends j 0) before ∙ end_is ends bs k are (omega arith) ∙ ap (end_of bs) next

start_below : (bs : List (List PointValue)) (place k : ℕ) → ((i : ℕ) → i < k → end_of bs (i + 1) ≤ place) → end_of bs k ≤ place
start_below bs place zero below = omega arith
start_below bs place (suc k) below = let next : k + 1 ≡ suc k = omega arith in let last : end_of bs (k + 1) ≤ place = below k (omega arith) in omega (arith, ap (end_of bs) next)

pub above_found : (ends : List ℕ) (bs : List (List PointValue)) (place k : ℕ) → ends ≡ ends_from 0 bs → position (λ end. nat_lt place end) ends ≡ Some k → IsAbove bs place k
above_found ends bs place k are found =
    let at : (k < length ends) × (nat_lt place (get_or ends k 0) ≡ true) × ((i : ℕ) → i < k → nat_lt place (get_or ends i 0) ≡ false) = position-Some (λ end. nat_lt place end) ends k 0 found in
    let many : length ends ≡ length bs = ap length are ∙ length-ends 0 bs in
    let low : (i : ℕ) → i < k → end_of bs (i + 1) ≤ place = λ i l.
    let not_above : get_or ends i 0 ≤ place = ltb-false place (get_or ends i 0) (at.2 i l) in omega (arith, end_is ends bs i are (omega (arith, many, at.0))) in
    let high : place < get_or ends k 0 = ltb-true place (get_or ends k 0) at.1 in
    record {
      within = omega (arith, many, at.0);
      above = omega (arith, end_is ends bs k are (omega (arith, many, at.0)));
      start = start_below bs place k low;
      below = low;
    }

pub none_above : (ends : List ℕ) (bs : List (List PointValue)) (place : ℕ) → ends ≡ ends_from 0 bs → position (λ end. nat_lt place end) ends ≡ None → (i : ℕ) → i < length bs → end_of bs (i + 1) ≤ place
none_above ends bs place are none i l =
    let many : length ends ≡ length bs = ap length are ∙ length-ends 0 bs in
    let low : get_or ends i 0 ≤ place = ltb-false place (get_or ends i 0) (none_passes (λ end. nat_lt place end) ends none i 0 (omega (arith, many))) in
    omega (arith, end_is ends bs i are l)

-- ---- points
few_enough : (most : ℕ) (bs : List (List PointValue)) (k : ℕ) → k < length bs → end_of bs (k + 1) ≤ most → points_at most bs k ≡ None
few_enough most bs k l few =
    let all : length (joined (take k bs)) + length (batch_at bs k) ≤ most = omega (arith, end_more bs k l) in
    rw (le-ltb _ _ all) refl

pub no_points_stop : (most : ℕ) (ends : List ℕ) (bs : List (List PointValue)) → ends ≡ ends_from 0 bs → position (λ end. nat_lt most end) ends ≡ None → IsFirst (points_at most bs) (length bs) None
no_points_stop most ends bs are none k l = few_enough most bs k l (none_above ends bs most are none k l)

pub points_stop : (most admitted n : ℕ) (bs : List (List PointValue)) (k : ℕ) → IsAbove bs most k → admitted ≡ end_of bs k → n ≡ length (batch_at bs k)
    → IsFirst (points_at most bs) (length bs) (Some record { batch = k; row = record { input = k; cause = Points k admitted n most } })
points_stop most admitted n bs k is start many =
    let over : most < length (joined (take k bs)) + length (batch_at bs k) = omega (arith, end_more bs k is.within, is.above) in (
      is.within,
      ap (λ b. if b then Some record { input = k; cause = Points k (end_of bs k) (length (batch_at bs k)) most } else None) (lt-ltb _ _ over)
          ∙ (λ i. Some record { input = k; cause = Points k (sym start i) (sym many i) most }),
      λ i l. few_enough most bs i (omega (arith, is.within)) (is.below i l),
    )

-- ---- points outside
origin : PointValue
origin = record { x = pos 0; y = pos 0; z = pos 0; rgb = 0 }

-- a batch of which no point is outside
all_in : (cube : CubeValue) (bs : List (List PointValue)) (k : ℕ) → k < length bs → ((i : ℕ) → i < end_of bs (k + 1) → not (contains cube (get_or (joined bs) i origin)) ≡ false) → outside_at cube bs k ≡ None
all_in cube bs k l inside =
    ap (option_map (λ at. record { input = k; cause = Outside at })) (no_place (λ p. not (contains cube p)) (batch_at bs k) origin (λ j m.
    ap (λ (p : PointValue). not (contains cube p)) (sym (point_in bs k j origin l m)) ∙ inside (end_of bs k + j) (omega (arith, end_more bs k l))))

pub no_outside_stop : (cube : CubeValue) (bs : List (List PointValue)) → first_outside cube (joined bs) ≡ None → IsFirst (outside_at cube bs) (length bs) None
no_outside_stop cube bs none k l =
    all_in cube bs k l (λ i m. none_passes (λ p. not (contains cube p)) (joined bs) none i origin (omega (arith, ends_within bs (k + 1))))

pub outside_stop : (cube : CubeValue) (bs : List (List PointValue)) (at k place : ℕ) → first_outside cube (joined bs) ≡ Some at → IsAbove bs at k → place ≡ at - end_of bs k
    → IsFirst (outside_at cube bs) (length bs) (Some record { batch = k; row = record { input = k; cause = Outside place } })
outside_stop cube bs at k place found is same =
    let p : PointValue → Bool = λ q. not (contains cube q) in
    let first : (at < length (joined bs)) × (p (get_or (joined bs) at origin) ≡ true) × ((i : ℕ) → i < at → p (get_or (joined bs) i origin) ≡ false) = position-Some p (joined bs) at origin found in
    let there : end_of bs k + place ≡ at = omega (arith, is.start) in
    let low : place < length (batch_at bs k) = omega (arith, is.above, end_more bs k is.within) in (
      is.within,
      ap (option_map (λ a. record { input = k; cause = Outside a })) (first_place p (batch_at bs k) place origin low
          (ap p (sym (point_in bs k place origin is.within low) ∙ ap (λ i. get_or (joined bs) i origin) there) ∙ first.1)
          (λ j l. ap p (sym (point_in bs k j origin is.within (omega (arith, low)))) ∙ first.2 (end_of bs k + j) (omega (arith, there)))),
      λ i l. all_in cube bs i (omega (arith, is.within)) (λ j m. first.2 j (omega (arith, is.below i l))),
    )

-- a point that is there lies in a batch
pub lies_in_batch : (ends : List ℕ) (bs : List (List PointValue)) (at : ℕ) → ends ≡ ends_from 0 bs → at < length (joined bs) → position (λ end. nat_lt at end) ends ≡ None → ⊥
lies_in_batch ends [] at are l none = absurd (omega arith)
lies_in_batch ends (b ∷ bs) at are l none =
    let last : end_of (b ∷ bs) (length bs + 1) ≤ at = none_above ends (b ∷ bs) at are none (length bs) (omega arith) in
    let all : take (length bs + 1) (b ∷ bs) ≡ b ∷ bs = take_all (length bs + 1) (b ∷ bs) (omega arith) in
    absurd (omega (arith, ap (λ (l : List (List PointValue)). length (joined l)) all))

-- the first point outside is there
pub place_there : (cube : CubeValue) (bs : List (List PointValue)) (at : ℕ) → first_outside cube (joined bs) ≡ Some at → at < length (joined bs)
place_there cube bs at found = (position-Some (λ p. not (contains cube p)) (joined bs) at origin found).0
