-- Fitted cubes.
use Rattle.std.proofs.Common.{zero, suc, Bool, ◌&&◌, nat_lt, Option, Some, None, Ok, Err, ◌++◌, ◌≡◌, ◌≤◌, ◌<◌, ◌+◌, ◌-◌, ◌*◌, ◌%◌, ◌^◌, ℕ, ℤ, pos, ◌-ℤ◌, ◌+ℤ◌, ◌≤ℤ◌, ◌<ℤ◌, unsigned_abs, max, List, [], ◌∷◌, map, take, length, get_or, fold, IsTrue, true, false, cond, int_le, int_lt, ◌⊎◌, ap, ◌∙◌, sym, refl, arith, inl, inr, to_z, of_z, w32, w64}
use Rattle.std.specs.Prelude.{find, unwrap_or}
use Rattle.std.specs.List.{All}
use Rattle.std.specs.Option.{option_map_or}
use Rattle.std.specs.Int.{int_min, int_max}
use Rattle.std.proofs.lemmas.Int.{to_z-of_z, to_z_pos, ints, clamps, fold-int_min_bounds, fold-int_max_bounds}
use Rattle.std.proofs.lemmas.List.Elements.{All-nil, All-cons}
use Rattle.std.proofs.lemmas.Bool.{lt-leb, lt-ltb, cases_lt, and_from}
use borrow.Author.Tests.{ltb-true}
use Rattle.std.proofs.lemmas.List.{take_more, map-append, get_or-map, length-map}
use Rattle.std.proofs.lemmas.List.Sums.{fold_push}
use Rattle.std.proofs.lemmas.Nat.{one_shl}
use Rattle.std.proofs.Math.Nat.{pow-le-pow_right}
use Rattle.cube_math.specs.Points.{PointValue}
use Rattle.cube_math.specs.Cubes.{CubeValue, on_axis, contains, FitsSpace}
use Rattle.octree_plain.specs.declared.fitting.Span.{Span}
use Rattle.octree_plain.specs.Fitting.{origin, on_x, on_y, on_z, least_of, greatest_of, span_of, all_span_below, wide_axis, fitted_bits, fitted_cube, cube_round}
use Rattle.octree_model.specs.Numbers.{up_to}
use mir.Val.{SFits}

le_to : (a b : ℤ) → a ≤ℤ b → int_le a b ≡ true
le_to a b h = grind (arith, ints)

lt_to : (a b : ℤ) → a <ℤ b → int_lt a b ≡ true
lt_to a b h = grind (arith, ints)

-- what a function gives of a coordinate that was read
pub of_read : (f : ℤ → ℤ) (x y r : ℤ) → SFits w32 x → x ≡ y → r ≡ f (to_z w32 (of_z w32 x)) → r ≡ f y
of_read f x y r fits same e = e ∙ ap f (to_z-of_z w32 x fits) ∙ ap f same

side_below : (bits : ℕ) → bits ≤ 31 → 2 ^ bits ≤ 2 ^ 31
side_below bits high = let two : 0 < 2 = omega arith in pow-le-pow_right two high

-- what the code's shift gives
shifted : (bits : ℕ) → bits ≤ 31 → to_z w64 (1 * 2 ^ bits % 18446744073709551616) ≡ pos (2 ^ bits)
shifted bits high =
    let fits : bits < 64 = omega arith in
    let side : 2 ^ bits ≤ 2 ^ 31 = side_below bits high in
    rw (one_shl bits 64 fits) (omega (arith, ints))

-- a number below 2 ^ 31 stays through both widths
narrowed : (n : ℕ) → n < 2 ^ 31 → to_z w32 (of_z w32 (to_z w64 (of_z w64 (pos n)))) ≡ pos n
narrowed n l = ap (λ z. to_z w32 (of_z w32 z)) (to_z_pos w64 n (omega arith)) ∙ to_z_pos w32 n (omega arith)

last_origin : (bits : ℕ) → bits ≤ 31 → 0 < 2 ^ bits → to_z w32 (of_z w32 (to_z w64 (of_z w64 (pos 2147483648 -ℤ to_z w64 (1 * 2 ^ bits % 18446744073709551616))))) ≡ pos (2 ^ 31) -ℤ pos (2 ^ bits)
last_origin bits high some =
    let side : 2 ^ bits ≤ 2 ^ 31 = side_below bits high in
    let difference : pos 2147483648 -ℤ pos (2 ^ bits) ≡ pos (2147483648 - 2 ^ bits) = omega (arith, ints) in
    let below : 2147483648 - 2 ^ bits < 2 ^ 31 = omega arith in
    ap (λ z. to_z w32 (of_z w32 (to_z w64 (of_z w64 (pos 2147483648 -ℤ z))))) (shifted bits high)
    ∙ ap (λ z. to_z w32 (of_z w32 (to_z w64 (of_z w64 z)))) difference
    ∙ narrowed (2147483648 - 2 ^ bits) below ∙ sym difference

-- where the code lets an axis begin
pub origin_is : (least r : ℤ) (bits : ℕ) → bits ≤ 31 → 0 < 2 ^ bits → SFits w32 least
    → r ≡ int_min (to_z w32 (of_z w32 least)) (to_z w32 (of_z w32 (to_z w64 (of_z w64 (pos 2147483648 -ℤ to_z w64 (1 * 2 ^ bits % 18446744073709551616))))))
    → r ≡ origin least bits
origin_is least r bits high some fits e =
    e ∙ ap (λ (a : ℤ). int_min a (to_z w32 (of_z w32 (to_z w64 (of_z w64 (pos 2147483648 -ℤ to_z w64 (1 * 2 ^ bits % 18446744073709551616))))))) (to_z-of_z w32 least fits)
    ∙ ap (λ (b : ℤ). int_min least b) (last_origin bits high some)

-- one point more
pub one_more : (f : ℤ → ℤ → ℤ) (axis : PointValue → ℤ) (a now new : ℤ) (ps : List PointValue) (i : ℕ) (p : PointValue) → i < length ps → p ≡ get_or ps i p
    → now ≡ fold f a (map axis (take i ps)) → new ≡ f now (axis p) → new ≡ fold f a (map axis (take (i + 1) ps))
one_more f axis a now new ps i p l at before step =
    step ∙ ap (λ n. f n (axis p)) before ∙ ap (λ q. f (fold f a (map axis (take i ps))) (axis q)) at
    ∙ sym (ap (λ (qs : List PointValue). fold f a (map axis qs)) (take_more ps i p l) ∙ ap (fold f a) (map-append axis (take i ps) (get_or ps i p ∷ []))
    ∙ fold_push f a (map axis (take i ps)) (axis (get_or ps i p)))

-- the least and the greatest are bounds
least_below : (ns : List ℤ) → All (λ n. least_of ns ≤ℤ n) ns
least_below [] = All-nil (λ n. pos 0 ≤ℤ n)
least_below (n ∷ ns) =
    let bounds = fold-int_min_bounds n ns (fold int_min n ns) refl in
    All-cons (λ m. fold int_min n ns ≤ℤ m) n ns bounds.0 bounds.1

greatest_above : (ns : List ℤ) → All (λ n. n ≤ℤ greatest_of ns) ns
greatest_above [] = All-nil (λ n. n ≤ℤ pos 0)
greatest_above (n ∷ ns) =
    let bounds = fold-int_max_bounds n ns (fold int_max n ns) refl in
    All-cons (λ m. m ≤ℤ fold int_max n ns) n ns bounds.0 bounds.1

-- the lesser of two is at most each, and is one of them
min_left : (a b : ℤ) → int_min a b ≤ℤ a
min_left a b = omega (arith, ints, clamps)

min_right : (a b : ℤ) → int_min a b ≤ℤ b
min_right a b = omega (arith, ints, clamps)

min_is : (a b : ℤ) → (int_min a b ≡ a) ⊎ (int_min a b ≡ b)
min_is a b = elim (int_lt b a) as (λ t. (cond t b a ≡ a) ⊎ (cond t b a ≡ b)) [ true ↦ inr refl | false ↦ inl refl ]

-- an axis that begins at its origin ends by 2 ^ 31
ends_by : (o : ℤ) (side : ℕ) → o ≤ℤ (pos (2 ^ 31) -ℤ pos side) → (o +ℤ pos side) ≤ℤ pos (2 ^ 31)
ends_by o side h = omega (arith, ints)

axis_end : (least : ℤ) (bits : ℕ) → (origin least bits +ℤ pos (2 ^ bits)) ≤ℤ pos (2 ^ 31)
axis_end least bits = ends_by (origin least bits) (2 ^ bits) (min_right least (pos (2 ^ 31) -ℤ pos (2 ^ bits)))

-- it has the coordinates from the least to the greatest
below_end : (o least greatest x : ℤ) (side : ℕ) → (o ≡ least) ⊎ (o ≡ pos (2 ^ 31) -ℤ pos side) → x ≤ℤ greatest → SFits w32 greatest → least ≤ℤ greatest → unsigned_abs (greatest -ℤ least) < side
    → x <ℤ (o +ℤ pos side)
below_end o least greatest x side (inl first) high fits some narrow = omega (arith, ints)
below_end o least greatest x side (inr last) high fits some narrow = omega (arith, ints)

to_test : (o x : ℤ) (bits : ℕ) → o ≤ℤ x → x <ℤ (o +ℤ pos (2 ^ bits)) → IsTrue (on_axis o bits x)
to_test o x bits low high = and_from _ _ (le_to _ _ low) (lt_to _ _ high)

axis_has : (least greatest x : ℤ) (bits : ℕ) → least ≤ℤ x → x ≤ℤ greatest → SFits w32 greatest → unsigned_abs (greatest -ℤ least) < 2 ^ bits → IsTrue (on_axis (origin least bits) bits x)
axis_has least greatest x bits low high fits narrow =
    let begins : origin least bits ≤ℤ least = min_left least (pos (2 ^ 31) -ℤ pos (2 ^ bits)) in
    let before : origin least bits ≤ℤ x = omega (arith, ints, begins) in
    let some : least ≤ℤ greatest = omega (arith, ints) in
    to_test (origin least bits) x bits before (below_end (origin least bits) least greatest x (2 ^ bits) (min_is least (pos (2 ^ 31) -ℤ pos (2 ^ bits))) high fits some narrow)

-- the same, for the coordinates of points
axis_has_each : (axis : PointValue → ℤ) (ps : List PointValue) (bits : ℕ) → SFits w32 (greatest_of (map axis ps)) → span_of (map axis ps) < 2 ^ bits
    → All (λ p. IsTrue (on_axis (origin (least_of (map axis ps)) bits) bits (axis p))) ps
axis_has_each axis ps bits fits narrow k d l =
    let at : get_or (map axis ps) k (axis d) ≡ axis (get_or ps k d) = get_or-map axis ps k d (axis d) l in
    let here : k < length (map axis ps) = omega (arith, length-map ps axis) in
    let low : least_of (map axis ps) ≤ℤ axis (get_or ps k d) = rw (← at) (least_below (map axis ps) k (axis d) here) in
    let high : axis (get_or ps k d) ≤ℤ greatest_of (map axis ps) = rw (← at) (greatest_above (map axis ps) k (axis d) here) in
    axis_has _ _ _ bits low high fits narrow

-- what the code found out about an axis
pub record Axis (ns : List ℤ) (span bits : ℕ) (o : ℤ) : Type 0 where
  pub fits : SFits w32 (greatest_of ns)
  pub is_span : span ≡ span_of ns
  pub narrow : span < 2 ^ 31
  pub below : span < 2 ^ bits
  pub is_origin : o ≡ origin (least_of ns) bits

pub axis_from : (ns : List ℤ) (least greatest o : ℤ) (span widest bits : ℕ) → least ≡ least_of ns → greatest ≡ greatest_of ns → SFits w32 greatest → span ≡ unsigned_abs (greatest -ℤ least)
    → span < 2 ^ 31 → span ≤ widest → widest < 2 ^ bits → SFits w32 o → o ≡ origin least bits → Axis ns span bits (to_z w32 (of_z w32 o))
axis_from ns least greatest o span widest bits is_least is_greatest fits is_span narrow most above o_fits is_origin = record {
  fits = rw (← is_greatest) fits;
  is_span = is_span ∙ ap (λ n. unsigned_abs (n -ℤ least)) is_greatest ∙ ap (λ n. unsigned_abs (greatest_of ns -ℤ n)) is_least;
  narrow = narrow;
  below = omega arith;
  is_origin = to_z-of_z w32 o o_fits ∙ is_origin ∙ ap (λ n. origin n bits) is_least;
}

pub fits_space : (ps : List PointValue) (x y z bits : ℕ) (ox oy oz : ℤ) → Axis (on_x ps) x bits ox → Axis (on_y ps) y bits oy → Axis (on_z ps) z bits oz → 7 ≤ bits → bits ≤ 31
    → FitsSpace ox oy oz bits
fits_space ps x y z bits ox oy oz a b c low high = record {
  bits_low = low;
  bits_high = high;
  x_end = rw a.is_origin (axis_end (least_of (on_x ps)) bits);
  y_end = rw b.is_origin (axis_end (least_of (on_y ps)) bits);
  z_end = rw c.is_origin (axis_end (least_of (on_z ps)) bits);
}

-- each axis spans less than 2 ^ bits
pub record AllSpanBelow (ps : List PointValue) (bits : ℕ) : Type 0 where
  pub x : span_of (on_x ps) < 2 ^ bits
  pub y : span_of (on_y ps) < 2 ^ bits
  pub z : span_of (on_z ps) < 2 ^ bits

-- a cube that fits points, by what the code finds out
pub record IsFittedCube (ps : List PointValue) (cube : CubeValue) : Type 0 where
  pub narrow : wide_axis ps ≡ None
  pub from_seven : 7 ≤ cube.bits
  pub fits : AllSpanBelow ps cube.bits
  pub least : (bits : ℕ) → 7 ≤ bits → AllSpanBelow ps bits → cube.bits ≤ bits
  pub ox : cube.ox ≡ origin (least_of (on_x ps)) cube.bits
  pub oy : cube.oy ≡ origin (least_of (on_y ps)) cube.bits
  pub oz : cube.oz ≡ origin (least_of (on_z ps)) cube.bits

pub fitted : (ps : List PointValue) (x y z bits : ℕ) (ox oy oz : ℤ) → Axis (on_x ps) x bits ox → Axis (on_y ps) y bits oy → Axis (on_z ps) z bits oz → 7 ≤ bits
    → (7 < bits → 2 ^ (bits - 1) ≤ max (max x y) z) → IsFittedCube ps record { ox = ox; oy = oy; oz = oz; bits = bits }
fitted ps x y z bits ox oy oz a b c low least =
    let narrow_x : span_of (on_x ps) < 2 ^ 31 = omega (arith, a.is_span, a.narrow) in
    let narrow_y : span_of (on_y ps) < 2 ^ 31 = omega (arith, b.is_span, b.narrow) in
    let narrow_z : span_of (on_z ps) < 2 ^ 31 = omega (arith, c.is_span, c.narrow) in
    record {
      narrow = rw (lt-leb (2 ^ 31) (span_of (on_x ps)) narrow_x, lt-leb (2 ^ 31) (span_of (on_y ps)) narrow_y, lt-leb (2 ^ 31) (span_of (on_z ps)) narrow_z) refl;
      from_seven = low;
      fits = record { x = rw (← a.is_span) a.below; y = rw (← b.is_span) b.below; z = rw (← c.is_span) c.below };
      least = λ fewer from_seven all. elim (cases_lt fewer bits) [
        | inl below ↦
            let two : 0 < 2 = omega arith in
            let step : fewer ≤ bits - 1 = omega arith in
            let side : 2 ^ fewer ≤ 2 ^ (bits - 1) = pow-le-pow_right two step in
            let some : 2 ^ (bits - 1) ≤ max (max x y) z = least (omega arith) in
            absurd (omega (arith, a.is_span, b.is_span, c.is_span, all.x, all.y, all.z))
        | inr enough ↦ enough
      ];
      ox = a.is_origin;
      oy = b.is_origin;
      oz = c.is_origin;
    }

pub contains_all : (ps : List PointValue) (x y z bits : ℕ) (ox oy oz : ℤ) → Axis (on_x ps) x bits ox → Axis (on_y ps) y bits oy → Axis (on_z ps) z bits oz
    → All (λ p. IsTrue (contains record { ox = ox; oy = oy; oz = oz; bits = bits } p)) ps
contains_all ps x y z bits ox oy oz a b c k d l =
    let p : PointValue = get_or ps k d in
    let has_x : IsTrue (on_axis ox bits p.x) = rw a.is_origin (axis_has_each (λ q. q.x) ps bits a.fits (rw (← a.is_span) a.below) k d l) in
    let has_y : IsTrue (on_axis oy bits p.y) = rw b.is_origin (axis_has_each (λ q. q.y) ps bits b.fits (rw (← b.is_span) b.below) k d l) in
    let has_z : IsTrue (on_axis oz bits p.z) = rw c.is_origin (axis_has_each (λ q. q.z) ps bits c.fits (rw (← c.is_span) c.below) k d l) in
    and_from _ _ (and_from _ _ has_x has_y) has_z

both_pass : (a b : Bool) → (a && b) ≡ true → (a ≡ true) × (b ≡ true)
both_pass true true e = (refl, refl)
both_pass true false e = cc
both_pass false b e = cc

-- the test of the spans says what it tests
passes_below : (ps : List PointValue) (bits : ℕ) → AllSpanBelow ps bits → all_span_below ps bits ≡ true
passes_below ps bits h = and_from _ _ (and_from _ _ (lt-ltb _ _ h.x) (lt-ltb _ _ h.y)) (lt-ltb _ _ h.z)

below_passed : (ps : List PointValue) (bits : ℕ) → all_span_below ps bits ≡ true → AllSpanBelow ps bits
below_passed ps bits e =
    let all = both_pass (nat_lt (span_of (on_x ps)) (2 ^ bits) && nat_lt (span_of (on_y ps)) (2 ^ bits)) (nat_lt (span_of (on_z ps)) (2 ^ bits)) e in
    let two = both_pass (nat_lt (span_of (on_x ps)) (2 ^ bits)) (nat_lt (span_of (on_y ps)) (2 ^ bits)) all.0 in
    record { x = ltb-true _ _ two.0; y = ltb-true _ _ two.1; z = ltb-true _ _ all.1 }

find_left : (test : ℕ → Bool) (xs ys : List ℕ) (b : ℕ) → find test xs ≡ Some b → find test (xs ++ ys) ≡ Some b
find_left test [] ys b e = cc
find_left test (x ∷ xs) ys b e = elim (test x) as (λ t. cond t (Some x) (find test xs) ≡ Some b → cond t (Some x) (find test (xs ++ ys)) ≡ Some b) [
  | true ↦ λ h. h
  | false ↦ λ h. find_left test xs ys b h
] e

find_right : (test : ℕ → Bool) (xs ys : List ℕ) → find test xs ≡ None → find test (xs ++ ys) ≡ find test ys
find_right test [] ys e = refl
find_right test (x ∷ xs) ys e = elim (test x) as (λ t. cond t (Some x) (find test xs) ≡ None → cond t (Some x) (find test (xs ++ ys)) ≡ find test ys) [
  | true ↦ λ h. cc
  | false ↦ λ h. find_right test xs ys h
] e

from_seven : ℕ → List ℕ
from_seven n = map (λ k. 7 + k) (up_to n)

-- of the numbers from 7 on, none passes
none_passes : (test : ℕ → Bool) (n : ℕ) → ((k : ℕ) → k < n → test (7 + k) ≡ false) → find test (from_seven n) ≡ None
unfolding from_seven
none_passes test zero fails = refl
none_passes test (suc n) fails =
    let last : test (7 + n) ≡ false = fails n (omega arith) in
    ap (find test) (map-append (λ k. 7 + k) (up_to n) (n ∷ [])) ∙ find_right test (from_seven n) ((7 + n) ∷ []) (none_passes test n (λ k l. fails k (omega arith))) ∙ rw last refl

-- of the numbers from 7 on, this is the first that passes
first_passes : (test : ℕ → Bool) (n b : ℕ) → b < n → test (7 + b) ≡ true → ((k : ℕ) → k < b → test (7 + k) ≡ false) → find test (from_seven n) ≡ Some (7 + b)
unfolding from_seven
first_passes test zero b l passes fails = absurd (omega arith)
first_passes test (suc n) b l passes fails = elim (cases_lt b n) [
  | inl below ↦ ap (find test) (map-append (λ k. 7 + k) (up_to n) (n ∷ [])) ∙ find_left test (from_seven n) ((7 + n) ∷ []) (7 + b) (first_passes test n b below passes fails)
  | inr above ↦
      let same : n ≡ b = omega arith in
      ap (find test) (map-append (λ k. 7 + k) (up_to n) (n ∷ [])) ∙ find_right test (from_seven n) ((7 + n) ∷ []) (none_passes test n (λ k l. fails k (omega arith)))
      ∙ ap (λ m. find test ((7 + m) ∷ [])) same ∙ rw passes refl
]

fails_below : (ps : List PointValue) (cube : CubeValue) (k : ℕ) → IsFittedCube ps cube → k + 7 < cube.bits → (t : Bool) → all_span_below ps (7 + k) ≡ t → t ≡ false
fails_below ps cube k h l true e = let enough : cube.bits ≤ 7 + k = h.least (7 + k) (omega arith) (below_passed ps (7 + k) e) in absurd (omega arith)
fails_below ps cube k h l false e = refl

bits_found : (ps : List PointValue) (cube : CubeValue) → cube.bits ≤ 31 → IsFittedCube ps cube → fitted_bits ps ≡ Some (7 + (cube.bits - 7))
unfolding fitted_bits from_seven
bits_found ps cube high h =
    let same : 7 + (cube.bits - 7) ≡ cube.bits = omega (arith, h.from_seven) in
    first_passes (all_span_below ps) 25 (cube.bits - 7) (omega (arith, h.from_seven)) (ap (all_span_below ps) same ∙ passes_below ps cube.bits h.fits)
    (λ k l. fails_below ps cube k h (omega (arith, h.from_seven)) (all_span_below ps (7 + k)) refl)

rounded : (ps : List PointValue) (cube : CubeValue) → IsFittedCube ps cube → cube_round ps cube.bits ≡ cube
rounded ps cube h = λ i. record { ox = sym h.ox i; oy = sym h.oy i; oz = sym h.oz i; bits = cube.bits }

-- what the code found is the fitted cube
pub is_fitted : (ps : List PointValue) (cube : CubeValue) → cube.bits ≤ 31 → IsFittedCube ps cube → fitted_cube ps ≡ Ok cube
is_fitted ps cube high h =
    let same : 7 + (cube.bits - 7) ≡ cube.bits = omega (arith, h.from_seven) in
    ap (λ (o : Option Span). option_map_or (λ (span : Span). Err span) o (Ok (cube_round ps (unwrap_or (fitted_bits ps) 31)))) h.narrow
    ∙ ap (λ (o : Option ℕ). Ok (cube_round ps (unwrap_or o 31))) (bits_found ps cube high h)
    ∙ ap (λ (b : ℕ). Ok (cube_round ps b)) same ∙ ap Ok (rounded ps cube h)
