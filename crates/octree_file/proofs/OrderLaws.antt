-- The order of points: a list of points has one list in order, whatever order they come in.
use Rattle.std.proofs.Common.{◌≡◌, ℕ, suc, ◌+◌, ◌*◌, ◌%◌, ◌^◌, ◌<◌, ◌≤◌, inl, inr, Bool, true, false, cond, List, [], ◌∷◌, ap, ◌∙◌, sym, refl, arith, nat_eq, count_by, ℤ, pos, negsuc, ◌≤ℤ◌, ◌<ℤ◌, ◌+ℤ◌, length, get_or, subst}
use Rattle.std.specs.List.{All, AllByRecursion}
use Rattle.std.specs.List.Sorted.{IsNonDecreasingBy}
use Rattle.std.proofs.lemmas.Bool.{cases_lt, lt-ltb, le-ltb, eq-eqb, ne_eqb}
use Rattle.std.proofs.lemmas.Int.{ints}
use Rattle.std.proofs.lemmas.List.Elements.{All-from_recursion, recursion_from_All}
use Rattle.std.proofs.lemmas.List.Sums.{sum_by-cons}
use Rattle.cube_math.specs.Points.{PointValue}
use Rattle.cube_math.proofs.Halves.{distance_is}
use Rattle.octree_model.specs.Bags.{IsSameBag}
use Rattle.octree_file.specs.Order.{IsCoordinate, IsPoint, above_lowest, order_key, with_point, in_order}

-- ---- the key of a point
-- two numbers with a last digit give their parts back
digit_of_24 : (a b r s : ℕ) → r < 2 ^ 24 → s < 2 ^ 24 → a * 2 ^ 24 + r ≡ b * 2 ^ 24 + s → (a ≡ b) × (r ≡ s)
digit_of_24 a b r s low high e = let same : a ≡ b = omega arith in (same, omega arith)

digit_of_32 : (a b r s : ℕ) → r < 2 ^ 32 → s < 2 ^ 32 → a * 2 ^ 32 + r ≡ b * 2 ^ 32 + s → (a ≡ b) × (r ≡ s)
digit_of_32 a b r s low high e = let same : a ≡ b = omega arith in (same, omega arith)

coordinate_low : (x : ℤ) → IsCoordinate x → negsuc 2147483647 ≤ℤ x
coordinate_low (pos n) h = grind (arith, ints)
coordinate_low (negsuc n) h = let small : n < 2 ^ 31 = h.sfits in grind (arith, ints)

coordinate_high : (x : ℤ) → IsCoordinate x → x <ℤ pos (2 ^ 31)
coordinate_high (pos n) h = let small : n < 2 ^ 31 = h.sfits in grind (arith, ints)
coordinate_high (negsuc n) h = grind (arith, ints)

pub above_below : (x : ℤ) → IsCoordinate x → above_lowest x < 2 ^ 32
above_below x h =
    let low : negsuc 2147483647 ≤ℤ x = coordinate_low x h in
    let high : x <ℤ pos (2 ^ 31) = coordinate_high x h in
    let at : x ≡ negsuc 2147483647 +ℤ pos (above_lowest x) = distance_is (negsuc 2147483647) x low in
    omega (arith, ints)

same_coordinate : (x y : ℤ) → IsCoordinate x → IsCoordinate y → above_lowest x ≡ above_lowest y → x ≡ y
same_coordinate x y hx hy e =
    distance_is (negsuc 2147483647) x (coordinate_low x hx) ∙ ap (λ d. negsuc 2147483647 +ℤ pos d) e
    ∙ sym (distance_is (negsuc 2147483647) y (coordinate_low y hy))

-- a point has a key of its own
pub same_key : (p q : PointValue) → IsPoint p → IsPoint q → order_key p ≡ order_key q → p ≡ q
unfolding order_key
same_key p q hp hq e =
    let last = digit_of_24 _ _ p.rgb q.rgb hp.rgb hq.rgb e in
    let third = digit_of_32 _ _ (above_lowest p.z) (above_lowest q.z) (above_below p.z hp.z) (above_below q.z hq.z) last.0 in
    let second = digit_of_32 _ _ (above_lowest p.y) (above_lowest q.y) (above_below p.y hp.y) (above_below q.y hq.y) third.0 in
    let x : p.x ≡ q.x = same_coordinate p.x q.x hp.x hq.x second.0 in
    let y : p.y ≡ q.y = same_coordinate p.y q.y hp.y hq.y second.1 in
    let z : p.z ≡ q.z = same_coordinate p.z q.z hp.z hq.z third.1 in
    λ i. record { x = x i; y = y i; z = z i; rgb = last.1 i }

-- ---- lists in order
-- no point of a list has a key below n
abbrev pub AllFrom : ℕ → List PointValue → Type 0
AllFrom n [] = Unit {0}
AllFrom n (p ∷ ps) = (n ≤ order_key p) × AllFrom n ps

-- no point has a key below that of an earlier one
abbrev pub InOrder : List PointValue → Type 0
InOrder [] = Unit {0}
InOrder (p ∷ ps) = AllFrom (order_key p) ps × InOrder ps

lower_from : (m n : ℕ) (ps : List PointValue) → m ≤ n → AllFrom n ps → AllFrom m ps
lower_from m n [] l h = tt
lower_from m n (p ∷ ps) l h = (omega (arith, h.0), lower_from m n ps l h.1)

-- a point more stands before the first that is not below it
put_behind : (p q : PointValue) (qs : List PointValue) → order_key q < order_key p → with_point p (q ∷ qs) ≡ q ∷ with_point p qs
put_behind p q qs l = rw (lt-ltb _ _ l) refl

put_before : (p q : PointValue) (qs : List PointValue) → order_key p ≤ order_key q → with_point p (q ∷ qs) ≡ p ∷ q ∷ qs
put_before p q qs l = rw (le-ltb _ _ l) refl

from_with : (n : ℕ) (p : PointValue) (qs : List PointValue) → n ≤ order_key p → AllFrom n qs → AllFrom n (with_point p qs)
from_with n p [] l h = (l, tt)
from_with n p (q ∷ qs) l h = elim (cases_lt (order_key q) (order_key p)) [
  | inl behind ↦ subst (AllFrom n) (sym (put_behind p q qs behind)) (h.0, from_with n p qs l h.1)
  | inr before ↦ subst (AllFrom n) (sym (put_before p q qs before)) (l, h)
]

order_with : (p : PointValue) (qs : List PointValue) → InOrder qs → InOrder (with_point p qs)
order_with p [] h = (tt, tt)
order_with p (q ∷ qs) h = elim (cases_lt (order_key q) (order_key p)) [
  | inl behind ↦ subst InOrder (sym (put_behind p q qs behind)) (from_with (order_key q) p qs (omega arith) h.0, order_with p qs h.1)
  | inr before ↦ subst InOrder (sym (put_before p q qs before)) ((before, lower_from (order_key p) (order_key q) qs before h.0), h)
]

pub is_in_order : (ps : List PointValue) → InOrder (in_order ps)
is_in_order [] = tt
is_in_order (p ∷ ps) = order_with p (in_order ps) (is_in_order ps)

-- a list in order stays as it is
first_with : (p : PointValue) (qs : List PointValue) → AllFrom (order_key p) qs → with_point p qs ≡ p ∷ qs
first_with p [] h = refl
first_with p (q ∷ qs) h = put_before p q qs h.0

pub order_stays : (ps : List PointValue) → InOrder ps → in_order ps ≡ ps
order_stays [] h = refl
order_stays (p ∷ ps) h = ap (with_point p) (order_stays ps h.1) ∙ first_with p ps h.0

all_from : (n : ℕ) (ps : List PointValue) → ((j : ℕ) (d : PointValue) → j < length ps → n ≤ order_key (get_or ps j d)) → AllFrom n ps
all_from n [] h = tt
all_from n (p ∷ ps) h = (h 0 p (omega arith), all_from n ps (λ j d l. h (suc j) d (omega arith)))

-- a list whose keys do not fall is in order
pub order_from_rising : (ps : List PointValue) → IsNonDecreasingBy order_key ps → InOrder ps
order_from_rising [] h = tt
order_from_rising (p ∷ ps) h =
    let rest : IsNonDecreasingBy order_key ps = λ i j d le lt. h (suc i) (suc j) d (omega arith) (omega arith) in
    (all_from (order_key p) ps (λ j d l. h 0 (suc j) d (omega arith) (omega arith)), order_from_rising ps rest)

-- ---- the points of a list in order are those of the list
pub count_first : (t : PointValue → Bool) (p : PointValue) (ps : List PointValue) → count_by t (p ∷ ps) ≡ cond (t p) 1 0 + count_by t ps
count_first t p ps = omega (arith, sum_by-cons (λ x. cond (t x) 1 0) p ps)

count_with : (t : PointValue → Bool) (p : PointValue) (qs : List PointValue) → count_by t (with_point p qs) ≡ cond (t p) 1 0 + count_by t qs
count_with t p [] = count_first t p []
count_with t p (q ∷ qs) = elim (cases_lt (order_key q) (order_key p)) [
  | inl behind ↦ omega (arith, ap (count_by t) (put_behind p q qs behind), count_first t q (with_point p qs), count_with t p qs, count_first t q qs)
  | inr before ↦ ap (count_by t) (put_before p q qs before) ∙ count_first t p (q ∷ qs)
]

pub order_keeps : (ps : List PointValue) → IsSameBag ps (in_order ps)
order_keeps [] t = refl
order_keeps (p ∷ ps) t = omega (arith, count_first t p ps, count_with t p (in_order ps), order_keeps ps t)

each_with : (P : PointValue → Type 0) (p : PointValue) (qs : List PointValue) → P p → AllByRecursion P qs → AllByRecursion P (with_point p qs)
each_with P p [] h hs = (h, hs)
each_with P p (q ∷ qs) h hs = elim (cases_lt (order_key q) (order_key p)) [
  | inl behind ↦ subst (AllByRecursion P) (sym (put_behind p q qs behind)) (hs.0, each_with P p qs h hs.1)
  | inr before ↦ subst (AllByRecursion P) (sym (put_before p q qs before)) (h, hs)
]

-- what holds of each point of a list holds of each in order
pub each_in_order : (P : PointValue → Type 0) (ps : List PointValue) → AllByRecursion P ps → AllByRecursion P (in_order ps)
each_in_order P [] h = h
each_in_order P (p ∷ ps) h = each_with P p (in_order ps) h.0 (each_in_order P ps h.1)

pub points_in_order : (ps : List PointValue) → AllByRecursion IsPoint ps → AllByRecursion IsPoint (in_order ps)
points_in_order ps h = each_in_order IsPoint ps h

-- ---- lists in order with the same points are equal
has_key : ℕ → PointValue → Bool
has_key n p = nat_eq (order_key p) n

none_below : (m n : ℕ) (ps : List PointValue) → m < n → AllFrom n ps → count_by (has_key m) ps ≡ 0
unfolding has_key
none_below m n [] l h = refl
none_below m n (p ∷ ps) l h =
    let other : nat_eq (order_key p) m ≡ false = ne_eqb _ _ (λ e. absurd (omega (arith, h.0))) in
    omega (arith, count_first (has_key m) p ps, ap {B = ℕ} (λ b. cond b 1 0) other, none_below m n ps l h.1)

-- the first point of a list is there
one_there : (p : PointValue) (ps : List PointValue) → 0 < count_by (has_key (order_key p)) (p ∷ ps)
unfolding has_key
one_there p ps = omega (arith, count_first (has_key (order_key p)) p ps, ap {B = ℕ} (λ b. cond b 1 0) (eq-eqb (order_key p) (order_key p) refl))

-- no list in order begins below one with the same points
not_below : (p q : PointValue) (ps qs : List PointValue) → InOrder (q ∷ qs) → IsSameBag (p ∷ ps) (q ∷ qs) → order_key q ≤ order_key p
not_below p q ps qs h same = elim (cases_lt (order_key p) (order_key q)) [
  | inl below ↦
      let all : AllFrom (order_key q) (q ∷ qs) = (omega arith, h.0) in
      absurd (omega (arith, one_there p ps, same (has_key (order_key p)), none_below (order_key p) (order_key q) (q ∷ qs) below all))
  | inr above ↦ above
]

pub one_order : (ps qs : List PointValue) → InOrder ps → InOrder qs → AllByRecursion IsPoint ps → AllByRecursion IsPoint qs → IsSameBag ps qs → ps ≡ qs
one_order [] [] hp hq ip iq same = refl
one_order [] (q ∷ qs) hp hq ip iq same = absurd (omega (arith, same (λ (x : PointValue). true), count_first (λ (x : PointValue). true) q qs))
one_order (p ∷ ps) [] hp hq ip iq same = absurd (omega (arith, same (λ (x : PointValue). true), count_first (λ (x : PointValue). true) p ps))
one_order (p ∷ ps) (q ∷ qs) hp hq ip iq same =
    let above : order_key q ≤ order_key p = not_below p q ps qs hq same in
    let below : order_key p ≤ order_key q = not_below q p qs ps hp (λ t. sym (same t)) in
    let key : order_key p ≡ order_key q = omega arith in
    let first : p ≡ q = same_key p q ip.0 iq.0 key in
    let rest : IsSameBag ps qs = λ t. omega (arith, same t, count_first t p ps, count_first t q qs, ap {B = ℕ} (λ (x : PointValue). cond (t x) 1 0) first) in
    λ i. first i ∷ one_order ps qs hp.1 hq.1 ip.1 iq.1 rest i

-- lists with the same points have one list in order
pub same_in_order : (ps qs : List PointValue) → All IsPoint ps → All IsPoint qs → IsSameBag ps qs → in_order ps ≡ in_order qs
same_in_order ps qs hp hq same =
    one_order (in_order ps) (in_order qs) (is_in_order ps) (is_in_order qs)
    (points_in_order ps (recursion_from_All IsPoint ps hp)) (points_in_order qs (recursion_from_All IsPoint qs hq))
    (λ t. sym (order_keeps ps t) ∙ same t ∙ order_keeps qs t)

-- a list in order with the same points is that list
pub order_is : (ps sorted : List PointValue) → All IsPoint ps → All IsPoint sorted → InOrder sorted → IsSameBag ps sorted → sorted ≡ in_order ps
order_is ps sorted hp hs order same = sym (order_stays sorted order) ∙ same_in_order sorted ps hs hp (λ t. sym (same t))

-- the code's parts make the key
pub key_of_parts : (p : PointValue) (a b d e : ℕ) → a < 2 ^ 32 → b < 2 ^ 32 → d < 2 ^ 32 → a ≡ above_lowest p.x → b ≡ above_lowest p.y
    → d ≡ above_lowest p.z → e ≡ p.rgb
    → ((a * 2 ^ 32 % 2 ^ 128 + b) * 2 ^ 32 % 2 ^ 128 + d) * 2 ^ 24 % 2 ^ 128 + e ≡ order_key p
unfolding order_key
key_of_parts p a b d e la lb ld ea eb ed ee =
    let first : a * 2 ^ 32 % 2 ^ 128 ≡ a * 2 ^ 32 = omega arith in
    let second : (a * 2 ^ 32 % 2 ^ 128 + b) * 2 ^ 32 % 2 ^ 128 ≡ (a * 2 ^ 32 + b) * 2 ^ 32 = omega arith in
    let third : ((a * 2 ^ 32 % 2 ^ 128 + b) * 2 ^ 32 % 2 ^ 128 + d) * 2 ^ 24 % 2 ^ 128 ≡ ((a * 2 ^ 32 + b) * 2 ^ 32 + d) * 2 ^ 24 = omega arith in
    omega arith
