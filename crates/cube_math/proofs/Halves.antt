use Rattle.std.proofs.Common.{◌≡◌, ℕ, ◌+◌, ◌-◌, ◌*◌, ◌/◌, ◌%◌, ◌^◌, ◌<◌, ◌≤◌, Bool, true, false, ◌&&◌, ℤ, pos, ◌+ℤ◌, ◌≤ℤ◌, ◌<ℤ◌, arith, sym, ap, ◌∙◌, nat_eq, refl, int_le, int_lt}
use Rattle.std.proofs.lemmas.Bool.{and_parts, and_from, eq-eqb, eqb-true}
use Rattle.std.proofs.lemmas.Int.{ints}
use Rattle.std.proofs.lemmas.Nat.{div_below, le-div, div-add-mod', mod_below, mul-le, pow_pos}
use Rattle.cube_math.specs.Points.{PointValue}
use Rattle.cube_math.proofs.Axes.{twice}
use Rattle.cube_math.specs.Cubes.{CubeValue, on_axis, contains, child, octant, octant_bit, distance}

same_tests : (a b : Bool) → (a ≡ true → b ≡ true) → (b ≡ true → a ≡ true) → a ≡ b
same_tests true true f g = refl
same_tests false false f g = refl
same_tests true false f g = sym (f refl)
same_tests false true f g = g refl

-- a place of an axis that is not below its origin
pub distance_is : (o x : ℤ) → o ≤ℤ x → x ≡ o +ℤ pos (distance o x)
distance_is o x h = grind (arith, ints)

-- the tests as facts
pub le_from : (a b : ℤ) → int_le a b ≡ true → a ≤ℤ b
le_from a b h = grind (arith, ints)

pub lt_from : (a b : ℤ) → int_lt a b ≡ true → a <ℤ b
lt_from a b h = grind (arith, ints)

le_to : (a b : ℤ) → a ≤ℤ b → int_le a b ≡ true
le_to a b h = grind (arith, ints)

lt_to : (a b : ℤ) → a <ℤ b → int_lt a b ≡ true
lt_to a b h = grind (arith, ints)

-- a quotient by its bounds
quotient_bounds : (d h q : ℕ) → 0 < h → d / h ≡ q → (q * h ≤ d) × (d < q * h + h)
quotient_bounds d h q l e =
    let whole : q * h + d % h ≡ d = ap (λ n. n * h + d % h) (sym e) ∙ div-add-mod' d h in
    let rest : d % h < h = mod_below d h l in
    (omega arith, omega arith)

quotient_is : (d h q : ℕ) → 0 < h → q * h ≤ d → d < q * h + h → d / h ≡ q
quotient_is d h q l low high =
    let above : q ≤ d / h = le-div q d h l low in
    let more : d < (q + 1) * h = omega arith in
    let below : d / h < q + 1 = div_below d h (q + 1) l more in
    omega arith

-- a half of an axis has the places of that bit
pub half_axis : (o x : ℤ) (h b : ℕ) → 0 < h → b < 2
    → (int_le (o +ℤ pos (b * h)) x && int_lt x ((o +ℤ pos (b * h)) +ℤ pos h)) ≡ ((int_le o x && int_lt x (o +ℤ pos (h + h))) && nat_eq (distance o x / h) b)
half_axis o x h b pos_h l =
    let small : b * h ≤ h = grind (arith, mul-le) in
    same_tests _ _
    (λ e.
    let low : (o +ℤ pos (b * h)) ≤ℤ x = le_from _ _ (and_parts _ _ e).0 in
    let high : x <ℤ ((o +ℤ pos (b * h)) +ℤ pos h) = lt_from _ _ (and_parts _ _ e).1 in
    let first : o ≤ℤ x = omega (arith, ints) in
    let last : x <ℤ (o +ℤ pos (h + h)) = omega (arith, ints) in
    let at : x ≡ o +ℤ pos (distance o x) = distance_is o x first in
    let lo : b * h ≤ distance o x = omega (arith, ints) in
    let hi : distance o x < b * h + h = omega (arith, ints) in
    and_from _ _ (and_from _ _ (le_to _ _ first) (lt_to _ _ last)) (eq-eqb _ _ (quotient_is _ h b pos_h lo hi)))
    (λ e.
    let parts : (int_le o x && int_lt x (o +ℤ pos (h + h))) ≡ true = (and_parts _ _ e).0 in
    let first : o ≤ℤ x = le_from _ _ (and_parts _ _ parts).0 in
    let at : x ≡ o +ℤ pos (distance o x) = distance_is o x first in
    let q : (b * h ≤ distance o x) × (distance o x < b * h + h) = quotient_bounds (distance o x) h b pos_h (eqb-true _ _ (and_parts _ _ e).1) in
    let low : (o +ℤ pos (b * h)) ≤ℤ x = omega (arith, ints) in
    let high : x <ℤ ((o +ℤ pos (b * h)) +ℤ pos h) = omega (arith, ints) in
    and_from _ _ (le_to _ _ low) (lt_to _ _ high))

-- a child has the points of its cube that lie in its octant
pub record IsOctant (g : ℕ) (x y z : ℕ) : Type 0 where
  pub at_x : x ≡ g % 2
  pub at_y : y ≡ g / 2 % 2
  pub at_z : z ≡ g / 4

-- three bits make one octant
pub octant_of : (g x y z : ℕ) → g < 8 → x < 2 → y < 2 → z < 2 → x + 2 * y + 4 * z ≡ g → IsOctant g x y z
octant_of g x y z l p q r e = record { at_x = omega arith; at_y = omega arith; at_z = omega arith }

-- one axis of a child
child_axis : (o x : ℤ) (s b : ℕ) → 0 < s → b < 2 → on_axis (o +ℤ pos (b * 2 ^ (s - 1))) (s - 1) x ≡ (on_axis o s x && nat_eq (octant_bit o s x) b)
child_axis o x s b l k =
    half_axis o x (2 ^ (s - 1)) b (pow_pos (s - 1)) k ∙ ap (λ n. (int_le o x && int_lt x (o +ℤ pos n)) && nat_eq (octant_bit o s x) b) (sym (twice s l))

-- a bit is 0 or 1
bit_below : (o x : ℤ) (s : ℕ) → 0 < s → on_axis o s x ≡ true → octant_bit o s x < 2
bit_below o x s l e =
    let first : o ≤ℤ x = le_from _ _ (and_parts _ _ e).0 in
    let last : x <ℤ (o +ℤ pos (2 ^ s)) = lt_from _ _ (and_parts _ _ e).1 in
    let at : x ≡ o +ℤ pos (distance o x) = distance_is o x first in
    let t : 2 ^ s ≡ 2 ^ (s - 1) + 2 ^ (s - 1) = twice s l in
    let d : distance o x < 2 * 2 ^ (s - 1) = omega (arith, ints) in
    div_below (distance o x) (2 ^ (s - 1)) 2 (pow_pos (s - 1)) d

record Six (la lb lc lx ly lz : Bool) : Type 0 where
  a : la ≡ true
  b : lb ≡ true
  c : lc ≡ true
  x : lx ≡ true
  y : ly ≡ true
  z : lz ≡ true

six : (a b c x y z : Bool) → ((a && x) && (b && y) && (c && z)) ≡ true → Six a b c x y z
six a b c x y z e =
    let f : ((a && x) && (b && y)) ≡ true = (and_parts _ _ e).0 in
    let g : (a ≡ true) × (x ≡ true) = and_parts _ _ (and_parts _ _ f).0 in
    let h : (b ≡ true) × (y ≡ true) = and_parts _ _ (and_parts _ _ f).1 in
    let k : (c ≡ true) × (z ≡ true) = and_parts _ _ (and_parts _ _ e).1 in
    record { a = g.0; b = h.0; c = k.0; x = g.1; y = h.1; z = k.1 }

-- a child has the points of its cube that lie in its octant
pub child_has : (c : CubeValue) (p : PointValue) (g : ℕ) → 0 < c.bits → g < 8 → contains (child c g) p ≡ (contains c p && nat_eq (octant c p) g)
child_has c p g l k =
    let bx : ℕ = octant_bit c.ox c.bits p.x in
    let by : ℕ = octant_bit c.oy c.bits p.y in
    let bz : ℕ = octant_bit c.oz c.bits p.z in
    let two : g % 2 < 2 = omega arith in
    let two' : g / 2 % 2 < 2 = omega arith in
    let four : g / 4 < 2 = omega arith in
    let X : contains (child c g) p ≡ ((on_axis c.ox c.bits p.x && nat_eq bx (g % 2)) && (on_axis c.oy c.bits p.y && nat_eq by (g / 2 % 2)) && (on_axis c.oz c.bits p.z && nat_eq bz (g / 4))) =
    rw (child_axis c.ox p.x c.bits (g % 2) l two, child_axis c.oy p.y c.bits (g / 2 % 2) l two', child_axis c.oz p.z c.bits (g / 4) l four) refl in
    X ∙ same_tests _ _
    (λ e.
    let h : Six (on_axis c.ox c.bits p.x) (on_axis c.oy c.bits p.y) (on_axis c.oz c.bits p.z) (nat_eq bx (g % 2)) (nat_eq by (g / 2 % 2)) (nat_eq bz (g / 4)) = six _ _ _ _ _ _ e in
    let ex : bx ≡ g % 2 = eqb-true _ _ h.x in
    let ey : by ≡ g / 2 % 2 = eqb-true _ _ h.y in
    let ez : bz ≡ g / 4 = eqb-true _ _ h.z in
    let whole : bx + 2 * by + 4 * bz ≡ g = omega arith in
    and_from _ _ (and_from _ _ (and_from _ _ h.a h.b) h.c) (eq-eqb _ _ whole))
    (λ e.
    let f : contains c p ≡ true = (and_parts _ _ e).0 in
    let whole : bx + 2 * by + 4 * bz ≡ g = eqb-true _ _ (and_parts _ _ e).1 in
    let hx : on_axis c.ox c.bits p.x ≡ true = (and_parts _ _ (and_parts _ _ f).0).0 in
    let hy : on_axis c.oy c.bits p.y ≡ true = (and_parts _ _ (and_parts _ _ f).0).1 in
    let hz : on_axis c.oz c.bits p.z ≡ true = (and_parts _ _ f).1 in
    let o : IsOctant g bx by bz = octant_of g bx by bz k (bit_below c.ox p.x c.bits l hx) (bit_below c.oy p.y c.bits l hy) (bit_below c.oz p.z c.bits l hz) whole in
    and_from _ _ (and_from _ _ (and_from _ _ hx (eq-eqb _ _ o.at_x)) (and_from _ _ hy (eq-eqb _ _ o.at_y))) (and_from _ _ hz (eq-eqb _ _ o.at_z)))

-- a point of a cube has an octant
pub octant_below : (c : CubeValue) (p : PointValue) → 0 < c.bits → contains c p ≡ true → octant c p < 8
octant_below c p l f =
    let hx : on_axis c.ox c.bits p.x ≡ true = (and_parts _ _ (and_parts _ _ f).0).0 in
    let hy : on_axis c.oy c.bits p.y ≡ true = (and_parts _ _ (and_parts _ _ f).0).1 in
    let hz : on_axis c.oz c.bits p.z ≡ true = (and_parts _ _ f).1 in
    omega (arith, bit_below c.ox p.x c.bits l hx, bit_below c.oy p.y c.bits l hy, bit_below c.oz p.z c.bits l hz)
