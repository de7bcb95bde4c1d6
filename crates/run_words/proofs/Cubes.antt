-- The cube of a value.
use Rattle.std.proofs.Common.{◌≡◌, ℕ, ◌≤◌, ◌^◌, ◌&&◌, Bool, true, false, List, ap, ◌∙◌, sym, refl, arith, ◌==◌, length}
use Rattle.std.proofs.lemmas.Int.{ints}
use lib.Dec.{T}
use Rattle.std.specs.Prelude.{ℤ, pos, ◌+ℤ◌, ◌≤ℤ◌, int_le, Option, Some, None, IsSome, IfSome, ◌↔◌, if◌then◌else◌}
use Rattle.cube_math.specs.Cubes.{CubeValue, FitsSpace}
use Rattle.run_words.specs.Numbers.{natural, whole, pieces, piece}
use Rattle.run_words.specs.Forms.{is_coordinate, is_bits, is_cube}
use Rattle.run_words.specs.Values.{cube_of}
use Rattle.run_words.proofs.Numerals.{chosen, not_chosen}

abbrev pub ends : ℤ → ℕ → Bool
ends o bits = int_le (o +ℤ pos (2 ^ bits)) (pos (2 ^ 31))

abbrev pub place : ℤ → ℤ → ℤ → ℕ → CubeValue
place x y z bits = record { ox = x; oy = y; oz = z; bits = bits }

true_of : (b c : Bool) → T b → b ≡ c → c ≡ true
true_of true c holds is = sym is
true_of false c holds is = absurd holds

at_most : (a b : ℤ) → int_le a b ≡ true → a ≤ℤ b
at_most a b test = grind (arith, ints)

-- what `Cube::new` answers
pub new_cube : (r : Option CubeValue) (x y z : ℤ) (bits : ℕ) → (IsSome r ↔ FitsSpace x y z bits) → IfSome r (λ c. c ≡ place x y z bits) → 7 ≤ bits → bits ≤ 31
    → r ≡ (if ends x bits && ends y bits && ends z bits then Some (place x y z bits) else None)
new_cube r x y z bits fits is low high = go r (ends x bits) (ends y bits) (ends z bits) fits is refl refl refl
  where
    go : (r : Option CubeValue) (a b c : Bool) → (IsSome r ↔ FitsSpace x y z bits) → IfSome r (λ c. c ≡ place x y z bits)
        → ends x bits ≡ a → ends y bits ≡ b → ends z bits ≡ c → r ≡ (if a && b && c then Some (place x y z bits) else None)
    go (Some v) true true true fits is ea eb ec = ap (λ c. Some c) is
    go (Some v) false b c fits is ea eb ec = let f : FitsSpace x y z bits = fits.0 refl in let e : false ≡ true = true_of (ends x bits) false f.x_end.le ea in cc
    go (Some v) true false c fits is ea eb ec = let f : FitsSpace x y z bits = fits.0 refl in let e : false ≡ true = true_of (ends y bits) false f.y_end.le eb in cc
    go (Some v) true true false fits is ea eb ec = let f : FitsSpace x y z bits = fits.0 refl in let e : false ≡ true = true_of (ends z bits) false f.z_end.le ec in cc
    go None true true true fits is ea eb ec = let e : false ≡ true = fits.1 (record { bits_low = low; bits_high = high; x_end = at_most _ _ ea; y_end = at_most _ _ eb; z_end = at_most _ _ ec }) in cc
    go None false b c fits is ea eb ec = refl
    go None true false c fits is ea eb ec = refl
    go None true true false fits is ea eb ec = refl

-- a test that fails makes a row of tests fail
and_false : (a b : Bool) → a ≡ false → (a && b) ≡ false
and_false a b fails = rw fails refl

false_and : (a b : Bool) → b ≡ false → (a && b) ≡ false
false_and true b fails = fails
false_and false b fails = refl

no_third : (a x y z b e f g : Bool) → y ≡ false → (a && x && y && z && b && e && f && g) ≡ false
no_third a x y z b e f g fails = and_false _ g (and_false _ f (and_false _ e (and_false _ b (and_false _ z (false_and (a && x) y fails)))))

no_fourth : (a x y z b e f g : Bool) → z ≡ false → (a && x && y && z && b && e && f && g) ≡ false
no_fourth a x y z b e f g fails = and_false _ g (and_false _ f (and_false _ e (and_false _ b (false_and (a && x && y) z fails))))

no_fifth : (a x y z b e f g : Bool) → b ≡ false → (a && x && y && z && b && e && f && g) ≡ false
no_fifth a x y z b e f g fails = and_false _ g (and_false _ f (and_false _ e (false_and (a && x && y && z) b fails)))

all_eight : (a x y z b e f g : Bool) (v : CubeValue) → a ≡ true → x ≡ true → y ≡ true → z ≡ true → b ≡ true
    → (if e && f && g then Some v else None) ≡ (if a && x && y && z && b && e && f && g then Some v else None)
all_eight a x y z b e f g v ha hx hy hz hb = rw (ha, hx, hy, hz, hb) refl

is_four : (n : ℕ) → n ≡ 4 → (n == 4) ≡ true
is_four n is = rw is refl

-- a bad y, z or bits is no cube
pub no_y : (text t : List ℕ) → t ≡ piece text 1 → None ≡ (if is_coordinate t then Some (whole t) else None) → None ≡ (if is_cube text then Some (cube_of text) else None)
no_y text t at none = let fails = not_chosen _ _ (rw at at none) in rw (no_third _ _ _ _ _ _ _ _ fails) refl

pub no_z : (text t : List ℕ) → t ≡ piece text 2 → None ≡ (if is_coordinate t then Some (whole t) else None) → None ≡ (if is_cube text then Some (cube_of text) else None)
no_z text t at none = let fails = not_chosen _ _ (rw at at none) in rw (no_fourth _ _ _ _ _ _ _ _ fails) refl

pub no_bits : (text t : List ℕ) → t ≡ piece text 3 → None ≡ (if is_bits t then Some (natural t) else None) → None ≡ (if is_cube text then Some (cube_of text) else None)
no_bits text t at none = let fails = not_chosen _ _ (rw at at none) in rw (no_fifth _ _ _ _ _ _ _ _ fails) refl

-- four good pieces give what `Cube::new` answers
pub four_pieces : (text tx ty tz tb : List ℕ) (x y z : ℤ) (bits : ℕ) (r : Option CubeValue) → length (pieces text) ≡ 4
    → tx ≡ piece text 0 → Some x ≡ (if is_coordinate tx then Some (whole tx) else None)
    → ty ≡ piece text 1 → Some y ≡ (if is_coordinate ty then Some (whole ty) else None)
    → tz ≡ piece text 2 → Some z ≡ (if is_coordinate tz then Some (whole tz) else None)
    → tb ≡ piece text 3 → Some bits ≡ (if is_bits tb then Some (natural tb) else None)
    → r ≡ (if ends x bits && ends y bits && ends z bits then Some (place x y z bits) else None)
    → r ≡ (if is_cube text then Some (cube_of text) else None)
four_pieces text tx ty tz tb x y z bits r four px hx py hy pz hz pb hb new =
    let ix = chosen _ _ _ (rw px at hx) in
    let iy = chosen _ _ _ (rw py at hy) in
    let iz = chosen _ _ _ (rw pz at hz) in
    let ib = chosen _ _ _ (rw pb at hb) in
    rw (ix.1, iy.1, iz.1, ib.1) at new ∙ all_eight _ _ _ _ _ _ _ _ (cube_of text) (is_four _ four) ix.0 iy.0 iz.0 ib.0
