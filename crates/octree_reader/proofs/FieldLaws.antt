-- Numbers and points are read back from their bytes.
use Rattle.std.proofs.Common.{◌≡◌, ℕ, ◌^◌, ◌<◌, ℤ, pos, negsuc, Bool, true, false, not, nat_eq, List, [], ◌∷◌, ◌++◌, ◌+◌, length, take, drop, get_or, ap, ◌∙◌, sym, subst, refl, Option, Some, None, w32, arith, ◌≤◌, ◌-◌}
use Rattle.std.proofs.lemmas.List.{take_all, take_more, length-drop}
use Rattle.std.proofs.lemmas.List.Elements.{All-append, All-cons, All-nil}
use Rattle.std.specs.List.{All}
use Rattle.std.specs.Option.{IsSome, IsSomeAnd}
use Rattle.std.specs.Int.{cast_signed, cast_unsigned}
use Rattle.std.proofs.lemmas.Int.{to_z-of_z}
use Rattle.std.proofs.lemmas.Bool.Decides.{Decides-eqb}
use Rattle.std.proofs.lemmas.Slice.Eq.{starts_is}
use Rattle.std.specs.Cmp.Lexicographic.{pointwise}
use Rattle.byteorder.specs.Endian.{little_from}
use Rattle.byteorder.specs.Numbers.{little_number-reads_back}
use Rattle.cube_math.specs.Points.{PointValue}
use Rattle.cube_math.specs.Cubes.{CubeValue, FitsSpace}
use Rattle.octree_file.specs.Files.{signature}
use Rattle.octree_file.specs.Order.{IsCoordinate, IsPoint}
use Rattle.octree_file.specs.Spelling.{i32_bytes, point_bytes, u32_bytes}
use Rattle.octree_reader.specs.Heads.{HasHead, HasSignature, head_cube, i32_at, u32_at}

pub number_back : (n : ℕ) → n < 2 ^ 32 → little_from 0 4 (u32_bytes n ++ []) ≡ n
number_back n h = little_number-reads_back 4 n [] h

unsigned_below : (x : ℤ) → IsCoordinate x → cast_unsigned w32 x < 2 ^ 32
unsigned_below (pos n) h = let small : n < 2 ^ 31 = h.sfits in omega arith
unsigned_below (negsuc n) h = omega arith

pub whole_back : (x : ℤ) → IsCoordinate x → cast_signed w32 (little_from 0 4 (i32_bytes x ++ [])) ≡ x
whole_back x h = ap (cast_signed w32) (number_back (cast_unsigned w32 x) (unsigned_below x h)) ∙ to_z-of_z w32 x h

pub point_back : (p : PointValue) (bytes rest : List ℕ) (x y z : ℤ) (rgb : ℕ) → IsPoint p → bytes ≡ point_bytes p ++ rest
    → x ≡ i32_at bytes 0 → y ≡ i32_at bytes 4 → z ≡ i32_at bytes 8 → rgb ≡ u32_at bytes 12 → p ≡ record { x = x; y = y; z = z; rgb = rgb }
point_back p bytes rest x y z rgb is e ex ey ez ec =
    let sx : p.x ≡ x = sym (ex ∙ ap (λ (b : List ℕ). i32_at b 0) e ∙ whole_back p.x is.x) in
    let sy : p.y ≡ y = sym (ey ∙ ap (λ (b : List ℕ). i32_at b 4) e ∙ whole_back p.y is.y) in
    let sz : p.z ≡ z = sym (ez ∙ ap (λ (b : List ℕ). i32_at b 8) e ∙ whole_back p.z is.z) in
    let sc : p.rgb ≡ rgb = sym (ec ∙ ap (λ (b : List ℕ). u32_at b 12) e ∙ number_back p.rgb (below p.rgb is.rgb)) in
    λ i. record { x = sx i; y = sy i; z = sz i; rgb = sc i }
  where
    below : (n : ℕ) → n < 2 ^ 24 → n < 2 ^ 32
    below n h = omega arith

-- the bytes from a place on
pub from_place : (bytes : List ℕ) (place : ℕ) → take (length bytes - place) (drop place bytes) ≡ drop place bytes
from_place bytes place = take_all (length bytes - place) (drop place bytes) (omega (arith, length-drop place bytes))

-- ---- heads
pub begins : (bytes : List ℕ) (r : Bool) → r ≡ pointwise nat_eq signature (take 5 bytes) → r ≡ true → HasSignature bytes
begins bytes r value is = ap (take 5) ((starts_is Decides-eqb bytes signature r value).0 is)

pub named_cube : (bytes : List ℕ) (x y z : ℤ) (b : ℕ) → x ≡ i32_at bytes 5 → y ≡ i32_at bytes 9 → z ≡ i32_at bytes 13 → b ≡ get_or bytes 17 0
    → record { ox = x; oy = y; oz = z; bits = b } ≡ head_cube bytes
named_cube bytes x y z b ex ey ez eb = λ i. record { ox = ex i; oy = ey i; oz = ez i; bits = eb i }

abbrev pub Fits : CubeValue → Type 0
Fits c = FitsSpace c.ox c.oy c.oz c.bits

pub fits_named : (bytes : List ℕ) (c : CubeValue) → c ≡ head_cube bytes → Fits c → Fits (head_cube bytes)
fits_named bytes c is h = subst Fits is h

pub fits_back : (bytes : List ℕ) (c : CubeValue) → c ≡ head_cube bytes → HasHead bytes → Fits c
fits_back bytes c is h = subst Fits (sym is) h.fits

-- ---- options
pub no_some : {T : Type 0} (o : Option T) → o ≡ None → IsSome o → ⊥
no_some None e h = cc
no_some (Some x) e h = cc

pub is_some_by : {T : Type 0} (o : Option T) (x : T) → o ≡ Some x → IsSome o
is_some_by None x e = cc
is_some_by (Some y) x e = refl

pub none_told : {T : Type 0} (o : Option T) (P : T → Type 0) → o ≡ None → IsSomeAnd o P → ⊥
none_told None P e h = h
none_told (Some x) P e h = cc

pub some_told : {T : Type 0} (o : Option T) (x : T) (P : T → Type 0) → o ≡ Some x → IsSomeAnd o P → P x
some_told {T} o x P e h = let told : IsSomeAnd (Some x) P = subst (λ (v : Option T). IsSomeAnd v P) e h in told

-- ---- lists
-- what holds of the first elements of a list, and of the next, holds of one element more
pub one_more : {X : Type 0} (P : X → Type 0) (xs : List X) (i : ℕ) (x : X) → i < length xs → x ≡ get_or xs i x
    → All P (take i xs) → P x → All P (take (i + 1) xs)
one_more {X} P xs i x l is before here =
    let next : take (i + 1) xs ≡ take i xs ++ x ∷ [] = take_more xs i x l ∙ ap (λ (y : X). take i xs ++ y ∷ []) (sym is) in
    subst (All P) (sym next) (All-append P (take i xs) (x ∷ []) before (All-cons P x [] here (All-nil P)))
