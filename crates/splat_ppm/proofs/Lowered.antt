-- Lists of keys that are lowered at some places, step by step.
use Rattle.std.proofs.Common.{◌≡◌, ◌≢◌, ℕ, ◌+◌, ◌*◌, ◌/◌, ◌%◌, ◌<◌, ◌≤◌, min, Bool, true, false, ◌&&◌, ◌||◌, nat_le, List, length, get_or, slice_set, inl, inr, ap, ◌∙◌, sym, refl, arith, if◌then◌else◌}
use Rattle.std.proofs.lemmas.Bool.{cases_lt, cases_eq, lt-ltb, le-ltb}
use Rattle.std.proofs.lemmas.Bool.Decides.{nat_tests}
use Rattle.std.proofs.lemmas.List.{get_or-set_same, get_or-set_other, length-set}
use Rattle.std.proofs.lemmas.Nat.{div-add-mod', mod_below}
use Rattle.std.proofs.Math.Nat.{mul-le-mul_right}
use Rattle.splat_ppm.specs.Lowering.{lies_in, lies_in_square, AreLowered}

-- ---- places
pub none_between : (first k : ℕ) → lies_in first first k ≡ false
none_between first k = grind (arith, nat_tests)

-- no place lies from a first one on, below an end that is not above it
pub none_before : (first end k : ℕ) → end ≤ first → lies_in first end k ≡ false
none_before first end k l = grind (arith, nat_tests)

-- one place more lies below the next end
lies_at : (first k : ℕ) → first ≤ k → lies_in first (k + 1) k ≡ true
lies_at first k l = grind (arith, nat_tests)

not_yet : (first k : ℕ) → lies_in first k k ≡ false
not_yet first k = grind (arith, nat_tests)

lies_still : (first k j : ℕ) → j ≢ k → lies_in first (k + 1) j ≡ lies_in first k j
lies_still first k j n = elim (cases_lt j k) [
  | inl below ↦ ap (λ b. nat_le first j && b) (lt-ltb _ _ (omega arith) ∙ sym (lt-ltb _ _ below))
  | inr above ↦ elim (cases_eq j k) [
    | inl same ↦ absurd (n same)
    | inr other ↦ ap (λ b. nat_le first j && b) (le-ltb _ _ (omega (arith, other)) ∙ sym (le-ltb _ _ above))
  ]
]

-- ---- lists
pub lowered_nowhere : (here : ℕ → Bool) (key : ℕ) (keys : List ℕ) → ((k : ℕ) → here k ≡ false) → AreLowered here key keys keys
lowered_nowhere here key keys none = record { long = refl; at = λ k l. rw (none k) refl }

-- the same places, said in another way
pub lowered_where : (here there : ℕ → Bool) (key : ℕ) (old new : List ℕ) → ((k : ℕ) → k < length old → there k ≡ here k) → AreLowered here key old new → AreLowered there key old new
lowered_where here there key old new same is = record {
  long = is.long;
  at = λ k l. is.at k l ∙ ap (λ b. if b then min (get_or old k 0) key else get_or old k 0) (sym (same k l));
}

-- lowered at some places, and then at others
both : (a b : Bool) (x y z key : ℕ) → y ≡ (if a then min x key else x) → z ≡ (if b then min y key else y) → z ≡ (if a || b then min x key else x)
both true true x y z key p q = omega arith
both true false x y z key p q = q ∙ p
both false true x y z key p q = q ∙ ap (λ n. min n key) p
both false false x y z key p q = q ∙ p

pub lowered_twice : (here there : ℕ → Bool) (key : ℕ) (old mid new : List ℕ) → AreLowered here key old mid → AreLowered there key mid new → AreLowered (λ k. here k || there k) key old new
lowered_twice here there key old mid new first second = record {
  long = second.long ∙ first.long;
  at = λ k l. both (here k) (there k) (get_or old k 0) (get_or mid k 0) (get_or new k 0) key (first.at k l) (second.at k (omega (arith, first.long)));
}

-- lowered up to a place, and then there
pub lowered_more : (first k key : ℕ) (old mid : List ℕ) → first ≤ k → k < length mid → AreLowered (lies_in first k) key old mid
    → AreLowered (lies_in first (k + 1)) key old (slice_set mid k (min (get_or mid k 0) key))
lowered_more first k key old mid l s is = record {
  long = length-set mid k (min (get_or mid k 0) key) ∙ is.long;
  at = λ j b. elim (cases_eq j k) [
    | inl same ↦
        let place : get_or (slice_set mid k (min (get_or mid k 0) key)) j 0 ≡ min (get_or mid k 0) key = ap (λ n. get_or (slice_set mid k (min (get_or mid k 0) key)) n 0) same ∙ get_or-set_same mid k _ 0 s in
        let before : get_or mid k 0 ≡ get_or old k 0 = is.at k (omega (arith, is.long)) ∙ ap (λ b. if b then min (get_or old k 0) key else get_or old k 0) (not_yet first k) in
        place ∙ ap (λ n. min n key) (before ∙ ap (λ n. get_or old n 0) (sym same)) ∙ ap (λ b. if b then min (get_or old j 0) key else get_or old j 0) (sym (ap (lies_in first (k + 1)) same ∙ lies_at first k l))
    | inr other ↦
        get_or-set_other mid k j _ 0 other ∙ is.at j b ∙ ap (λ b. if b then min (get_or old j 0) key else get_or old j 0) (sym (lies_still first k j other))
  ];
}

-- ---- squares
or_false : (b : Bool) → (b || false) ≡ b
or_false true = refl
or_false false = refl

and_false : (b : Bool) → (b && false) ≡ false
and_false true = refl
and_false false = refl

and_true : (b : Bool) → (b && true) ≡ b
and_true true = refl
and_true false = refl

-- the places of a row between two columns
in_row : (width left right row k : ℕ) → 0 < width → k / width ≡ row → lies_in (row * width + left) (row * width + right) k ≡ lies_in left right (k % width)
in_row width left right row k w same =
    let parts : row * width + k % width ≡ k = ap (λ n. n * width + k % width) (sym same) ∙ div-add-mod' k width in
    grind (arith, nat_tests, parts)

off_row : (width left right row k : ℕ) → 0 < width → right ≤ width → k / width ≢ row → lies_in (row * width + left) (row * width + right) k ≡ false
off_row width left right row k w r other =
    let parts : k / width * width + k % width ≡ k = div-add-mod' k width in
    let small : k % width < width = mod_below k width w in
    elim (cases_lt (k / width) row) [
      | inl above ↦
          let more : (k / width + 1) * width ≤ row * width = mul-le-mul_right width (omega arith) in
          let split : (k / width + 1) * width ≡ k / width * width + width = omega arith in
          let before : k < row * width + left = omega arith in
          grind (arith, nat_tests, before)
      | inr below ↦
          let less : (row + 1) * width ≤ k / width * width = mul-le-mul_right width (omega (arith, other)) in
          let split : (row + 1) * width ≡ row * width + width = omega arith in
          let past : row * width + right ≤ k = omega arith in
          grind (arith, nat_tests, past)
    ]

-- a square with one row more
square_more : (width left right top row k : ℕ) → 0 < width → right ≤ width → top ≤ row
    → lies_in_square width left right top (row + 1) k ≡ (lies_in_square width left right top row k || lies_in (row * width + left) (row * width + right) k)
square_more width left right top row k w r t = elim (cases_eq (k / width) row) [
  | inl same ↦
      let now : lies_in top (row + 1) (k / width) ≡ true = ap (lies_in top (row + 1)) same ∙ lies_at top row t in
      let before : lies_in top row (k / width) ≡ false = ap (lies_in top row) same ∙ not_yet top row in
      ap (λ b. lies_in left right (k % width) && b) now ∙ and_true (lies_in left right (k % width)) ∙ sym (in_row width left right row k w same)
      ∙ ap (λ b. b || lies_in (row * width + left) (row * width + right) k) (sym (ap (λ b. lies_in left right (k % width) && b) before ∙ and_false (lies_in left right (k % width))))
  | inr other ↦
      ap (λ b. lies_in left right (k % width) && b) (lies_still top row (k / width) other) ∙ sym (or_false (lies_in_square width left right top row k))
      ∙ ap (λ b. lies_in_square width left right top row k || b) (sym (off_row width left right row k w r other))
]

pub row_lowered : (width left right top row key : ℕ) (old mid new : List ℕ) → 0 < width → right ≤ width → top ≤ row
    → AreLowered (lies_in_square width left right top row) key old mid → AreLowered (lies_in (row * width + left) (row * width + right)) key mid new
    → AreLowered (lies_in_square width left right top (row + 1)) key old new
row_lowered width left right top row key old mid new w r t first second =
    lowered_where (λ k. lies_in_square width left right top row k || lies_in (row * width + left) (row * width + right) k) (lies_in_square width left right top (row + 1)) key old new
    (λ k l. square_more width left right top row k w r t) (lowered_twice (lies_in_square width left right top row) (lies_in (row * width + left) (row * width + right)) key old mid new first second)

pub no_rows : (width left right top bottom k : ℕ) → bottom ≤ top → lies_in_square width left right top bottom k ≡ false
no_rows width left right top bottom k l = ap (λ b. lies_in left right (k % width) && b) (none_before top bottom (k / width) l) ∙ and_false (lies_in left right (k % width))
