-- What a push to the heap and a pop from it do to the set of its numbers.
use Rattle.std.proofs.Common.{◌≡◌, ℕ, zero, suc, nat_lt, add-one, ◌+◌, ◌^◌, ◌<◌, ◌≤◌, inl, inr, Bool, true, false, ◌||◌, cond, List, [], ◌∷◌, ◌++◌, length, ap, refl, sym, ◌∙◌, arith, nat_eq}
use Rattle.std.specs.Prelude.{IsTrue}
use Rattle.std.specs.Ordering.{nat_cmp, eq_by_cmp}
use Rattle.std.specs.Cmp.{unsigned_tied}
use Rattle.std.specs.List.{list_any, range_with_len}
use Rattle.std.specs.BinaryHeap.{IsHeap, IsUpperBound, heap_items, heap_len, heap_capacity}
use Rattle.std.specs.List.Sorted.{IsPermutation}
use Rattle.std.proofs.lemmas.List.Sorted.{list_any-IsPermutation, IsPermutation-map, length_permutation}
use Rattle.std.proofs.lemmas.Map.Keys.{ge_from_not_lt}
use Rattle.std.proofs.lemmas.Cmp.{nat_cmp_total}
use Rattle.std.specs.FinMap.{nat_cmp-IsAntisymmetric}
use Rattle.std.proofs.lemmas.Bool.{cases_Bool, cases_lt, le-ltb, eq-eqb, eqb-true}
use Rattle.std.proofs.lemmas.Bool.Decides.{nat_tests}
use Rattle.std.specs.declared.cmp.Reverse.{Reverse}
use Rattle.std.specs.FinSet as set
use Rattle.chunk_pool.specs.Heaps.{plain, set_of, IsKept}
use Rattle.chunk_pool.specs.Numbers.{all_below}
use Rattle.chunk_pool.specs.declared.pool.Pool.TheInside.{Inside}
use Rattle.chunk_pool.proofs.Sets.{same_numbers, contains_inserted, len_inserted, len_of_list, len_below, taken_out}

-- lists with the same elements have the same set
pub set_of-permutation : (xs ys : List (Reverse ℕ)) → IsPermutation xs ys → set_of ys ≡ set_of xs
set_of-permutation xs ys same = same_numbers _ _ (λ q.
    set.contains-from_list nat_cmp_total (plain ys) q
    ∙ sym (list_any-IsPermutation (eq_by_cmp nat_cmp q) (plain xs) (plain ys) (IsPermutation-map (λ (r : Reverse ℕ). r.0) xs ys same))
    ∙ sym (set.contains-from_list nat_cmp_total (plain xs) q))

length_plain : (xs : List (Reverse ℕ)) → length (plain xs) ≡ length xs
length_plain [] = refl
length_plain (x ∷ xs) = ap suc (length_plain xs)

or-true : (a : Bool) → (a || true) ≡ true
or-true true = refl
or-true false = refl

-- what a pop leaves
pub record Popped (old : List (Reverse ℕ)) (x : Reverse ℕ) (rest : List (Reverse ℕ)) : Type 0 where
  pub has : set.contains (set_of old) x.0 ≡ true
  pub after : set_of rest ≡ set.remove (set_of old) x.0
  pub once : set.len (set_of rest) ≡ length rest
  pub gone : set.contains (set_of rest) x.0 ≡ false
  pub stay : (k : ℕ) → IsTrue (set.contains (set_of rest) k) → IsTrue (set.contains (set_of old) k)

pub popped : (old : List (Reverse ℕ)) (x : Reverse ℕ) (rest : List (Reverse ℕ)) → IsPermutation old (x ∷ rest) → set.len (set_of old) ≡ length old → Popped old x rest
popped old x rest same once =
    let more : set.insert (set_of rest) x.0 ≡ set_of old = set_of-permutation old (x ∷ rest) same in
    let long : length (x ∷ rest) ≡ length old = length_permutation old (x ∷ rest) same in
    let few : set.len (set_of rest) ≤ length rest = let most : set.len (set_of rest) ≤ length (plain rest) = len_of_list (plain rest) in omega (arith, length_plain rest) in
    let new : set.contains (set_of rest) x.0 ≡ false = elim (cases_Bool (set.contains (set_of rest) x.0)) [
      | inl there ↦
          let same_len : set.len (set.insert (set_of rest) x.0) ≡ set.len (set_of rest) = set.len-insert nat_cmp_total (set_of rest) x.0 ∙ ap (λ b. cond b (set.len (set_of rest)) (set.len (set_of rest) + 1)) there in
          let whole : set.len (set.insert (set_of rest) x.0) ≡ length old = ap set.len more ∙ once in
          absurd (omega arith)
      | inr lacks ↦ lacks
    ] in
    let whole : set.len (set.insert (set_of rest) x.0) ≡ length old = ap set.len more ∙ once in
    record {
      has = ap (λ s. set.contains s x.0) (sym more) ∙ set.contains-insert nat_cmp_total (set_of rest) x.0 x.0 ∙ ap (λ b. b || set.contains (set_of rest) x.0) (unsigned_tied x.0 x.0 ∙ eq_self x.0);
      after = sym (taken_out (set_of rest) x.0 new) ∙ ap (λ s. set.remove s x.0) more;
      once = let one : set.len (set.insert (set_of rest) x.0) ≡ set.len (set_of rest) + 1 = len_inserted (set_of rest) x.0 new in omega arith;
      gone = new;
      stay = λ k has. ap (λ s. set.contains s k) (sym more) ∙ contains_inserted (set_of rest) x.0 k ∙ ap (λ b. nat_eq k x.0 || b) has ∙ or-true (nat_eq k x.0);
    }
  where
    eq_self : (n : ℕ) → nat_eq n n ≡ true
    eq_self n = eq-eqb n n refl

-- nothing in the heap is below its top
pub least_of : (x : Reverse ℕ) (items : List (Reverse ℕ)) (j : ℕ) → IsUpperBound (λ (x y : Reverse ℕ). nat_cmp y.0 x.0) x items → list_any (eq_by_cmp nat_cmp j) (plain items) ≡ true → x.0 ≤ j
least_of x [] j bound any = absurd (cc)
least_of x (y ∷ ys) j bound any = elim (cases_Bool (eq_by_cmp nat_cmp j y.0)) [
  | inl here ↦ let same : j ≡ y.0 = eqb-true j y.0 (sym (unsigned_tied j y.0) ∙ here) in let low : x.0 ≤ y.0 = ge_from_not_lt y.0 x.0 bound.0 in omega arith
  | inr other ↦ least_of x ys j bound.1 (ap (λ b. b || list_any (eq_by_cmp nat_cmp j) (plain ys)) (sym other) ∙ any)
]

-- the heap has one place for each free number, and these are no more than all numbers
pub record Counted (a : Inside) : Type 0 where
  pub count : heap_len a.free ≡ set.len (set_of (heap_items a.free))
  pub few : heap_len a.free ≤ a.size
  pub fits : a.size < 2 ^ 32

pub counted : (a : Inside) → IsKept a → Counted a
counted a kept =
    let long : heap_len a.free ≡ length (heap_items a.free) = a.free.data.ok.0 in
    let few : set.len (set_of (heap_items a.free)) ≤ a.size = len_below a.size (set_of (heap_items a.free)) kept.below in
    record { count = long ∙ sym kept.once; few = omega (arith, kept.once); fits = kept.fits }

-- while a number below the size is not free, there is room for it
pub room_for_one : (a : Inside) (k : ℕ) → IsKept a → k < a.size → set.contains (set_of (heap_items a.free)) k ≡ false → heap_len a.free < heap_capacity a.free
room_for_one a k kept low new =
    let s : set.FinSet nat_cmp = set_of (heap_items a.free) in
    let within : (j : ℕ) → IsTrue (set.contains (set.insert s k) j) → j < a.size = λ j has.
    elim (cases_Bool (nat_eq j k)) [
      | inl here ↦ let same : j ≡ k = eqb-true j k here in omega arith
      | inr other ↦ kept.below j (ap (λ b. b || set.contains s j) (sym other) ∙ sym (contains_inserted s k j) ∙ has)
    ] in
    let few : set.len (set.insert s k) ≤ a.size = len_below a.size (set.insert s k) within in
    let more : set.len (set.insert s k) ≡ set.len s + 1 = len_inserted s k new in
    let counts : Counted a = counted a kept in
    omega (arith, counts.count, kept.room)

-- a heap that has the numbers below k, of n
pub record IsFilled (k n : ℕ) (items : List (Reverse ℕ)) (places : ℕ) : Type 0 where
  pub ordered : IsHeap (λ x y. nat_cmp y.0 x.0) items
  pub set_is : set_of items ≡ all_below k
  pub length_is : length items ≡ k
  pub room : n ≤ places

-- counting one further
counting_more : (a n : ℕ) → range_with_len a (suc n) ≡ range_with_len a n ++ (a + n) ∷ []
counting_more a zero = let same : a ≡ a + zero = omega arith in ap (λ m. let xs : List ℕ = m ∷ [] in xs) same
counting_more a (suc n) =
    let same : a + 1 + n ≡ a + suc n = omega arith in
    ap (λ (xs : List ℕ). a ∷ xs) (counting_more (a + 1) n ∙ ap (λ m. range_with_len (a + 1) n ++ m ∷ []) same)

all_below-more : (n : ℕ) → all_below (suc n) ≡ set.insert (all_below n) n
all_below-more n =
    let same : zero + n ≡ n = omega arith in
    ap set.from_list (counting_more zero n) ∙ set.from_list_push nat_cmp_total nat_cmp-IsAntisymmetric (range_with_len zero n) (zero + n) ∙ ap (set.insert (all_below n)) same

pub contains_all_below : (n q : ℕ) → set.contains (all_below n) q ≡ nat_lt q n
contains_all_below zero q = set.contains-empty nat_cmp q ∙ sym (le-ltb q zero (omega arith))
contains_all_below (suc n) q =
    ap (λ s. set.contains s q) (all_below-more n) ∙ contains_inserted (all_below n) n q ∙ ap (λ b. nat_eq q n || b) (contains_all_below n q) ∙ grind (arith, nat_tests)

pub len_all_below : (n : ℕ) → set.len (all_below n) ≡ n
len_all_below zero = set.len-empty nat_cmp
len_all_below (suc n) =
    let new : set.contains (all_below n) n ≡ false = contains_all_below n n ∙ le-ltb n n (omega arith) in
    omega (arith, ap set.len (all_below-more n), len_inserted (all_below n) n new, len_all_below n)

pub one_more : (k n : ℕ) (items items' : List (Reverse ℕ)) (room room' : ℕ) → IsFilled k n items room → IsHeap (λ (x y : Reverse ℕ). nat_cmp y.0 x.0) items' → IsPermutation (record { 0 = k } ∷ items) items' → room ≤ room' → IsFilled (k + 1) n items' room'
one_more k n items items' room room' filled ordered same wide =
    rw add-one (record {
      ordered = ordered;
      set_is = set_of-permutation (record { 0 = k } ∷ items) items' same ∙ ap (λ s. set.insert s k) filled.set_is ∙ sym (all_below-more k);
      length_is = length_permutation (record { 0 = k } ∷ items) items' same ∙ ap suc filled.length_is;
      room = omega (arith, filled.room);
    })

-- a pool after a push of a number that it lacked
pub kept_pushed : (a b : Inside) (k : ℕ) → IsKept a → b.size ≡ a.size → k < a.size → set.contains (set_of (heap_items a.free)) k ≡ false → IsPermutation (record { 0 = k } ∷ heap_items a.free) (heap_items b.free)
    → IsHeap (λ (x y : Reverse ℕ). nat_cmp y.0 x.0) (heap_items b.free) → heap_capacity a.free ≤ heap_capacity b.free → IsKept b
kept_pushed a b k kept size low new same ordered wide =
    let is : set_of (heap_items b.free) ≡ set.insert (set_of (heap_items a.free)) k = set_of-permutation (record { 0 = k } ∷ heap_items a.free) (heap_items b.free) same in
    let long : length (heap_items b.free) ≡ suc (length (heap_items a.free)) = length_permutation (record { 0 = k } ∷ heap_items a.free) (heap_items b.free) same in
    record {
      ordered = ordered;
      once = let more : set.len (set.insert (set_of (heap_items a.free)) k) ≡ set.len (set_of (heap_items a.free)) + 1 = len_inserted (set_of (heap_items a.free)) k new in ap set.len is ∙ omega (arith, kept.once);
      below = λ j has. elim (cases_Bool (nat_eq j k)) [
        | inl here ↦ let e : j ≡ k = eqb-true j k here in omega arith
        | inr other ↦ let was : j < a.size = kept.below j (ap (λ b. b || set.contains (set_of (heap_items a.free)) j) (sym other) ∙ sym (contains_inserted (set_of (heap_items a.free)) k j) ∙ ap (λ s. set.contains s j) (sym is) ∙ has) in omega arith
      ];
      room = omega (arith, kept.room);
      fits = omega (arith, kept.fits);
    }

true-lt : (j k : ℕ) → nat_lt j k ≡ true → j < k
true-lt j k low = elim (cases_lt j k) [ inl less ↦ less | inr high ↦ let none : false ≡ true = sym (le-ltb j k high) ∙ low in absurd (cc) ]

-- a pool whose heap has all its numbers
pub kept_filled : (a : Inside) (k : ℕ) → IsFilled k a.size (heap_items a.free) (heap_capacity a.free) → k ≡ a.size → a.size < 2 ^ 32 → IsKept a
kept_filled a k filled all fits = record {
  ordered = filled.ordered;
  once = ap set.len filled.set_is ∙ len_all_below k ∙ sym filled.length_is;
  below = λ j has. let low : j < k = true-lt j k (sym (contains_all_below k j) ∙ ap (λ s. set.contains s j) (sym filled.set_is) ∙ has) in omega arith;
  room = filled.room;
  fits = fits;
}
