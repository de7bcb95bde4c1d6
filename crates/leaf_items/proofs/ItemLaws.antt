-- How the items of a list append and ascend, and how they are counted.
use Rattle.std.proofs.Common.{◌≡◌, ◌∙◌, ℕ, zero, suc, ◌+◌, ◌<◌, ◌≤◌, inl, inr, Bool, true, false, cond, nat_eq, nat_lt, nat_le, List, [], ◌∷◌, ◌++◌, length, get_or, ap, arith}
use Rattle.std.specs.Prelude.{All, count_by}
use Rattle.std.specs.List.Sorted.{IsNonDecreasingBy, IsStrictlyIncreasing}
use Rattle.std.proofs.lemmas.Bool.{cases_lt, le-leb, le-ltb, lt-leb, lt-ltb}
use Rattle.std.proofs.lemmas.List.Elements.{All-cons, All-get_or, All-nil, All-weaker}
use Rattle.std.proofs.lemmas.List.Sums.{sum_by-cons}
use Rattle.leaf_items.specs.Items.{before, items_from}

-- where an item may come before two lists of which one goes on
pub cond_append : (b : Bool) (x : ℕ) (A B C : List ℕ) → A ≡ B ++ C → cond b (x ∷ A) A ≡ cond b (x ∷ B) B ++ C
cond_append true x A B C e = ap (λ (s : List ℕ). x ∷ s) e
cond_append false x A B C e = e

pub items_from-append : (first : ℕ) (leaf more : List ℕ) (list : ℕ)
    → items_from first (leaf ++ more) list ≡ items_from first leaf list ++ items_from (first + length leaf) more list
items_from-append first [] more list =
    let none : first ≡ first + 0 = omega arith in
    ap (λ (n : ℕ). items_from n more list) none
items_from-append first (l ∷ leaf) more list =
    let further : first + 1 + length leaf ≡ first + length (l ∷ leaf) = omega arith in
    cond_append (nat_eq l list) first (items_from (first + 1) (leaf ++ more) list) (items_from (first + 1) leaf list)
    (items_from (first + length (l ∷ leaf)) more list)
    (items_from-append (first + 1) leaf more list ∙ ap (λ (n : ℕ). items_from (first + 1) leaf list ++ items_from n more list) further)

cond_all : (P : ℕ → Type 0) (b : Bool) (x : ℕ) (A : List ℕ) → P x → All P A → All P (cond b (x ∷ A) A)
cond_all P true x A here all = All-cons P x A here all
cond_all P false x A here all = all

-- the items are among those that there are
pub items_within : (first : ℕ) (leaf : List ℕ) (list : ℕ) → All (λ item. (first ≤ item) × (item < first + length leaf)) (items_from first leaf list)
items_within first [] list = All-nil (λ (item : ℕ). (first ≤ item) × (item < first + 0))
items_within first (l ∷ leaf) list =
    let P : ℕ → Type 0 = λ item. (first ≤ item) × (item < first + length (l ∷ leaf)) in
    let Q : ℕ → Type 0 = λ item. (first + 1 ≤ item) × (item < first + 1 + length leaf) in
    let wider : (x : ℕ) → Q x → P x = λ x q. (omega (arith, q.0), omega (arith, q.1)) in
    let rest : All P (items_from (first + 1) leaf list) = All-weaker Q P wider (items_from (first + 1) leaf list) (items_within (first + 1) leaf list) in
    cond_all P (nat_eq l list) first (items_from (first + 1) leaf list) (omega arith, omega arith) rest

cond_few : (b : Bool) (x : ℕ) (A : List ℕ) (n : ℕ) → length A ≤ n → length (cond b (x ∷ A) A) ≤ suc n
cond_few true x A n few = omega (arith, few)
cond_few false x A n few = omega (arith, few)

-- there are no more of them than items
pub items_few : (first : ℕ) (leaf : List ℕ) (list : ℕ) → length (items_from first leaf list) ≤ length leaf
items_few first [] list = omega arith
items_few first (l ∷ leaf) list = cond_few (nat_eq l list) first (items_from (first + 1) leaf list) (length leaf) (items_few (first + 1) leaf list)

-- each is below each later one
abbrev pub Rises : List ℕ → Type 0
Rises xs = (i j d : ℕ) → i < j → j < length xs → get_or xs i d < get_or xs j d

rises_cons : (x : ℕ) (xs : List ℕ) → Rises xs → All (λ y. x < y) xs → Rises (x ∷ xs)
rises_cons x xs rises above zero zero d less low = absurd (omega (arith, less))
rises_cons x xs rises above zero (suc j) d less low = All-get_or (λ (y : ℕ). x < y) xs j d (omega (arith, low)) above
rises_cons x xs rises above (suc i) zero d less low = absurd (omega (arith, less))
rises_cons x xs rises above (suc i) (suc j) d less low = rises i j d (omega (arith, less)) (omega (arith, low))

cond_rises : (b : Bool) (x : ℕ) (xs : List ℕ) → Rises xs → All (λ y. x < y) xs → Rises (cond b (x ∷ xs) xs)
cond_rises true x xs rises above = rises_cons x xs rises above
cond_rises false x xs rises above = rises

pub items_rise : (first : ℕ) (leaf : List ℕ) (list : ℕ) → Rises (items_from first leaf list)
items_rise first [] list = λ i j d less low. absurd (omega (arith, low))
items_rise first (l ∷ leaf) list =
    let Q : ℕ → Type 0 = λ item. (first + 1 ≤ item) × (item < first + 1 + length leaf) in
    let P : ℕ → Type 0 = λ item. first < item in
    let wider : (x : ℕ) → Q x → P x = λ x q. omega (arith, q.0) in
    cond_rises (nat_eq l list) first (items_from (first + 1) leaf list) (items_rise (first + 1) leaf list)
    (All-weaker Q P wider (items_from (first + 1) leaf list) (items_within (first + 1) leaf list))

pub items_ascend : (leaf : List ℕ) (list : ℕ) → IsStrictlyIncreasing (items_from 0 leaf list)
items_ascend leaf list k low = items_rise 0 leaf list k (k + 1) 0 (omega arith) low

-- as a binary search wants them
pub items_fall_never : (leaf : List ℕ) (list : ℕ) → IsNonDecreasingBy (λ x. x) (items_from 0 leaf list)
items_fall_never leaf list i j d before' low = elim (cases_lt i j) [
  | inl less ↦ omega (arith, items_rise 0 leaf list i j d less low)
  | inr not_less ↦
      let same : i ≡ j = omega (arith, before', not_less) in
      omega (arith, ap (λ (k : ℕ). get_or (items_from 0 leaf list) k d) same)
]

-- what a test counts
abbrev pub one : Bool → ℕ
one b = cond b 1 0

-- where the numbers at which a test gives true come first, there are as many as their end says
pub count_split : (p : ℕ → Bool) (xs : List ℕ) (n : ℕ) → n ≤ length xs
    → ((k d : ℕ) → k < n → p (get_or xs k d) ≡ true)
    → ((k d : ℕ) → n ≤ k → k < length xs → p (get_or xs k d) ≡ false) → count_by p xs ≡ n
count_split p [] n few yes' no' = omega (arith, few)
count_split p (x ∷ xs) zero few yes' no' =
    let rest : count_by p xs ≡ 0 = count_split p xs 0 (omega arith) (λ k d low. absurd (omega (arith, low)))
    (λ k d high low. no' (suc k) d (omega arith) (omega (arith, low))) in
    let here : one (p x) ≡ 0 = ap one (no' 0 0 (omega arith) (omega arith)) in
    omega (arith, sum_by-cons (λ (y : ℕ). cond (p y) 1 0) x xs, rest, here)
count_split p (x ∷ xs) (suc n) few yes' no' =
    let rest : count_by p xs ≡ n = count_split p xs n (omega (arith, few)) (λ k d low. yes' (suc k) d (omega (arith, low)))
    (λ k d high low. no' (suc k) d (omega (arith, high)) (omega (arith, low))) in
    let here : one (p x) ≡ 1 = ap one (yes' 0 0 (omega arith)) in
    omega (arith, sum_by-cons (λ (y : ℕ). cond (p y) 1 0) x xs, rest, here)

one_each : (x bound : ℕ) → one (nat_lt x bound) + one (nat_le bound x) ≡ 1
one_each x bound = elim (cases_lt x bound) [
  | inl less ↦ omega (arith, ap one (lt-ltb x bound less), ap one (lt-leb bound x less))
  | inr more ↦ omega (arith, ap one (le-ltb x bound more), ap one (le-leb bound x more))
]

-- some are below a bound, and the others are not
pub parted : (xs : List ℕ) (bound : ℕ) → before xs bound + count_by (λ x. nat_le bound x) xs ≡ length xs
parted [] bound = omega arith
parted (x ∷ xs) bound = omega (
  arith,
  sum_by-cons (λ (y : ℕ). cond (nat_lt y bound) 1 0) x xs,
  sum_by-cons (λ (y : ℕ). cond (nat_le bound y) 1 0) x xs,
  parted xs bound,
  one_each x bound,
)
