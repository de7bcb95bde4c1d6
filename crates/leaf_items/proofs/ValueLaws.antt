-- Laws of items by lists, as contracts see them.
use Rattle.std.proofs.Common.{◌≡◌, ◌≢◌, ◌∙◌, ℕ, zero, suc, ◌+◌, ◌-◌, ◌<◌, ◌≤◌, inl, inr, Bool, true, false, cond, nat_eq, nat_le, nat_lt, List, [], ◌∷◌, ◌++◌, length, get_or, replicate, Some, ap, sym, refl, arith, subst}
use Rattle.std.specs.Prelude.{All, Contains, count_by, slice_get}
use Rattle.std.proofs.lemmas.Bool.{cases_lt, eq-eqb, eqb-true, le-leb, le-ltb, lt-leb}
use Rattle.std.proofs.lemmas.List.{get_or-append_right, get_or-replicate, get_or_append_left, get_or_past, length-append}
use Rattle.std.proofs.lemmas.List.Elements.{All-cons, All-contains, All-get_or, All-head, All-nil, All-tail, All-weaker}
use Rattle.std.proofs.lemmas.List.Sums.{sum_by-append, sum_by-cons}
use Rattle.std.proofs.lemmas.Option.{get_or_from_slice_get, none-some, same_Some, slice_get_within}
use Rattle.leaf_items.specs.Items.{ItemsValue, before, born_of, granted, items_from, items_of, owned, with_ready}
use Rattle.leaf_items.specs.Openings.{AreDealt, ArePicked, PartsValue, moved, with_parts}
use Rattle.leaf_items.proofs.ItemLaws.{items_from-append, items_within, one}
use Rattle.leaf_items.proofs.MoveLaws.{length-moved}
use Rattle.leaf_items.proofs.OpenLaws.{moved_other}

-- ---- which items a list has

cond_contains : (b : Bool) (x y : ℕ) (A : List ℕ) → Contains A y → Contains (cond b (x ∷ A) A) y
cond_contains true x y A there = (suc there.0, omega (arith, there.1), there.2)
cond_contains false x y A there = there

pub has : (first : ℕ) (leaf : List ℕ) (list item : ℕ) → slice_get leaf item ≡ Some list → Contains (items_from first leaf list) (first + item)
has first [] list item at = absurd (none-some list at)
has first (l ∷ leaf) list zero at =
    let here : first ≡ first + 0 = omega arith in
    let A : List ℕ = items_from (first + 1) leaf list in
    let P : Bool → Type 0 = λ b. Contains (cond b (first ∷ A) A) (first + 0) in
    let there : P true = (0, omega arith, here) in
    subst P (sym (eq-eqb l list (same_Some l list at))) there
has first (l ∷ leaf) list (suc item) at =
    let further : first + 1 + item ≡ first + suc item = omega arith in
    let P : ℕ → Type 0 = λ x. Contains (items_from (first + 1) leaf list) x in
    cond_contains (nat_eq l list) first (first + suc item) (items_from (first + 1) leaf list) (subst P further (has (first + 1) leaf list item at))

only_cons : (P : ℕ → Type 0) (b : Bool) (x : ℕ) (A : List ℕ) → (b ≡ true → P x) → All P A → All P (cond b (x ∷ A) A)
only_cons P true x A here all = All-cons P x A (here refl) all
only_cons P false x A here all = all

head_is : (first l list : ℕ) (leaf : List ℕ) → l ≡ list → (m : ℕ) → first ≡ first + m → slice_get (l ∷ leaf) m ≡ Some list
head_is first l list leaf is zero at = ap Some is
head_is first l list leaf is (suc m) at = absurd (omega (arith, at))

tail_is : (first item l list : ℕ) (leaf : List ℕ) → first + 1 ≤ item → ((m : ℕ) → item ≡ first + 1 + m → slice_get leaf m ≡ Some list)
    → (m : ℕ) → item ≡ first + m → slice_get (l ∷ leaf) m ≡ Some list
tail_is first item l list leaf high rest zero at = absurd (omega (arith, high, at))
tail_is first item l list leaf high rest (suc m) at = rest m (omega (arith, at))

-- an item of a list is in it
abbrev pub IsIn : ℕ → List ℕ → ℕ → ℕ → Type 0
IsIn first leaf list item = (first ≤ item) × ((m : ℕ) → item ≡ first + m → slice_get leaf m ≡ Some list)

pub only : (first : ℕ) (leaf : List ℕ) (list : ℕ) → All (IsIn first leaf list) (items_from first leaf list)
only first [] list = All-nil (IsIn first [] list)
only first (l ∷ leaf) list =
    let wider : (x : ℕ) → IsIn (first + 1) leaf list x → IsIn first (l ∷ leaf) list x = λ x q. (omega (arith, q.0), tail_is first x l list leaf q.0 q.1) in
    only_cons (IsIn first (l ∷ leaf) list) (nat_eq l list) first (items_from (first + 1) leaf list)
    (λ same. (omega arith, head_is first l list leaf (eqb-true l list same)))
    (All-weaker (IsIn (first + 1) leaf list) (IsIn first (l ∷ leaf) list) wider (items_from (first + 1) leaf list) (only (first + 1) leaf list))

pub is_in : (leaf : List ℕ) (list item : ℕ) → Contains (items_from 0 leaf list) item → slice_get leaf item ≡ Some list
is_in leaf list item there = (All-contains (IsIn 0 leaf list) (items_from 0 leaf list) item (only 0 leaf list) there).1 item (omega arith)

pub is_among : (leaf : List ℕ) (list item : ℕ) → slice_get leaf item ≡ Some list → Contains (items_from 0 leaf list) item
is_among leaf list item at =
    let none : 0 + item ≡ item = omega arith in
    let P : ℕ → Type 0 = λ x. Contains (items_from 0 leaf list) x in
    subst P none (has 0 leaf list item at)

-- ---- how many are owned and granted

pub count_none : (p : ℕ → Bool) (xs : List ℕ) → All (λ x. p x ≡ false) xs → count_by p xs ≡ 0
count_none p [] all = omega arith
count_none p (x ∷ xs) all =
    let here : one (p x) ≡ 0 = ap one (All-head (λ (y : ℕ). p y ≡ false) x xs all) in
    omega (arith, sum_by-cons (λ (y : ℕ). cond (p y) 1 0) x xs, here, count_none p xs (All-tail (λ (y : ℕ). p y ≡ false) x xs all))

count_cond : (p : ℕ → Bool) (t : Bool) (x : ℕ) (A : List ℕ) → p x ≡ true → count_by p (cond t (x ∷ A) A) ≡ one t + count_by p A
count_cond p true x A passes =
    let here : one (p x) ≡ 1 = ap one passes in
    omega (arith, sum_by-cons (λ (y : ℕ). cond (p y) 1 0) x A, here)
count_cond p false x A passes = omega arith

-- items from a number on are granted by then
later_granted : (n bound : ℕ) (more : List ℕ) (list : ℕ) → bound ≤ n
    → count_by (λ x. nat_le bound x) (items_from n more list) ≡ count_by (λ l. nat_eq l list) more
later_granted n bound [] list low = omega arith
later_granted n bound (l ∷ more) list low =
    count_cond (λ (x : ℕ). nat_le bound x) (nat_eq l list) n (items_from (n + 1) more list) (le-leb bound n low)
    ∙ omega (arith, later_granted (n + 1) bound more list (omega (arith, low)), sum_by-cons (λ (k : ℕ). cond (nat_eq k list) 1 0) l more)

later_owned : (n bound : ℕ) (more : List ℕ) (list : ℕ) → bound ≤ n → before (items_from n more list) bound ≡ 0
later_owned n bound more list low =
    let Q : ℕ → Type 0 = λ x. (n ≤ x) × (x < n + length more) in
    let P : ℕ → Type 0 = λ x. nat_lt x bound ≡ false in
    let above : (x : ℕ) → Q x → P x = λ x q. le-ltb x bound (omega (arith, low, q.0)) in
    count_none (λ (x : ℕ). nat_lt x bound) (items_from n more list) (All-weaker Q P above (items_from n more list) (items_within n more list))

born_low : (born : List ℕ) (list n : ℕ) → All (λ b. b ≤ n) born → get_or born list 0 ≤ n
born_low born list n all = elim (cases_lt list (length born)) [
  | inl low ↦ All-get_or (λ (b : ℕ). b ≤ n) born list 0 low all
  | inr past ↦ omega (arith, get_or_past born list 0 past)
]

pub owned_admitted : (value : ItemsValue) (list : ℕ) → All (λ born. born ≤ length value.leaf) value.born → owned (with_ready value) list ≡ owned value list
owned_admitted value list early =
    let bound : ℕ = born_of value list in
    let low : bound ≤ 0 + length value.leaf = omega (arith, born_low value.born list (length value.leaf) early) in
    let more : List ℕ = items_from (0 + length value.leaf) value.ready list in
    ap (λ (s : List ℕ). before s bound) (items_from-append 0 value.leaf value.ready list)
    ∙ sum_by-append (λ (x : ℕ). cond (nat_lt x bound) 1 0) (items_of value list) more
    ∙ omega (arith, later_owned (0 + length value.leaf) bound value.ready list low)

pub granted_admitted : (value : ItemsValue) (list : ℕ) → All (λ born. born ≤ length value.leaf) value.born
    → granted (with_ready value) list ≡ granted value list + count_by (λ l. nat_eq l list) value.ready
granted_admitted value list early =
    let bound : ℕ = born_of value list in
    let low : bound ≤ 0 + length value.leaf = omega (arith, born_low value.born list (length value.leaf) early) in
    let more : List ℕ = items_from (0 + length value.leaf) value.ready list in
    ap (λ (s : List ℕ). count_by (λ (x : ℕ). nat_le bound x) s) (items_from-append 0 value.leaf value.ready list)
    ∙ sum_by-append (λ (x : ℕ). cond (nat_le bound x) 1 0) (items_of value list) more
    ∙ ap (λ (n : ℕ). granted value list + n) (later_granted (0 + length value.leaf) bound value.ready list low)

pub admitted_items : (value : ItemsValue) (list : ℕ) → items_of (with_ready value) list ≡ items_of value list ++ items_from (length value.leaf) value.ready list
admitted_items value list =
    let none : 0 + length value.leaf ≡ length value.leaf = omega arith in
    items_from-append 0 value.leaf value.ready list ∙ ap (λ (n : ℕ). items_of value list ++ items_from n value.ready list) none

-- ---- openings

pub born_same : (value : ItemsValue) (parts : PartsValue) (list : ℕ) → list < length value.born → born_of (with_parts value parts) list ≡ born_of value list
born_same value parts list low = get_or_append_left value.born (replicate (length parts.parts) (length value.leaf)) 0 list low

pub born_new : (value : ItemsValue) (parts : PartsValue) (part : ℕ) → part < length parts.parts
    → born_of (with_parts value parts) (length value.born + part) ≡ length value.leaf
born_new value parts part low =
    let place : length value.born + part - length value.born ≡ part = omega arith in
    get_or-append_right value.born (replicate (length parts.parts) (length value.leaf)) (length value.born) (length value.born + part) 0 refl (omega arith)
    ∙ ap (λ (k : ℕ). get_or (replicate (length parts.parts) (length value.leaf)) k 0) place
    ∙ get_or-replicate (length parts.parts) part (length value.leaf) 0 low

pub items_same : (value : ItemsValue) (parts : PartsValue) (list : ℕ) → list < length value.born → list ≢ parts.list
    → items_of (with_parts value parts) list ≡ items_of value list
items_same value parts list low other = moved_other (length value.born) parts.list 0 list value.leaf parts.aims low other

pub granted_new : (value : ItemsValue) (parts : PartsValue) (part : ℕ) → part < length parts.parts
    → granted (with_parts value parts) (length value.born + part) ≡ 0
granted_new value parts part low =
    let list : ℕ = length value.born + part in
    let leaf : List ℕ = moved (length value.born) parts.list value.leaf parts.aims in
    let long : length leaf ≡ length value.leaf = length-moved (length value.born) parts.list value.leaf parts.aims in
    let Q : ℕ → Type 0 = λ x. (0 ≤ x) × (x < 0 + length leaf) in
    let P : ℕ → Type 0 = λ x. nat_le (length value.leaf) x ≡ false in
    let below : (x : ℕ) → Q x → P x = λ x q. lt-leb (length value.leaf) x (omega (arith, q.1, long)) in
    ap (λ (b : ℕ). count_by (λ (x : ℕ). nat_le b x) (items_from 0 leaf list)) (born_new value parts part low)
    ∙ count_none (λ (x : ℕ). nat_le (length value.leaf) x) (items_from 0 leaf list) (All-weaker Q P below (items_from 0 leaf list) (items_within 0 leaf list))

pub owned_same : (value : ItemsValue) (parts : PartsValue) (list : ℕ) → list < length value.born → list ≢ parts.list
    → owned (with_parts value parts) list ≡ owned value list
owned_same value parts list low other =
    ap (λ (b : ℕ). before (items_of (with_parts value parts) list) b) (born_same value parts list low)
    ∙ ap (λ (s : List ℕ). before s (born_of value list)) (items_same value parts list low other)

pub granted_same : (value : ItemsValue) (parts : PartsValue) (list : ℕ) → list < length value.born → list ≢ parts.list
    → granted (with_parts value parts) list ≡ granted value list
granted_same value parts list low other =
    ap (λ (b : ℕ). count_by (λ (x : ℕ). nat_le b x) (items_of (with_parts value parts) list)) (born_same value parts list low)
    ∙ ap (λ (s : List ℕ). count_by (λ (x : ℕ). nat_le (born_of value list) x) s) (items_same value parts list low other)

pub dealt_still : (value : ItemsValue) (parts other : PartsValue) → AreDealt value other → other.list ≢ parts.list → AreDealt (with_parts value parts) other
dealt_still value parts other dealt apart =
    let P : List ℕ → Type 0 = λ items. ArePicked items other.aims other.parts in
    record {
      opened = omega (arith, dealt.opened, length-append value.born (replicate (length parts.parts) (length value.leaf)));
      picked = subst P (sym (items_same value parts other.list dealt.opened apart)) dealt.picked;
    }

-- ---- where items go

goes_cons : (b : Bool) (n l w k m : ℕ) (I M N : List ℕ) (a aim : ℕ) (aims : List ℕ)
    → ((j q : ℕ) → slice_get I j ≡ Some (n + 1 + q) → slice_get aims j ≡ Some aim → slice_get M q ≡ Some (w + aim))
    → ((j q : ℕ) → slice_get I j ≡ Some (n + 1 + q) → slice_get (a ∷ aims) j ≡ Some aim → slice_get N q ≡ Some (w + aim))
    → ((j x : ℕ) → slice_get I j ≡ Some x → n + 1 ≤ x)
    → slice_get (cond b (n ∷ I) I) k ≡ Some (n + m) → slice_get (a ∷ aims) k ≡ Some aim → slice_get (cond b ((w + a) ∷ M) (l ∷ N)) m ≡ Some (w + aim)
goes_cons true n l w zero zero I M N a aim aims f g high at aims_at = ap (λ (k : ℕ). Some (w + k)) (same_Some a aim aims_at)
goes_cons true n l w zero (suc m) I M N a aim aims f g high at aims_at = absurd (omega (arith, same_Some n (n + suc m) at))
goes_cons true n l w (suc k) zero I M N a aim aims f g high at aims_at = absurd (omega (arith, high k (n + 0) at))
goes_cons true n l w (suc k) (suc m) I M N a aim aims f g high at aims_at =
    let further : n + suc m ≡ n + 1 + m = omega arith in
    f k m (at ∙ ap Some further) aims_at
goes_cons false n l w k zero I M N a aim aims f g high at aims_at = absurd (omega (arith, high k (n + 0) at))
goes_cons false n l w k (suc m) I M N a aim aims f g high at aims_at =
    let further : n + suc m ≡ n + 1 + m = omega arith in
    g k m (at ∙ ap Some further) aims_at

high_at : (n : ℕ) (leaf : List ℕ) (list j x : ℕ) → slice_get (items_from n leaf list) j ≡ Some x → n ≤ x
high_at n leaf list j x at =
    let within : (n ≤ get_or (items_from n leaf list) j x) × (get_or (items_from n leaf list) j x < n + length leaf) =
    All-get_or (λ (y : ℕ). (n ≤ y) × (y < n + length leaf)) (items_from n leaf list) j x (slice_get_within (items_from n leaf list) j x at)
    (items_within n leaf list) in
    omega (arith, within.0, get_or_from_slice_get (items_from n leaf list) j x x at)

pub goes : (first list n : ℕ) (leaf aims : List ℕ) (k m aim : ℕ) → slice_get (items_from n leaf list) k ≡ Some (n + m) → slice_get aims k ≡ Some aim
    → slice_get (moved first list leaf aims) m ≡ Some (first + aim)
goes first list n [] aims k m aim at aims_at = absurd (none-some (n + m) at)
goes first list n (l ∷ leaf) [] k m aim at aims_at = absurd (none-some aim aims_at)
goes first list n (l ∷ leaf) (a ∷ aims) k m aim at aims_at =
    goes_cons (nat_eq l list) n l first k m (items_from (n + 1) leaf list) (moved first list leaf aims) (moved first list leaf (a ∷ aims)) a aim aims
    (λ j q here there. goes first list (n + 1) leaf aims j q aim here there)
    (λ j q here there. goes first list (n + 1) leaf (a ∷ aims) j q aim here there)
    (λ j x here. high_at (n + 1) leaf list j x here) at aims_at

stays_cons : (b : Bool) (l v m q list : ℕ) (leaf M N : List ℕ) → (b ≡ true → l ≡ list) → q ≢ list
    → ((j : ℕ) → slice_get leaf j ≡ Some q → slice_get M j ≡ Some q) → ((j : ℕ) → slice_get leaf j ≡ Some q → slice_get N j ≡ Some q)
    → slice_get (l ∷ leaf) m ≡ Some q → slice_get (cond b (v ∷ M) (l ∷ N)) m ≡ Some q
stays_cons true l v zero q list leaf M N is other f g at = absurd (other (sym (same_Some l q at) ∙ is refl))
stays_cons true l v (suc m) q list leaf M N is other f g at = f m at
stays_cons false l v zero q list leaf M N is other f g at = at
stays_cons false l v (suc m) q list leaf M N is other f g at = g m at

pub stays : (first list : ℕ) (leaf aims : List ℕ) (m q : ℕ) → slice_get leaf m ≡ Some q → q ≢ list → slice_get (moved first list leaf aims) m ≡ Some q
stays first list [] aims m q at other = at
stays first list (l ∷ leaf) [] m q at other = at
stays first list (l ∷ leaf) (a ∷ aims) m q at other =
    stays_cons (nat_eq l list) l (first + a) m q list leaf (moved first list leaf aims) (moved first list leaf (a ∷ aims)) (λ same. eqb-true l list same) other
    (λ j here. stays first list leaf aims j q here other) (λ j here. stays first list leaf (a ∷ aims) j q here other) at
