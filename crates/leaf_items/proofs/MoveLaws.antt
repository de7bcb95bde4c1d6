-- Items of one list as they move to others, one by one.
use Rattle.std.proofs.Common.{◌≡◌, ◌∙◌, ℕ, zero, suc, ◌+◌, ◌<◌, ◌≤◌, Bool, true, false, cond, nat_eq, List, [], ◌∷◌, ◌++◌, length, get_or, set, take, ap, sym, refl, arith}
use Rattle.std.specs.Prelude.{All}
use Rattle.std.proofs.lemmas.List.{length-take-le, take_more}
use Rattle.std.proofs.lemmas.List.Elements.{All-get_or, All-weaker}
use Rattle.leaf_items.specs.Items.{items_from}
use Rattle.leaf_items.specs.Openings.{moved}
use Rattle.leaf_items.proofs.ItemLaws.{items_within}

pub moved_nil : (first list : ℕ) (leaf : List ℕ) → moved first list leaf [] ≡ leaf
moved_nil first list [] = refl
moved_nil first list (l ∷ leaf) = refl

cond_length : (b : Bool) (v l n : ℕ) (A B : List ℕ) → length A ≡ n → length B ≡ n → length (cond b (v ∷ A) (l ∷ B)) ≡ suc n
cond_length true v l n A B e f = omega (arith, e)
cond_length false v l n A B e f = omega (arith, f)

pub length-moved : (first list : ℕ) (leaf aims : List ℕ) → length (moved first list leaf aims) ≡ length leaf
length-moved first list [] aims = refl
length-moved first list (l ∷ leaf) [] = refl
length-moved first list (l ∷ leaf) (aim ∷ aims) = cond_length (nat_eq l list) (first + aim) l (length leaf) (moved first list leaf aims)
    (moved first list leaf (aim ∷ aims))
    (length-moved first list leaf aims) (length-moved first list leaf (aim ∷ aims))

-- the items behind the first one
later : (n : ℕ) (leaf : List ℕ) (list : ℕ) → All (λ x. n + 1 ≤ x) (items_from (n + 1) leaf list)
later n leaf list =
    let Q : ℕ → Type 0 = λ x. (n + 1 ≤ x) × (x < n + 1 + length leaf) in
    let P : ℕ → Type 0 = λ x. n + 1 ≤ x in
    let narrower : (x : ℕ) → Q x → P x = λ x q. q.0 in
    All-weaker Q P narrower (items_from (n + 1) leaf list) (items_within (n + 1) leaf list)

not_first : (n k m : ℕ) (items : List ℕ) → All (λ x. n + 1 ≤ x) items → k < length items → get_or items k 0 ≡ n + m → m ≡ 0 → ⊥
not_first n k m items high low at none =
    let above : n + 1 ≤ get_or items k 0 = All-get_or (λ (x : ℕ). n + 1 ≤ x) items k 0 low high in
    omega (arith, above, at, none)

move_first : (b : Bool) (n l v m : ℕ) (leaf items A B : List ℕ) → leaf ≡ A → All (λ x. n + 1 ≤ x) items
    → ((j : ℕ) → 0 < length items → get_or items 0 0 ≡ n + 1 + j → set leaf j v ≡ B)
    → 0 < length (cond b (n ∷ items) items) → get_or (cond b (n ∷ items) items) 0 0 ≡ n + m → set (l ∷ leaf) m v ≡ cond b (v ∷ A) (l ∷ B)
move_first true n l v zero leaf items A B e high next low at = ap (λ (s : List ℕ). v ∷ s) e
move_first true n l v (suc m) leaf items A B e high next low at = absurd (omega (arith, at))
move_first false n l v zero leaf items A B e high next low at = absurd (not_first n 0 0 items high low at refl)
move_first false n l v (suc m) leaf items A B e high next low at = ap (λ (s : List ℕ). l ∷ s) (next m low (omega (arith, at)))

move_next : (b : Bool) (n l v w m k : ℕ) (items A B A' B' : List ℕ) → All (λ x. n + 1 ≤ x) items
    → ((j : ℕ) → k < length items → get_or items k 0 ≡ n + 1 + j → set A j v ≡ A')
    → ((j : ℕ) → suc k < length items → get_or items (suc k) 0 ≡ n + 1 + j → set B j v ≡ B')
    → suc k < length (cond b (n ∷ items) items) → get_or (cond b (n ∷ items) items) (suc k) 0 ≡ n + m
    → set (cond b (w ∷ A) (l ∷ B)) m v ≡ cond b (w ∷ A') (l ∷ B')
move_next true n l v w zero k items A B A' B' high a b low at = absurd (not_first n k 0 items high (omega (arith, low)) at refl)
move_next true n l v w (suc m) k items A B A' B' high a b low at = ap (λ (s : List ℕ). w ∷ s) (a m (omega (arith, low)) (omega (arith, at)))
move_next false n l v w zero k items A B A' B' high a b low at = absurd (not_first n (suc k) 0 items high low at refl)
move_next false n l v w (suc m) k items A B A' B' high a b low at = ap (λ (s : List ℕ). l ∷ s) (b m low (omega (arith, at)))

-- the next item moves where it aims
pub move_step : (first list n : ℕ) (leaf aims : List ℕ) (aim m : ℕ) → length aims < length (items_from n leaf list)
    → get_or (items_from n leaf list) (length aims) 0 ≡ n + m → set (moved first list leaf aims) m (first + aim) ≡ moved first list leaf (aims ++ aim ∷ [])
move_step first list n [] aims aim m low at = absurd (omega (arith, low))
move_step first list n (l ∷ leaf) [] aim m low at =
    move_first (nat_eq l list) n l (first + aim) m leaf (items_from (n + 1) leaf list) (moved first list leaf []) (moved first list leaf (aim ∷ []))
    (sym (moved_nil first list leaf)) (later n leaf list)
    (λ j few is. ap (λ (s : List ℕ). set s j (first + aim)) (sym (moved_nil first list leaf)) ∙ move_step first list (n + 1) leaf [] aim j few is) low at
move_step first list n (l ∷ leaf) (a ∷ aims) aim m low at =
    move_next (nat_eq l list) n l (first + aim) (first + a) m (length aims) (items_from (n + 1) leaf list)
    (moved first list leaf aims) (moved first list leaf (a ∷ aims)) (moved first list leaf (aims ++ aim ∷ [])) (moved first list leaf (a ∷ (aims ++ aim ∷ [])))
    (later n leaf list)
    (λ j few is. move_step first list (n + 1) leaf aims aim j few is)
    (λ j few is. move_step first list (n + 1) leaf (a ∷ aims) aim j few is) low at

-- as a loop over items and aims moves them
pub move_more : (first list : ℕ) (leaf items aims now : List ℕ) (k aim item : ℕ) → items ≡ items_from 0 leaf list → length aims ≡ length items
    → k < length items
    → now ≡ moved first list leaf (take k aims) → aim ≡ get_or aims k 0 → item ≡ get_or items k 0
    → set now item (first + aim) ≡ moved first list leaf (take (k + 1) aims)
move_more first list leaf items aims now k aim item are same low so aim_is item_is =
    let aim_low : k < length aims = omega (arith, low, same) in
    let taken : length (take k aims) ≡ k = length-take-le k aims (omega (arith, aim_low)) in
    let at : get_or (items_from 0 leaf list) (length (take k aims)) 0 ≡ 0 + item =
    ap (λ (i : ℕ). get_or (items_from 0 leaf list) i 0) taken ∙ ap (λ (s : List ℕ). get_or s k 0) (sym are) ∙ sym item_is ∙ zero_more item in
    ap (λ (s : List ℕ). set s item (first + aim)) so
    ∙ move_step first list 0 leaf (take k aims) aim item (omega (arith, taken, low, ap length are)) at
    ∙ ap (moved first list leaf) (ap (λ (n : ℕ). take k aims ++ n ∷ []) aim_is ∙ sym (take_more aims k 0 aim_low)) where
      zero_more : (i : ℕ) → i ≡ 0 + i
      zero_more i = omega arith

-- each item is one that there is
pub item_low : (leaf items : List ℕ) (list k item : ℕ) → items ≡ items_from 0 leaf list → k < length items → item ≡ get_or items k 0 → item < length leaf
item_low leaf items list k item are low item_is =
    let within : (0 ≤ get_or (items_from 0 leaf list) k 0) × (get_or (items_from 0 leaf list) k 0 < 0 + length leaf) =
    All-get_or (λ (x : ℕ). (0 ≤ x) × (x < 0 + length leaf)) (items_from 0 leaf list) k 0 (omega (arith, low, ap length are)) (items_within 0 leaf list) in
    omega (arith, within.1, item_is, ap (λ (s : List ℕ). get_or s k 0) are)
