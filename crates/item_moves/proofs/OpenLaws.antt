-- A list that is opened for a new leaf.
use Rattle.std.proofs.Common.{◌≡◌, ◌≢◌, ℕ, suc, ◌+◌, ◌-◌, ◌*◌, ◌<◌, ◌≤◌, inl, inr, Bool, true, false, cond, ◌==◌, ◌&&◌, nat_lt, List, [], ◌∷◌, ◌++◌, length, get_or, refl, ap, sym, ◌∙◌, subst, arith, length-append}
use Rattle.std.proofs.Math.ListN.{length-set}
use Rattle.std.specs.List.{count_by}
use Rattle.std.proofs.lemmas.Bool.{cases_eq, cases_lt}
use Rattle.std.proofs.lemmas.List.Sums.{sum_by-cons}
use Rattle.chunk_pool.specs.Amounts.{chunks_for}
use Rattle.list_words.specs.Store.{Store, Row, IsOpen, Keeps, row, with_row, with_chunk, opened, lengthened}
use Rattle.list_words.specs.declared.leaf_lists.Phase.TheVariants.{Fresh}
use Rattle.list_words.proofs.RowLaws.{fresh_holds, open_holds, open_row, row-with_row, row-with_row_other}
use Rattle.item_moves.specs.Homes.{AreHomed, home_count, guest_count, is_home}
use Rattle.item_moves.specs.Opened.{IsOpened}
use Rattle.item_moves.proofs.SweepLaws.{still_known}

plus_none : (n : ℕ) → n + 0 ≡ n
plus_none n = omega arith

pub opened_none : (s : Store) (list : ℕ) → list < length s.rows → (row s list).phase ≡ Fresh → IsOpened s (with_row s list (opened (row s list))) list 0
opened_none s list low fresh =
    let t : Store = with_row s list (opened (row s list)) in
    let here : row t list ≡ opened (row s list) = row-with_row s list (opened (row s list)) low in
    record {
      rest = refl;
      lists = length-set s.rows list (opened (row s list));
      free = plus_none s.free;
      others = λ l ne. row-with_row_other s list l (opened (row s list)) ne;
      here = here ∙ (λ i. record (opened (row s list)) { owned = (sym here i).owned; owned_room = (sym here i).owned_room });
      many = ap (λ (r : Row). length r.owned) here;
      room = omega (arith, ap (λ (r : Row). r.owned_room) here);
      held = fresh_holds s list low fresh;
    }

pub opened_open : (s t : Store) (list n : ℕ) → IsOpened s t list n → IsOpen t list
opened_open s t list n h = ap (λ (r : Row). r.phase) h.here

pub opened_more : (s t : Store) (list n c : ℕ) → IsOpened s t list n → 0 < (row t list).owned_room → 0 < t.free
    → IsOpened s (with_chunk t list (lengthened (row t list) c)) list (n + 1)
opened_more s t list n c h room free =
    let new : Row = lengthened (row t list) c in
    let u : Store = with_chunk t list new in
    let o : IsOpen t list = opened_open s t list n h in
    let here : row u list ≡ new = row-with_row t list new (open_row t list o) in
    record {
      rest = ap (λ (v : Store). record v { rows = u.rows; free = u.free }) h.rest;
      lists = length-set t.rows list new ∙ h.lists;
      free = omega (arith, h.free);
      others = λ l ne. row-with_row_other t list l new ne ∙ h.others l ne;
      here = here ∙ ap (λ (r : Row). record r { owned = (row t list).owned ++ c ∷ []; owned_room = (row t list).owned_room - 1 }) h.here
          ∙ (λ i. record (opened (row s list)) { owned = (sym here i).owned; owned_room = (sym here i).owned_room });
      many = ap (λ (r : Row). length r.owned) here ∙ length-append (row t list).owned (c ∷ []) ∙ ap (λ k. k + 1) h.many;
      room = omega (arith, ap (λ (r : Row). r.owned_room) here, h.room);
      held = open_holds t list new o o ∙ h.held;
    }

-- ---- homes once the list is open
not_here : (h l : ℕ) → h ≢ l → (h == l) ≡ false
not_here h l ne = grind arith

none_counted : (homes : List ℕ) (l : ℕ) → ((x : ℕ) → x < length homes → get_or homes x 0 ≢ l) → home_count homes l ≡ 0
none_counted [] l none = refl
none_counted (h ∷ homes) l none =
    sum_by-cons (λ k. cond (k == l) 1 0) h homes
    ∙ (λ i. cond (not_here h l (none 0 (omega arith)) i) 1 0 + none_counted homes l (λ x low. none (suc x) (omega arith)) i)

nobody_home : (homes : List ℕ) (l x : ℕ) → ((y : ℕ) → y < length homes → get_or homes y 0 ≢ l) → is_home homes l x ≡ false
nobody_home homes l x none = elim (cases_lt x (length homes)) [
  | inl low ↦ ap (λ b. nat_lt x (length homes) && b) (not_here (get_or homes x 0) l (none x low)) ∙ and_no (nat_lt x (length homes))
  | inr high ↦ ap (λ b. b && get_or homes x 0 == l) (past x (length homes) high)
]
  where
    and_no : (b : Bool) → (b && false) ≡ false
    and_no true = refl
    and_no false = refl

    past : (a b : ℕ) → b ≤ a → nat_lt a b ≡ false
    past a b h = grind arith

pub homed_opened : (s t : Store) (knows knows' : ℕ → ℕ → ℕ → Type 0) (guest : ℕ → ℕ → Bool) (homes : List ℕ) (list n : ℕ) → IsOpened s t list n
    → AreHomed s knows guest homes → Keeps knows knows'
    → ((x : ℕ) → x < length homes → get_or homes x 0 ≢ list) → guest_count guest (length homes) list ≤ 256 * n → AreHomed t knows' guest homes
homed_opened s t knows knows' guest homes list n o h keeps none few =
    let was : (l : ℕ) → l ≢ list → IsOpen t l → IsOpen s l = λ l ne there. sym (ap (λ (r : Row). r.phase) (o.others l ne)) ∙ there in
    let apart : (l x : ℕ) → x < length homes → get_or homes x 0 ≡ l → l ≢ list = λ l x low e same. none x low (e ∙ same) in
    record {
      known = λ l x there low e. still_known knows knows' l x keeps (h.known l x (was l (apart l x low e) there) low e);
      once = λ l x there. elim (cases_eq l list) [
        | inl same ↦
            ap (λ k. count_by (λ y. y == x) (row t k).placed) same ∙ ap (λ (r : Row). count_by (λ y. y == x) r.placed) o.here
            ∙ sym (ap (λ k. cond (is_home homes k x) 1 0) same ∙ ap (λ b. cond b 1 0) (nobody_home homes list x none))
        | inr other ↦ ap (λ (r : Row). count_by (λ y. y == x) r.placed) (o.others l other) ∙ h.once l x (was l other there)
      ];
      counted = λ l there. elim (cases_eq l list) [
        | inl same ↦
            ap (λ k. length (row t k).placed) same ∙ ap (λ (r : Row). length r.placed) o.here ∙ sym (none_counted homes list none)
            ∙ ap (home_count homes) (sym same)
        | inr other ↦ ap (λ (r : Row). length r.placed) (o.others l other) ∙ h.counted l (was l other there)
      ];
      guests = λ l x there low e. h.guests l x (was l (apart l x low e) there) low e;
      room = λ l there. elim (cases_eq l list) [
        | inl same ↦ subst (λ k. guest_count guest (length homes) k ≤ 256 * length (row t k).owned) (sym same) (omega (arith, few, o.many))
        | inr other ↦ omega (arith, h.room l (was l other there), ap (λ (r : Row). length r.owned) (o.others l other))
      ];
    }

-- the chunks for some items have a slot for each
pub slots_for : (n items : ℕ) → n ≤ items → n ≤ 256 * chunks_for items
slots_for n items h = omega arith
