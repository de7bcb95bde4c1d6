-- Rows of a book: where they stand, and that they stay sized.
use Rattle.std.proofs.Common.{◌≡◌, ◌≢◌, ℕ, ◌+◌, ◌*◌, ◌<◌, ◌≤◌, inl, inr, List, [], ◌∷◌, length, map, set, get_or, ap, refl, sym, subst, ◌∙◌, arith}
use Rattle.std.proofs.lemmas.Bool.{cases_eq, cases_lt}
use Rattle.std.proofs.lemmas.List.{get_or_default, get_or_past, get_or-set_same, get_or-set_other, length-append, map-set}
use Rattle.std.proofs.Math.ListN.{get_or-map}
use Rattle.list_words.specs.Plain.{list_in}
use Rattle.list_words.specs.declared.leaf_lists.Phase.TheVariants.{Fresh, Open, Shut}
use Rattle.list_book.specs.Books.{BookRow, IsSized, HasNoChunks, emptied_row, fresh_row, granted_row, lengthened_row, linked_row, opened_row, roomier_row, row_at, shut_row, used_row}
use Rattle.list_book.specs.BookKept.{bare_list}

-- ---- the row that a call changes

pub row_is : (rows : List BookRow) (l : ℕ) (old : BookRow) → l < length rows → old ≡ get_or rows l old → old ≡ row_at rows l
row_is rows l old low is = is ∙ get_or_default rows l old fresh_row low

-- a list that is open, or was shut, is one of the lists
pub begun_low : (rows : List BookRow) (l : ℕ) → ((row_at rows l).phase ≡ Fresh → ⊥) → l < length rows
begun_low rows l begun = elim (cases_lt l (length rows)) [
  | inl low ↦ low
  | inr high ↦ absurd (begun (ap (λ (r : BookRow). r.phase) (get_or_past rows l fresh_row high)))
]

pub open_is_not_fresh : (r : BookRow) → r.phase ≡ Open → r.phase ≡ Fresh → ⊥
open_is_not_fresh r takes fresh = differ (sym fresh ∙ takes)
  where
    differ : Fresh ≡ Open → ⊥
    differ e = cc

pub open_is_not_shut : (r : BookRow) → r.phase ≡ Open → r.phase ≡ Shut → ⊥
open_is_not_shut r takes shut_now = differ (sym shut_now ∙ takes)
  where
    differ : Shut ≡ Open → ⊥
    differ e = cc

pub shut_is_not_fresh : (r : BookRow) → r.phase ≡ Shut → r.phase ≡ Fresh → ⊥
shut_is_not_fresh r shut_now fresh = differ (sym fresh ∙ shut_now)
  where
    differ : Fresh ≡ Shut → ⊥
    differ e = cc

pub open_low : (rows : List BookRow) (l : ℕ) → (row_at rows l).phase ≡ Open → l < length rows
open_low rows l takes = begun_low rows l (open_is_not_fresh (row_at rows l) takes)

-- ---- rows after one of them was replaced

pub put_here : (P : BookRow → Type 0) (rows : List BookRow) (l m : ℕ) (b : BookRow) → l < length rows → m ≡ l → P b → P (row_at (set rows l b) m)
put_here P rows l m b low same here = subst P (sym (ap (row_at (set rows l b)) same ∙ get_or-set_same rows l b fresh_row low)) here

pub put_other : (P : BookRow → Type 0) (rows : List BookRow) (l m : ℕ) (b : BookRow) → m ≢ l → P (row_at rows m) → P (row_at (set rows l b) m)
put_other P rows l m b other there = subst P (sym (get_or-set_other rows l m b fresh_row other)) there

pub got_here : (P : BookRow → Type 0) (rows : List BookRow) (l m : ℕ) (b : BookRow) → l < length rows → m ≡ l → P (row_at (set rows l b) m) → P b
got_here P rows l m b low same here = subst P (ap (row_at (set rows l b)) same ∙ get_or-set_same rows l b fresh_row low) here

pub got_other : (P : BookRow → Type 0) (rows : List BookRow) (l m : ℕ) (b : BookRow) → m ≢ l → P (row_at (set rows l b) m) → P (row_at rows m)
got_other P rows l m b other there = subst P (get_or-set_other rows l m b fresh_row other) there

-- ---- rows as lists without items

pub bare-row : (rows : List BookRow) (l : ℕ) → list_in (map bare_list rows) l ≡ bare_list (row_at rows l)
bare-row rows l = get_or-map bare_list rows l fresh_row

pub bare-set : (rows : List BookRow) (l : ℕ) (b : BookRow) → map bare_list (set rows l b) ≡ set (map bare_list rows) l (bare_list b)
bare-set rows l b = map-set bare_list rows l b

-- ---- sizes

pub sized-set : (rows : List BookRow) (l : ℕ) (b : BookRow) → ((m : ℕ) → IsSized (row_at rows m)) → l < length rows → IsSized b → (m : ℕ) → IsSized (row_at (set rows l b) m)
sized-set rows l b sized low here m = elim (cases_eq m l) [
  | inl same ↦ put_here IsSized rows l m b low same here
  | inr other ↦ put_other IsSized rows l m b other (sized m)
]

pub sized-fresh : IsSized fresh_row
sized-fresh = record { used = omega arith; granted = λ open_now. omega arith; fresh = λ e. (refl, refl) }

pub sized-roomier : (r : BookRow) (claimed owned : ℕ) → IsSized r → IsSized (roomier_row r claimed owned)
sized-roomier r claimed owned s = record { used = s.used; granted = s.granted; fresh = s.fresh }

pub sized-opened : (r : BookRow) → IsSized (opened_row r)
sized-opened r = record { used = omega arith; granted = λ open_now. omega arith; fresh = λ e. (refl, refl) }

pub sized-linked : (r : BookRow) (c : ℕ) → r.phase ≡ Open → IsSized r → IsSized (linked_row r c)
sized-linked r c takes s = record {
  used = s.used;
  granted = λ open_now. omega (arith, s.granted open_now, length-append r.claimed (c ∷ []));
  fresh = λ fresh. absurd (open_is_not_fresh r takes fresh);
}

pub sized-lengthened : (r : BookRow) (c : ℕ) → r.phase ≡ Open → IsSized r → IsSized (lengthened_row r c)
sized-lengthened r c takes s = record {
  used = omega (arith, s.used, length-append r.owned (c ∷ []));
  granted = s.granted;
  fresh = λ fresh. absurd (open_is_not_fresh r takes fresh);
}

pub sized-used : (r : BookRow) → r.used < 256 * length r.owned → IsSized r → IsSized (used_row r)
sized-used r room s = record { used = omega (arith, room); granted = s.granted; fresh = s.fresh }

pub sized-granted : (r : BookRow) (n : ℕ) → r.granted + n ≤ 256 * length r.claimed → IsSized r → IsSized (granted_row r n)
sized-granted r n slots s = record { used = s.used; granted = λ open_now. slots; fresh = s.fresh }

pub sized-shut : (r : BookRow) → IsSized r → IsSized (shut_row r)
sized-shut r s = record { used = s.used; granted = λ open_now. absurd (open_now refl); fresh = λ e. absurd (shut_is_not_fresh (shut_row r) refl e) }

pub sized-emptied : (r : BookRow) → r.phase ≡ Shut → IsSized (emptied_row r)
sized-emptied r shut_now = record { used = omega arith; granted = λ open_now. absurd (open_now shut_now); fresh = λ e. (refl, refl) }

-- a list that was never opened, opened
pub opened_is : (r : BookRow) → IsSized r → r.phase ≡ Fresh → (let q : BookRow = record r { phase = Open } in q) ≡ opened_row r
opened_is r s fresh =
    let none : HasNoChunks r = s.fresh fresh in
    let claimed : length r.claimed ≡ 0 = ap length none.0 in
    let owned : length r.owned ≡ 0 = ap length none.1 in
    let granted : r.granted ≡ 0 = omega (arith, s.granted (λ shut_now. shut_is_not_fresh r shut_now fresh)) in
    let used : r.used ≡ 0 = omega (arith, s.used) in
    ap (λ cs. let q : BookRow = record r { phase = Open; claimed = cs } in q) none.0
    ∙ ap (λ cs. let q : BookRow = record r { phase = Open; claimed = []; owned = cs } in q) none.1
    ∙ ap (λ n. let q : BookRow = record r { phase = Open; claimed = []; owned = []; granted = n } in q) granted
    ∙ ap (λ n. let q : BookRow = record r { phase = Open; claimed = []; owned = []; granted = 0; used = n } in q) used
