-- Homes while chains grow, grants are given, and filers and readers come and go.
use Rattle.std.proofs.Common.{◌≡◌, ℕ, Bool, ◌==◌, List, ◌++◌, length, Contains, refl, ap, sym, ◌∙◌, subst, arith}
use Rattle.std.specs.List.{count_by, filter_map}
use Rattle.list_machine.specs.declared.views.Grant.{Grant}
use Rattle.list_words.specs.Store.{Store, Row, IsOpen, Keeps, SameBesidesGranted, admitted, found_in, one_less, one_more, row}
use Rattle.list_words.proofs.RowLaws.{row-grant_rows}
use Rattle.item_moves.specs.Homes.{AreHomed, HasSameItems}
use Rattle.item_moves.specs.Links.{AreLinked}
use Rattle.item_moves.specs.Settled.{AreSettled}
use Rattle.item_moves.proofs.SweepLaws.{still_known}

pub linked_items : (s t : Store) (grown : ℕ → ℕ) (all : ℕ) → AreLinked s t grown all → HasSameItems s t
linked_items s t grown all h = record {
  phase = λ l. ap (λ (r : Row). r.phase) (h.rows l);
  owned = λ l. ap (λ (r : Row). r.owned) (h.rows l);
  placed = λ l. ap (λ (r : Row). r.placed) (h.rows l);
  marked = λ l. ap (λ (r : Row). r.marked) (h.rows l);
}

pub granted_items : (s : Store) (gs : List Grant) → HasSameItems s (admitted s gs)
granted_items s gs =
    let same : (l : ℕ) → SameBesidesGranted (row (admitted s gs) l) (row s l) = row-grant_rows gs s.rows in
    record { phase = λ l. (same l).phase; owned = λ l. (same l).owned; placed = λ l. (same l).placed; marked = λ l. (same l).marked }

pub out_items : (s : Store) → HasSameItems s (one_more s)
out_items s = record { phase = λ l. refl; owned = λ l. refl; placed = λ l. refl; marked = λ l. refl }

pub back_items : (s : Store) (birth : ℕ) → HasSameItems s (one_less s birth)
back_items s birth = record { phase = λ l. refl; owned = λ l. refl; placed = λ l. refl; marked = λ l. refl }

pub same_twice : (s t u : Store) → HasSameItems s t → HasSameItems t u → HasSameItems s u
same_twice s t u h k = record {
  phase = λ l. k.phase l ∙ h.phase l;
  owned = λ l. k.owned l ∙ h.owned l;
  placed = λ l. k.placed l ∙ h.placed l;
  marked = λ l. k.marked l ∙ h.marked l;
}

module _ (s t : Store) (same : HasSameItems s t) where
  was : (l : ℕ) → IsOpen t l → IsOpen s l
  was l o = sym (same.phase l) ∙ o

  pub homed_stays : (knows knows' : ℕ → ℕ → ℕ → Type 0) (guest : ℕ → ℕ → Bool) (homes : List ℕ) → AreHomed s knows guest homes → Keeps knows knows'
      → AreHomed t knows' guest homes
  homed_stays knows knows' guest homes h keeps = record {
    known = λ l x o low e. still_known knows knows' l x keeps (h.known l x (was l o) low e);
    once = λ l x o. ap (λ (xs : List ℕ). count_by (λ y. y == x) xs) (same.placed l) ∙ h.once l x (was l o);
    counted = λ l o. ap length (same.placed l) ∙ h.counted l (was l o);
    guests = λ l x o. h.guests l x (was l o);
    room = λ l o. omega (arith, h.room l (was l o), ap length (same.owned l));
  }

  pub settled_stays : (leaf : ℕ → ℕ) (covers : ℕ → ℕ → Bool) (homes left : List ℕ) → AreSettled s leaf covers homes left → AreSettled t leaf covers homes left
  unfolding AreSettled
  settled_stays leaf covers homes left old l x there among can =
      let found : found_in (row t l) ≡ found_in (row s l) = (λ i. filter_map (λ y. y) (same.marked l i) ++ same.placed l i) in
      old l x (sym (same.phase l) ∙ there) (subst (λ (xs : List ℕ). Contains xs x) found among) can
