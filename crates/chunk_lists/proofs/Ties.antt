-- A book and a ledger that are tied, and stay so where one list changes.
use Rattle.std.proofs.Common.{◌≡◌, ℕ, ◌<◌, ◌≢◌, List, [], ◌∷◌, ◌++◌, suc, length, OnOk, OnErr, Result, Ok, Err, get_or, set, length-set, sym, refl, ap, ◌∙◌, subst, arith, get_or-set_same, get_or-set_other}
use mathlib.Core.Logic.{dite}
use native.Mathlib.Decide.{ℕ_discrete, dec_le}
use lib.Seq.{set-get_or}
use Rattle.std.proofs.lemmas.List.{get_or_past}
use Rattle.list_machine.specs.Facts.{total}
use Rattle.list_machine.specs.Steps.{opening_leaf, with_claimed, with_owned, with_one_used}
use Rattle.list_machine.specs.declared.views.Leaf.{Leaf}
use Rattle.list_machine.proofs.Lists.{total_same}
use Rattle.list_machine.specs.declared.views.Stage.TheVariants.{Open as Unshut}
use Rattle.list_words.specs.Store.{Row, row_in}
use Rattle.list_words.specs.declared.leaf_lists.Phase.{Phase}
use Rattle.list_words.specs.declared.leaf_lists.Phase.TheVariants.{Fresh, Open, Shut}
use Rattle.list_book.specs.Books.{BookRow, BookValue, book_row, fresh_row, with_book_row, opened_row, roomier_row, linked_row, lengthened_row, used_row}
use Rattle.list_table.specs.Ledgers.{IsKept, no_notes, leaf_of, notes_of}
use Rattle.list_table.specs.OwnerMoves.{after_place, more_placed}
use Rattle.list_table.specs.declared.views.Notes.{Notes}
use Rattle.list_table.specs.declared.views.Ledger.{Ledger}
use Rattle.list_table.proofs.Frames.{leaf_at, notes_at, open_notes}
use Rattle.chunk_lists.specs.Keepers.{row_of, rows_of, store_of, IsInPhase, IsTiedRow, AreTied}
use Rattle.chunk_lists.proofs.Rows.{rows_length, rows_at, rows_set}

-- item l of a list in which it was set, and any other
module _ {X : Type 0} (xs ys : List X) (l : ℕ) (x d : X) (e : ys ≡ set xs l x) where
  pub set_here : l < length xs → get_or ys l d ≡ x
  set_here lt = ap (λ (zs : List X). get_or zs l d) e ∙ get_or-set_same xs l x d lt

  pub set_there : (m : ℕ) → m ≢ l → get_or ys m d ≡ get_or xs m d
  set_there m ne = ap (λ (zs : List X). get_or zs m d) e ∙ get_or-set_other xs l m x d ne

-- what changes where one list does
pub record OneChanges (g h : Ledger) (b d : BookValue) (l : ℕ) (r : BookRow) (a : Leaf) (s : Notes) : Type 0 where
  pub rows : d.rows ≡ set b.rows l r
  pub leaves : h.owner.book.leaves ≡ set g.owner.book.leaves l a
  pub notes : h.notes ≡ set g.notes l s
  pub chunks : d.chunks ≡ b.chunks
  pub order : h.owner.book.order ≡ d.order
  pub cleared : h.owner.book.cleared ≡ d.cleared
  pub out : h.owner.out ≡ d.out
  pub given : d.given ≡ b.given
  pub granted : a.granted ≡ (leaf_of g l).granted

-- the notes of a list stand where they stand
pub same_notes : (g : Ledger) (l : ℕ) → g.notes ≡ set g.notes l (notes_of g l)
same_notes g l = sym (set-get_or g.notes l no_notes)

pub same_leaves : (g : Ledger) (l : ℕ) → g.owner.book.leaves ≡ set g.owner.book.leaves l (leaf_of g l)
same_leaves g l = sym (set-get_or g.owner.book.leaves l opening_leaf)

module _ (lists chunks : ℕ) (g : Ledger) (b : BookValue) (t : AreTied lists chunks g b) where
  pub tied_set : (h : Ledger) (d : BookValue) (l : ℕ) (r : BookRow) (a : Leaf) (s : Notes) → l < lists → IsTiedRow r a s → OneChanges g h b d l r a s → AreTied lists chunks h d
  tied_set h d l r a s lt one c =
      let rows = t.rows in let leaves = t.leaves in let notes = t.notes in record {
        rows = ap length c.rows ∙ (length-set b.rows l r ∙ t.rows);
        leaves = ap length c.leaves ∙ (length-set g.owner.book.leaves l a ∙ t.leaves);
        notes = ap length c.notes ∙ (length-set g.notes l s ∙ t.notes);
        chunks_is = c.chunks ∙ t.chunks_is;
        order = c.order;
        cleared = c.cleared;
        out = c.out;
        given = ap (total (λ (e : Leaf). e.granted)) c.leaves ∙ (total_same (λ (e : Leaf). e.granted) g.owner.book.leaves l (leaf_of g l) a (leaf_at g lists l t.leaves lt) c.granted ∙ (t.given ∙ sym c.given));
        each = λ m below. dite (ℕ_discrete m l)
            (λ e. subst (λ (k : ℕ). IsTiedRow (book_row d k) (leaf_of h k) (notes_of h k)) (sym e)
            (subst (λ (z : BookRow × Leaf × Notes). IsTiedRow z.0 z.1 z.2) (λ i. (sym (set_here b.rows d.rows l r fresh_row c.rows (omega arith)) i, sym (set_here g.owner.book.leaves h.owner.book.leaves l a opening_leaf c.leaves (omega arith)) i, sym (set_here g.notes h.notes l s no_notes c.notes (omega arith)) i)) one))
            (λ ne. subst (λ (z : BookRow × Leaf × Notes). IsTiedRow z.0 z.1 z.2) (λ i. (sym (set_there b.rows d.rows l r fresh_row c.rows m ne) i, sym (set_there g.owner.book.leaves h.owner.book.leaves l a opening_leaf c.leaves m ne) i, sym (set_there g.notes h.notes l s no_notes c.notes m ne) i)) (t.each m below));
      }

  same_long : length g.notes ≡ length b.rows
  same_long = t.notes ∙ sym t.rows

  pub rows_then : (h : Ledger) (d : BookValue) (l : ℕ) (r : BookRow) (a : Leaf) (s : Notes) → OneChanges g h b d l r a s → rows_of d.rows h.notes ≡ set (rows_of b.rows g.notes) l (row_of r s)
  rows_then h d l r a s c = (λ i. rows_of (c.rows i) (c.notes i)) ∙ rows_set b.rows g.notes l r s same_long

  pub row_is : (l : ℕ) → row_in (rows_of b.rows g.notes) l ≡ row_of (book_row b l) (notes_of g l)
  row_is l = rows_at b.rows g.notes l same_long

  pub row_below : (l : ℕ) → l < length (rows_of b.rows g.notes) → l < lists
  row_below l lt = let e = rows_length b.rows g.notes same_long in let f = t.rows in omega arith

  -- the store where one list changes to what R makes of it
  pub store_then : (name : List ℕ) (h : Ledger) (d : BookValue) (l : ℕ) (r : BookRow) (a : Leaf) (s : Notes) (R : Row → Row) → OneChanges g h b d l r a s → row_of r s ≡ R (row_of (book_row b l) (notes_of g l))
      → store_of (record { name = name; ledger = h; book = d })
      ≡ record { name = name; chunks = b.chunks; rows = set (rows_of b.rows g.notes) l (R (row_in (rows_of b.rows g.notes) l)); free = d.free; order = d.order; cleared = d.cleared; out = d.out; grants_room = 0; items_room = 0; given = b.given }
  store_then name h d l r a s R c e =
      let rows : rows_of d.rows h.notes ≡ set (rows_of b.rows g.notes) l (R (row_in (rows_of b.rows g.notes) l)) = rows_then h d l r a s c ∙ ap (set (rows_of b.rows g.notes) l) (e ∙ ap R (sym (row_is l))) in
      λ i. record { name = name; chunks = c.chunks i; rows = rows i; free = d.free; order = d.order; cleared = d.cleared; out = d.out; grants_room = 0; items_room = 0; given = c.given i }

  -- the phase of a list in the store
  pub phase_is : (l : ℕ) (p : Phase) → (row_in (rows_of b.rows g.notes) l).phase ≡ p → (book_row b l).phase ≡ p
  phase_is l p e = ap (λ (x : Row). x.phase) (sym (row_is l)) ∙ e

  begun_below : (l : ℕ) → ((book_row b l).phase ≡ Fresh → ⊥) → l < lists
  begun_below l begun = dite (dec_le (length b.rows) l)
      (λ le. absurd (begun (ap (λ (x : BookRow). x.phase) (get_or_past b.rows l fresh_row le))))
      (λ n. let rows = t.rows in omega arith)

  pub open_below : (l : ℕ) → (book_row b l).phase ≡ Open → l < lists
  open_below l e = begun_below l (λ fresh. let no : Fresh ≡ Open = sym fresh ∙ e in absurd (cc))

  pub shut_below : (l : ℕ) → (book_row b l).phase ≡ Shut → l < lists
  shut_below l e = begun_below l (λ fresh. let no : Fresh ≡ Shut = sym fresh ∙ e in absurd (cc))

-- what the owner knows of an open list
pub open_phase : (r : BookRow) (a : Leaf) (s : Notes) → IsTiedRow r a s → r.phase ≡ Open → (a.stage ≡ Unshut) × (a.used ≡ r.used)
open_phase r a s one e = subst (λ (p : Phase). IsInPhase p r a s) e one.phase

pub fresh_phase : (r : BookRow) (a : Leaf) (s : Notes) → IsTiedRow r a s → r.phase ≡ Fresh → (a ≡ opening_leaf) × (s ≡ no_notes)
fresh_phase r a s one e = subst (λ (p : Phase). IsInPhase p r a s) e one.phase

pub still_open : (r : BookRow) (a : Leaf) (s : Notes) → r.phase ≡ Open → (a.stage ≡ Unshut) × (a.used ≡ r.used) → IsInPhase r.phase r a s
still_open r a s e x = subst (λ (p : Phase). IsInPhase p r a s) (sym e) x

-- only the row in the book changes
pub book_changes : (lists chunks : ℕ) (g : Ledger) (b : BookValue) → AreTied lists chunks g b → (l : ℕ) (r : BookRow) → OneChanges g g b (with_book_row b l r) l r (leaf_of g l) (notes_of g l)
book_changes lists chunks g b t l r = record {
  rows = refl;
  leaves = same_leaves g l;
  notes = same_notes g l;
  chunks = refl;
  order = t.order;
  cleared = t.cleared;
  out = t.out;
  given = refl;
  granted = refl;
}

pub opened_tied : (r : BookRow) (a : Leaf) (s : Notes) → IsTiedRow r a s → r.phase ≡ Fresh → IsTiedRow (opened_row r) a s
opened_tied r a s one new = let x = fresh_phase r a s one new in record {
  claimed = ap (λ (e : Leaf). e.claimed) x.0;
  owned = ap (λ (e : Leaf). e.owned) x.0;
  granted = ap (λ (e : Leaf). e.granted) x.0;
  phase = (ap (λ (e : Leaf). e.stage) x.0, ap (λ (e : Leaf). e.used) x.0);
}

-- room for chunks is told by the book alone
in_phase_roomier : (p : Phase) (r : BookRow) (a : Leaf) (s : Notes) (claimed owned : ℕ) → IsInPhase p r a s → IsInPhase p (roomier_row r claimed owned) a s
in_phase_roomier Fresh r a s claimed owned x = x
in_phase_roomier Open r a s claimed owned x = x
in_phase_roomier Shut r a s claimed owned x = x

pub roomier_tied : (r : BookRow) (a : Leaf) (s : Notes) (claimed owned : ℕ) → IsTiedRow r a s → IsTiedRow (roomier_row r claimed owned) a s
roomier_tied r a s claimed owned one = record { claimed = one.claimed; owned = one.owned; granted = one.granted; phase = in_phase_roomier r.phase r a s claimed owned one.phase }

pub linked_tied : (r : BookRow) (a : Leaf) (s : Notes) (x : ℕ) → IsTiedRow r a s → r.phase ≡ Open → IsTiedRow (linked_row r x) (with_claimed a x) s
linked_tied r a s x one e = record {
  claimed = ap (λ (cs : List ℕ). cs ++ x ∷ []) one.claimed;
  owned = one.owned;
  granted = one.granted;
  phase = still_open (linked_row r x) (with_claimed a x) s e (open_phase r a s one e);
}

pub lengthened_tied : (r : BookRow) (a : Leaf) (s : Notes) (x : ℕ) → IsTiedRow r a s → r.phase ≡ Open → IsTiedRow (lengthened_row r x) (with_owned a x) s
lengthened_tied r a s x one e = record {
  claimed = one.claimed;
  owned = ap (λ (cs : List ℕ). cs ++ x ∷ []) one.owned;
  granted = one.granted;
  phase = still_open (lengthened_row r x) (with_owned a x) s e (open_phase r a s one e);
}

pub used_tied : (r : BookRow) (a : Leaf) (s : Notes) (x : ℕ) → IsTiedRow r a s → r.phase ≡ Open → IsTiedRow (used_row r) (with_one_used a) (more_placed s x)
used_tied r a s x one e = record {
  claimed = one.claimed;
  owned = one.owned;
  granted = one.granted;
  phase = still_open (used_row r) (with_one_used a) (more_placed s x) e (let y = open_phase r a s one e in (y.0, ap suc y.1));
}

module _ (lists chunks : ℕ) (g : Ledger) (b : BookValue) (t : AreTied lists chunks g b) where
  pub place_changes : (l c k x : ℕ) → OneChanges g (after_place g l c k x) b (with_book_row b l (used_row (book_row b l))) l (used_row (book_row b l)) (with_one_used (leaf_of g l)) (more_placed (notes_of g l) x)
  place_changes l c k x = record { rows = refl; leaves = refl; notes = refl; chunks = refl; order = t.order; cleared = t.cleared; out = t.out; given = refl; granted = refl }

  -- as many items were placed as slots are used
  pub placed_count : IsKept g → (l : ℕ) → l < lists → (book_row b l).phase ≡ Open → length (notes_of g l).placed ≡ (book_row b l).used
  placed_count kept l lt e =
      let x = open_phase (book_row b l) (leaf_of g l) (notes_of g l) (t.each l lt) e in
      (open_notes g.owner.facts l (leaf_of g l) (notes_of g l) x.0 (kept.noted l (leaf_of g l) (notes_of g l) (leaf_at g lists l t.leaves lt) (notes_at g lists l kept t.leaves lt))).0.counted ∙ x.1

-- what holds where a call ended well, and what where it did not
pub ok_or_err : {X Y P Q F : Type 0} (r : Result X Y) → OnOk r P → OnErr r Q → (P → F) → (Q → F) → F
ok_or_err (Ok x) p q f h = f p
ok_or_err (Err y) p q f h = h q

pub on_ok : {X Y P Q : Type 0} (r : Result X Y) → (P → Q) → OnOk r P → OnOk r Q
on_ok (Ok x) f p = f p
on_ok (Err y) f p = p
