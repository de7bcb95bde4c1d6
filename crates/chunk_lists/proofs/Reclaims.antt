-- The next shut list is cleared, in the book and in the ledger, and lists are cleared one after another.
use Rattle.std.proofs.Common.{◌≡◌, ℕ, suc, ◌+◌, ◌*◌, ◌<◌, inr, ⊎_elim, List, [], ◌∷◌, ◌++◌, Some, length, get_or, set, take, Contains, refl, sym, ap, ◌∙◌, subst, arith}
use Rattle.std.specs.Prelude.{Option, None, filter}
use Rattle.std.proofs.lemmas.Option.{slice_get-get_or, same_Some}
use Rattle.std.proofs.lemmas.List.{length-append}
use Rattle.std.proofs.lemmas.List.Elements.{Contains-append_left, Contains-append_right}
use Rattle.std.proofs.Math.Seq.{take-suc}
use Rattle.list_machine.specs.Facts.{IsAt, place_of}
use Rattle.list_machine.specs.Rule.{AreOrdered, IsBegun}
use Rattle.list_machine.specs.declared.views.Stage.{Stage}
use Rattle.list_machine.specs.declared.views.Stage.TheVariants.{Open as Unshut, Swept, Cleared}
use Rattle.list_machine.specs.declared.views.Leaf.{Leaf}
use Rattle.list_machine.proofs.Lists.{at_same, at_below}
use Rattle.list_words.specs.Store.{Row, Store, cleared_store, row_in, emptied, chunks_of}
use Rattle.list_words.specs.declared.leaf_lists.Phase.{Phase}
use Rattle.list_words.specs.declared.leaf_lists.Phase.TheVariants.{Fresh, Open, Shut}
use Rattle.list_words.proofs.ClearLaws.{IsClearing, clearing_more, clearing_none, contains_last}
use Rattle.list_book.specs.Books.{BookRow, BookValue, book_row, row_count, emptied_row, next_in_order, MayClearNext, with_next_cleared}
use Rattle.list_machine.specs.Steps.{is_kept}
use Rattle.list_machine.specs.declared.views.Fact.{Fact}
use Rattle.list_machine.specs.declared.views.Fact.TheVariants.{Item, Empty}
use Rattle.list_table.proofs.Clears.{others_stay}
use Rattle.list_table.specs.Ledgers.{Knows, no_notes, leaf_of, notes_of, shown}
use Rattle.list_table.specs.OwnerMoves.{MayBegin, chunks_in}
use Rattle.list_table.specs.declared.views.Notes.{Notes}
use Rattle.list_table.specs.declared.views.Ledger.{Ledger}
use Rattle.list_table.proofs.Frames.{leaf_at}
use Rattle.chunk_lists.specs.Keepers.{KeeperValue, rows_of, store_of, ShownIn, IsInPhase, IsTiedRow, AreTied}
use Rattle.chunk_lists.specs.Wipes.{cleared_ledger}
use Rattle.chunk_lists.proofs.Ties.{OneChanges, tied_set, store_then, row_is}

-- the chains of a list whose clearing has begun are empty
done_empty : (r : BookRow) (a : Leaf) (s : Notes) (p n : ℕ) → IsTiedRow r a s → a.stage ≡ Cleared p n → (a.claimed ≡ []) × (a.owned ≡ [])
done_empty r a s p n one e = by r.phase one.phase where
  by : (q : Phase) → IsInPhase q r a s → (a.claimed ≡ []) × (a.owned ≡ [])
  by Fresh x = let no : Unshut ≡ Cleared p n = sym (ap (λ (b : Leaf). b.stage) x.0) ∙ e in absurd (cc)
  by Open x = let no : Unshut ≡ Cleared p n = sym x.0 ∙ e in absurd (cc)
  by Shut x = ⊎_elim (λ y. let no : Swept y.0 y.1 (y.1 + a.used) ≡ Cleared p n = sym y.2 ∙ e in absurd (cc)) (λ y. (one.claimed ∙ y.3, one.owned ∙ y.4)) x

-- the stage of the list at this place of the order, where lists up to there are not cleared
swept_at : (t : Stage) (p : ℕ) → place_of t ≡ Some p → IsBegun p t → (f : ℕ) × (m : ℕ) × (t ≡ Swept p f m)
swept_at Unshut p e b = absurd (cc)
swept_at (Swept q f m) p e b = (f, m, λ i. Swept (same_Some q p e i) f m)
swept_at (Cleared q n) p e b = let is : q ≡ p = same_Some q p e in absurd (omega arith)

module _ (lists chunks : ℕ) (g : Ledger) (b : BookValue) (t : AreTied lists chunks g b) (ordered : AreOrdered g.owner.book.leaves g.owner.book.order g.owner.book.cleared) (may : MayClearNext b) where
  abbrev l : ℕ
  l = next_in_order b

  at : IsAt g.owner.book.order g.owner.book.cleared l
  at = subst (λ (z : List ℕ × ℕ). IsAt z.0 z.1 l) (λ i. (sym t.order i, sym t.cleared i)) (slice_get-get_or b.order b.cleared 0 may.some)

  pub next_below : l < lists
  next_below = let x = ordered.listed g.owner.book.cleared l at in let lt = at_below g.owner.book.leaves l x.0 x.1 in let leaves = t.leaves in omega arith

  pub may_begin : MayBegin g l
  may_begin =
      let x = ordered.listed g.owner.book.cleared l at in
      let is = at_same g.owner.book.leaves l x.0 (leaf_of g l) x.1 (leaf_at g lists l t.leaves next_below) in
      let y = swept_at x.0.stage g.owner.book.cleared x.2 (ordered.begun l x.0 x.1) in record {
        found = y.0;
        marks = y.1;
        shut = ap (λ (a : Leaf). a.stage) (sym is) ∙ y.2;
        ended = λ h p n a leaf e _. let lt = at_below g.owner.book.leaves h a leaf in let leaves = t.leaves in
            let below : h < lists = omega arith in
            let same = at_same g.owner.book.leaves h (leaf_of g h) a (leaf_at g lists h t.leaves below) leaf in
            done_empty (book_row b h) a (notes_of g h) p n (subst (λ (z : Leaf). IsTiedRow (book_row b h) z (notes_of g h)) same (t.each h below)) e;
        unreached = λ i le. ap (λ (os : List ℕ). get_or os i 0) t.out ∙ may.nobody i (let e = t.cleared in omega arith);
      }

  module _ (shut : (book_row b l).phase ≡ Shut) where
    abbrev cleared_leaf : Leaf
    cleared_leaf = record (leaf_of g l) { claimed = []; owned = []; stage = Cleared g.owner.book.cleared (257 * length (chunks_in (leaf_of g l)) + 1) }

    pub changes_cleared : OneChanges g (cleared_ledger g l) b (with_next_cleared b) l (emptied_row (book_row b l)) cleared_leaf no_notes
    changes_cleared = record { rows = refl; leaves = refl; notes = refl; chunks = refl; order = t.order; cleared = ap suc t.cleared; out = t.out; given = refl; granted = refl }

    emptied_tied : IsTiedRow (emptied_row (book_row b l)) cleared_leaf no_notes
    emptied_tied = record {
      claimed = refl;
      owned = refl;
      granted = (t.each l next_below).granted;
      phase = subst (λ (q : Phase). IsInPhase q (emptied_row (book_row b l)) cleared_leaf no_notes) (sym shut) (inr (g.owner.book.cleared, 257 * length (chunks_in (leaf_of g l)) + 1, refl, refl, refl, refl));
    }

    pub tied_cleared : AreTied lists chunks (cleared_ledger g l) (with_next_cleared b)
    tied_cleared = tied_set lists chunks g b t (cleared_ledger g l) (with_next_cleared b) l (emptied_row (book_row b l)) cleared_leaf no_notes next_below emptied_tied changes_cleared

    -- the store then
    pub store_cleared : (name : List ℕ) → store_of (record { name = name; ledger = cleared_ledger g l; book = with_next_cleared b })
        ≡ cleared_store (store_of (record { name = name; ledger = g; book = b })) l
    store_cleared name =
        store_then lists chunks g b t name (cleared_ledger g l) (with_next_cleared b) l (emptied_row (book_row b l)) cleared_leaf no_notes emptied changes_cleared refl
        ∙ (λ i. let s : Store = store_of (record { name = name; ledger = g; book = b }) in record s { rows = set s.rows l (emptied (row_in s.rows l)); free = s.free + count i; cleared = suc s.cleared }) where
          count : row_count (book_row b l) ≡ length (chunks_of (row_in (rows_of b.rows g.notes) l))
          count = sym (length-append (book_row b l).claimed (book_row b l).owned) ∙ ap (λ (r : Row). length (chunks_of r)) (sym (row_is lists chunks g b t l))

-- ---- lists that are cleared in turn

-- of the other lists nothing is forgotten where the facts of one are
pub slot_stays : (l : ℕ) (facts : List Fact) (h c k : ℕ) (y : Option ℕ) → (h ≡ l → ⊥) → Knows facts (shown h c k y) → Knows (filter (is_kept l) facts) (shown h c k y)
slot_stays l facts h c k (Some x) other known = others_stay l facts h other (Item h c k x) refl known
slot_stays l facts h c k None other known = others_stay l facts h other (Empty h c k) refl known

-- an owner after some of the lists that may be cleared were cleared: nothing is forgotten of the others
pub record IsClearingOf (k q : KeeperValue) : Type 0 where
  pub stores : IsClearing (store_of k) (store_of q)
  pub known : (h c j : ℕ) (y : Option ℕ) → (Contains (take q.book.cleared k.book.order) h → ⊥) → ShownIn k h c j y → ShownIn q h c j y

pub clearing_start : (k : KeeperValue) → IsClearingOf k k
clearing_start k = record { stores = clearing_none (store_of k); known = λ h c j y uncleared known. known }

pub clearing_next : (k q n : KeeperValue) (l : ℕ) → IsClearingOf k q → MayClearNext q.book → l ≡ next_in_order q.book → store_of n ≡ cleared_store (store_of q) l → (row_in (store_of q).rows l).phase ≡ Shut → l < length (store_of q).rows
    → ((h c j : ℕ) (y : Option ℕ) → (h ≡ l → ⊥) → ShownIn q h c j y → ShownIn n h c j y) → IsClearingOf k n
clearing_next k q n l done may is store shut low known =
    let order_is : q.book.order ≡ k.book.order = ap (λ (x : Store). x.order) done.stores.rest in
    let some : q.book.cleared < length k.book.order = subst (λ (xs : List ℕ). q.book.cleared < length xs) order_is may.some in
    let l_is : get_or k.book.order q.book.cleared 0 ≡ l = ap (λ (xs : List ℕ). get_or xs q.book.cleared 0) (sym order_is) ∙ sym is in
    let cleared : n.book.cleared ≡ suc q.book.cleared = ap (λ (x : Store). x.cleared) store in
    let taken : take n.book.cleared k.book.order ≡ take q.book.cleared k.book.order ++ l ∷ [] = ap (λ (j : ℕ). take j k.book.order) cleared ∙ (take-suc k.book.order q.book.cleared 0 some ∙ ap (λ j. take q.book.cleared k.book.order ++ j ∷ []) l_is) in record {
      stores = subst (IsClearing (store_of k)) (ap (cleared_store (store_of q)) (sym is) ∙ sym store) (clearing_more (store_of k) (store_of q) done.stores may.some may.nobody (subst (λ (j : ℕ). (row_in (store_of q).rows j).phase ≡ Shut) is shut) (subst (λ (j : ℕ). j < length (store_of q).rows) is low));
      known = λ h c j y uncleared was. known h c j y
          (λ same. uncleared (subst (λ (xs : List ℕ). Contains xs h) (sym taken) (Contains-append_right (take q.book.cleared k.book.order) (l ∷ []) h (contains_last l h same))))
          (done.known h c j y (λ inside. uncleared (subst (λ (xs : List ℕ). Contains xs h) (sym taken) (Contains-append_left (take q.book.cleared k.book.order) (l ∷ []) h inside))) was);
    }
