-- What the owner of lists knows, by its book.
use Rattle.std.proofs.Common.{◌≡◌, ℕ, zero, suc, ◌+◌, ◌*◌, ◌<◌, inl, inr, ⊎_elim, Bool, true, false, cond, not, List, [], ◌∷◌, ◌++◌, length, set, length-set, replicate, get_or, Contains, refl, sym, ap, ◌∙◌, subst, arith}
use Rattle.std.specs.Prelude.{Option, Some, None}
use Rattle.std.proofs.lemmas.Option.{same_Some, none-some}
use Rattle.list_machine.specs.Facts.{IsAt, Chain, chain_of, HasChunk, Stands, is_shut, list_of}
use Rattle.list_machine.specs.Steps.{IsSweptPlace, opening_leaf, is_open_at, open_facts}
use Rattle.list_machine.specs.declared.views.Grant.{Grant}
use Rattle.list_machine.specs.declared.views.Fact.{Fact}
use Rattle.list_machine.specs.declared.views.Fact.TheVariants.{Item, Empty}
use Rattle.list_machine.specs.declared.views.Stage.{Stage}
use Rattle.list_machine.specs.declared.views.Stage.TheVariants.{Open as Unshut, Swept}
use Rattle.list_machine.specs.declared.views.Leaf.{Leaf}
use Rattle.list_machine.proofs.Lists.{at_below, at_same}
use Rattle.list_machine.proofs.Openings.{nothing_granted}
use Rattle.list_words.specs.Store.{Row, IsFoundAt, row_in, chunks_of, grant_rows, more_granted}
use Rattle.list_words.specs.Store.IsFoundAt.{as_placed, by_mark}
use Rattle.list_words.proofs.Places.{slice_get-joined}
use Rattle.list_words.specs.declared.leaf_lists.Phase.{Phase}
use Rattle.list_words.specs.declared.leaf_lists.Phase.TheVariants.{Fresh, Open, Shut}
use Rattle.list_book.specs.Books.{BookRow, BookValue, book_row, chunk_in, row_chain, fresh_row, fresh_book}
use Rattle.list_table.specs.Ledgers.{Knows, IsKept, IsNoted, no_notes, leaf_of, notes_of, opening_ledger, shown}
use Rattle.list_table.specs.declared.views.Notes.{Notes}
use Rattle.list_table.specs.declared.views.Ledger.{Ledger}
use Rattle.list_table.proofs.Clears.{kept_at}
use Rattle.list_table.proofs.Frames.{leaf_at, notes_at}
use Rattle.list_table.proofs.Opens.{many}
use Rattle.chunk_lists.specs.Keepers.{claims_at, rows_of, IsDone, IsInPhase, IsTiedRow, AreTied}
use Rattle.chunk_lists.proofs.Chunks.{in_row}
use Rattle.chunk_lists.proofs.Marking.{item_noted}
use Rattle.chunk_lists.proofs.Ties.{row_is, phase_is, open_below, open_phase, shut_below}

-- a list that the owner knows to be shut has that phase
shut_phase : (r : BookRow) (a : Leaf) (s : Notes) → IsTiedRow r a s → is_shut a.stage ≡ true → r.phase ≡ Shut
shut_phase r a s one e = by r.phase refl one.phase where
  by : (p : Phase) → r.phase ≡ p → IsInPhase p r a s → r.phase ≡ Shut
  by Fresh is x = let no : false ≡ true = sym (ap (λ (b : Leaf). is_shut b.stage) x.0) ∙ e in absurd (cc)
  by Open is x = let no : false ≡ true = sym (ap is_shut x.0) ∙ e in absurd (cc)
  by Shut is x = is

-- the place of a chunk in one of the chains of a list
place_in : (r : BookRow) (i c : ℕ) → IsAt (r.claimed ++ r.owned) i c → (owned : Bool) × (q : ℕ) × IsAt (row_chain owned r) q c × (i ≡ cond owned (length r.claimed) 0 + q)
place_in r i c at = elim (slice_get-joined r.claimed r.owned i c at) [
  | inl first ↦ let e : i ≡ 0 + i = omega arith in (false, i, first, e)
  | inr second ↦ (true, second.0, second.2, second.1)
]

module _ (lists chunks : ℕ) (g : Ledger) (b : BookValue) (t : AreTied lists chunks g b) where
  -- the list with this leaf
  leaf_is : (l : ℕ) (a : Leaf) → IsAt g.owner.book.leaves l a → (l < lists) × (a ≡ leaf_of g l)
  leaf_is l a at = let lt = at_below g.owner.book.leaves l a at in let leaves = t.leaves in let low : l < lists = omega arith in (low, at_same g.owner.book.leaves l a (leaf_of g l) at (leaf_at g lists l t.leaves low))

  pub shut_then : (l : ℕ) (a : Leaf) → IsAt g.owner.book.leaves l a → is_shut a.stage ≡ true → (row_in (rows_of b.rows g.notes) l).phase ≡ Shut
  shut_then l a at e = let x = leaf_is l a at in
      ap (λ (r : Row). r.phase) (row_is lists chunks g b t l) ∙ shut_phase (book_row b l) (leaf_of g l) (notes_of g l) (t.each l x.0) (ap (λ (z : Leaf). is_shut z.stage) (sym x.1) ∙ e)

  pub chunk_then : (l c : ℕ) (a : Leaf) → IsAt g.owner.book.leaves l a → HasChunk a c → Contains (chunks_of (row_in (rows_of b.rows g.notes) l)) c
  chunk_then l c a at has = let x = leaf_is l a at in let one = t.each l x.0 in
      subst (λ (r : Row). Contains (chunks_of r) c) (sym (row_is lists chunks g b t l)) (in_row (book_row b l) (leaf_of g l) c one.claimed one.owned (subst (λ (z : Leaf). HasChunk z c) x.1 has))

  pub claimed_then : (l r c : ℕ) (a : Leaf) → IsAt g.owner.book.leaves l a → IsAt a.claimed r c → IsAt (row_in (rows_of b.rows g.notes) l).claimed r c
  claimed_then l r c a at here = let x = leaf_is l a at in
      subst (λ (w : Row). IsAt w.claimed r c) (sym (row_is lists chunks g b t l)) (subst (λ (cs : List ℕ). IsAt cs r c) (ap (λ (z : Leaf). z.claimed) x.1 ∙ (t.each l x.0).claimed) here)

  done_now : (l : ℕ) → (row_in (rows_of b.rows g.notes) l).phase ≡ Shut → (l < lists) × IsDone (book_row b l) (leaf_of g l) (notes_of g l)
  done_now l shut =
      let phase : (book_row b l).phase ≡ Shut = phase_is lists chunks g b t l Shut shut in
      let low : l < lists = shut_below lists chunks g b t l phase in
      (low, subst (λ (p : Phase). IsInPhase p (book_row b l) (leaf_of g l) (notes_of g l)) phase (t.each l low).phase)

  pub found_now : IsKept g → ((o w d i y z : ℕ) → Knows g.owner.facts (Item o d i y) → Knows g.owner.facts (Item w d i z) → y ≡ z) → ((o w d i y : ℕ) → Knows g.owner.facts (Item o d i y) → Knows g.owner.facts (Empty w d i) → ⊥)
      → ((l c k x p f m : ℕ) (a : Leaf) → Knows g.owner.facts (Item l c k x) → IsAt g.owner.book.leaves l a → a.stage ≡ Swept p f m → (y : Chain) × (r : ℕ) × IsAt (chain_of a y) r c × (k < 256) × IsSweptPlace a f y (256 * r + k))
      → (l c k x : ℕ) (a : Leaf) → Knows g.owner.facts (Item l c k x) → IsAt g.owner.book.leaves l a → Stands a.stage → (row_in (rows_of b.rows g.notes) l).phase ≡ Shut
      → IsFoundAt (row_in (rows_of b.rows g.notes) l) c k x
  found_now kept one none swept l c k x a item at stands shut =
      let y = leaf_is l a at in
      let row = t.each l y.0 in
      let leaf = leaf_at g lists l t.leaves y.0 in
      subst (λ (r : Row). IsFoundAt r c k x) (sym (row_is lists chunks g b t l)) (⊎_elim
      (λ z. ⊎_elim
      (λ n. by_mark n.0 (subst (λ (cs : List ℕ). IsAt cs n.0 c) row.claimed n.1) n.2)
      (λ n. as_placed n.0 (subst (λ (cs : List ℕ). IsAt cs n.0 c) row.owned n.1) n.2)
      (item_noted g l z.0 z.1 (z.1 + (leaf_of g l).used) lists c k x (leaf_of g l) (notes_of g l) refl refl z.2 (omega arith) kept t.leaves y.0 one none (swept l c k x z.0 z.1 (z.1 + (leaf_of g l).used) (leaf_of g l) item leaf z.2) item))
      (λ z. absurd (subst Stands (ap (λ (e : Leaf). e.stage) y.1 ∙ z.2) stands)) (done_now l shut).1)

  -- there are as many marks as the shut found claims
  pub claims_now : IsKept g → (l : ℕ) → (row_in (rows_of b.rows g.notes) l).phase ≡ Shut → length (row_in (rows_of b.rows g.notes) l).marked ≡ claims_at (leaf_of g l).stage
  claims_now kept l shut =
      let d = done_now l shut in
      ap (λ (r : Row). length r.marked) (row_is lists chunks g b t l) ∙ ⊎_elim
      (λ z.
      let noted : IsNoted g.owner.facts l (leaf_of g l) (notes_of g l) (Swept z.0 z.1 (z.1 + (leaf_of g l).used)) =
      subst (IsNoted g.owner.facts l (leaf_of g l) (notes_of g l)) z.2 (kept.noted l (leaf_of g l) (notes_of g l) (leaf_at g lists l t.leaves d.0) (notes_at g lists l kept t.leaves d.0)) in
      noted.1.all (omega arith) ∙ ap claims_at (sym z.2))
      (λ z. ap (λ (s : Notes). length s.marked) z.5 ∙ ap claims_at (sym z.2)) d.1

  pub once_now : ((owned w : Bool) (l h r q c : ℕ) → chunk_in b.rows owned l r ≡ Some c → chunk_in b.rows w h q ≡ Some c → (owned ≡ w) × (l ≡ h) × (r ≡ q))
      → (l h i j c : ℕ) → IsAt (chunks_of (row_in (rows_of b.rows g.notes) l)) i c → IsAt (chunks_of (row_in (rows_of b.rows g.notes) h)) j c → (l ≡ h) × (i ≡ j)
  once_now once l h i j c at also =
      let p = place_in (book_row b l) i c (subst (λ (r : Row). IsAt (chunks_of r) i c) (row_is lists chunks g b t l) at) in
      let q = place_in (book_row b h) j c (subst (λ (r : Row). IsAt (chunks_of r) j c) (row_is lists chunks g b t h) also) in
      let e = once p.0 q.0 l h p.1 q.1 c p.2 q.2 in
      (e.1, p.3 ∙ ((λ k. cond (e.0 k) (length (book_row b (e.1 k)).claimed) 0 + e.2 k) ∙ sym q.3))

-- of one slot one thing is known
pub slots_one : (g : Ledger) → ((o w d i y z : ℕ) → Knows g.owner.facts (Item o d i y) → Knows g.owner.facts (Item w d i z) → y ≡ z) → ((o w d i y : ℕ) → Knows g.owner.facts (Item o d i y) → Knows g.owner.facts (Empty w d i) → ⊥)
    → (l c k : ℕ) (y z : Option ℕ) → Knows g.owner.facts (shown l c k y) → Knows g.owner.facts (shown l c k z) → y ≡ z
slots_one g one none l c k (Some x) (Some w) q also = ap (λ n. let s : Option ℕ = Some n in s) (one l l c k x w q also)
slots_one g one none l c k (Some x) None q also = absurd (none l l c k x q also)
slots_one g one none l c k None (Some w) q also = absurd (none l l c k w also q)
slots_one g one none l c k None None q also = refl

-- the start
same_get : {X : Type 0} (n l : ℕ) (x : X) → get_or (replicate n x) l x ≡ x
same_get zero l x = refl
same_get (suc n) zero x = refl
same_get (suc n) (suc l) x = same_get n l x

pub opening_tied : (lists chunks : ℕ) → AreTied lists chunks (opening_ledger lists) (fresh_book lists chunks)
opening_tied lists chunks = record {
  rows = many lists fresh_row;
  leaves = many lists opening_leaf;
  notes = many lists no_notes;
  chunks_is = refl;
  order = refl;
  cleared = refl;
  out = refl;
  given = nothing_granted lists;
  each = λ l lt. subst (λ (z : BookRow × Leaf × Notes). IsTiedRow z.0 z.1 z.2) (λ i. (sym (same_get lists l fresh_row) i, sym (same_get lists l opening_leaf) i, sym (same_get lists l no_notes) i)) (record { claimed = refl; owned = refl; granted = refl; phase = (refl, refl) });
}

-- what a newcomer knows of an open list
open_at : (leaves : List Leaf) (l : ℕ) (a : Leaf) → IsAt leaves l a → a.stage ≡ Unshut → is_open_at leaves l ≡ true
open_at [] l a at e = absurd (none-some a at)
open_at (b ∷ es) zero a at e = ap (λ (x : Leaf). not (is_shut x.stage)) (same_Some b a at) ∙ ap (λ (t : Stage). not (is_shut t)) e
open_at (b ∷ es) (suc l) a at e = open_at es l a at e

pub known_when_open : (lists chunks : ℕ) (g : Ledger) (b : BookValue) → AreTied lists chunks g b → (l c k x : ℕ) → (row_in (rows_of b.rows g.notes) l).phase ≡ Open → Knows g.owner.facts (Item l c k x) → Knows (open_facts g.owner.book.leaves g.owner.facts) (Item l c k x)
known_when_open lists chunks g b t l c k x unshut q =
    let phase = phase_is lists chunks g b t l Open unshut in
    let low = open_below lists chunks g b t l phase in
    let stage = (open_phase (book_row b l) (leaf_of g l) (notes_of g l) (t.each l low) phase).0 in
    kept_at (λ (f : Fact). is_open_at g.owner.book.leaves (list_of f)) g.owner.facts q.0 (Item l c k x) (open_at g.owner.book.leaves l (leaf_of g l) (leaf_at g lists l t.leaves low) stage) q.1

-- grants leave as many rows as there are
pub grant_rows_long : (gs : List Grant) (rows : List Row) → length (grant_rows gs rows) ≡ length rows
grant_rows_long [] rows = refl
grant_rows_long (x ∷ gs) rows = grant_rows_long gs (set rows x.list (more_granted (row_in rows x.list) x.n)) ∙ length-set rows x.list (more_granted (row_in rows x.list) x.n)
