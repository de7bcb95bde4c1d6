-- What stays of numbers, slots and notes where one list, one slot or the facts change.
use Rattle.std.proofs.Common.{◌≡◌, ℕ, suc, ◌<◌, ◌≤◌, ◌≢◌, ◌⊎◌, ⊎_elim, List, [], ◌∷◌, length, get_or, set, length-set, sym, refl, ap, ◌∙◌, subst, arith}
use Rattle.std.specs.Prelude.{Option, Some, None}
use Rattle.std.proofs.lemmas.Option.{slice_get-get_or}
use Rattle.list_machine.specs.Words.{Word}
use Rattle.list_machine.specs.State.{Words, put_slot}
use Rattle.list_machine.specs.Facts.{IsAt, HasChunk, Chain, claimed_chain, owned_chain, chain_of, list_of}
use Rattle.list_machine.specs.Layouts.{words_of}
use lib.Seq.{set-get_or}
use Rattle.list_machine.specs.Steps.{opening_leaf}
use Rattle.list_machine.specs.declared.views.Fact.{Fact}
use Rattle.list_machine.specs.declared.views.Fact.TheVariants.{Item}
use Rattle.list_machine.specs.declared.views.Stage.{Stage}
use Rattle.list_machine.specs.declared.views.Stage.TheVariants.{Open, Swept, Cleared}
use Rattle.list_machine.specs.declared.views.Leaf.{Leaf}
use Rattle.list_machine.proofs.Lists.{at_set}
use Rattle.list_machine.proofs.Puts.{putting_slot}
use Rattle.list_table.specs.Ledgers.{Knows, shown, ArePlaced, AreMarked, IsNoted, AreKept, IsKept, no_notes, leaf_of, notes_of}
use Rattle.list_table.specs.OwnerMoves.{last_link}
use Rattle.list_machine.specs.declared.views.LinkWord.TheVariants.{OfChunk}
use Rattle.list_table.specs.Ruled.{AreSmall, AreNumbered}
use Rattle.list_table.specs.declared.views.Notes.{Notes}
use Rattle.list_table.specs.declared.views.Ledger.{Ledger}

-- the leaf and the notes of a list that is there
pub leaf_at : (g : Ledger) (lists l : ℕ) → length g.owner.book.leaves ≡ lists → l < lists → IsAt g.owner.book.leaves l (leaf_of g l)
leaf_at g lists l e lt = slice_get-get_or g.owner.book.leaves l opening_leaf (omega arith)

pub notes_at : (g : Ledger) (lists l : ℕ) → IsKept g → length g.owner.book.leaves ≡ lists → l < lists → IsAt g.notes l (notes_of g l)
notes_at g lists l kept e lt = let same = kept.each_list in slice_get-get_or g.notes l no_notes (omega arith)

-- one list changes, and its chains have no other chunks than these
pub numbers_set : (chunks : ℕ) (leaves : List Leaf) (l : ℕ) (a a' : Leaf) → AreNumbered chunks leaves → IsAt leaves l a → ((c : ℕ) → HasChunk a' c → HasChunk a c ⊎ (c < chunks)) → AreNumbered chunks (set leaves l a')
numbers_set chunks leaves l a a' s leaf more h c e at has = at_set leaves l h a' e (c < chunks) at
    (λ _ is. ⊎_elim (λ old. s l c a leaf old) (λ lt. lt) (more c (subst (λ (x : Leaf). HasChunk x c) (sym is) has)))
    (λ ne old. s h c e old has)

-- one slot changes
pub small_slot : (w : Words) (c k : ℕ) (x : Word) → AreSmall w → x.value ≤ 4294967296 → AreSmall (put_slot w c k x)
small_slot w c k x s le d j = putting_slot w.slot c k x d j (λ (y : Word). y.value ≤ 4294967296) (λ _ _. le) (λ _. s d j)

-- no fact of the list is lost
abbrev pub Stay : ℕ → List Fact → List Fact → Type 0
Stay l facts facts' = (f : Fact) → list_of f ≡ l → Knows facts f → Knows facts' f

shown_of : (l c k : ℕ) (y : Option ℕ) → list_of (shown l c k y) ≡ l
shown_of l c k (Some x) = refl
shown_of l c k None = refl

pub placed_stay : (facts facts' : List Fact) (l : ℕ) (a : Leaf) (placed : List ℕ) → Stay l facts facts' → ArePlaced facts l a placed → ArePlaced facts' l a placed
placed_stay facts facts' l a placed stay p = record { counted = p.counted; known = λ r c k x here lt at. stay (Item l c k x) refl (p.known r c k x here lt at) }

pub marked_stay : (facts facts' : List Fact) (l : ℕ) (a : Leaf) (f m : ℕ) (marked : List (Option ℕ)) → Stay l facts facts' → AreMarked facts l a f m marked → AreMarked facts' l a f m marked
marked_stay facts facts' l a f m marked stay p = record { some = p.some; all = p.all; known = λ r c k y here lt at. stay (shown l c k y) (shown_of l c k y) (p.known r c k y here lt at) }

pub noted_stay : (facts facts' : List Fact) (l : ℕ) (a : Leaf) (t : Notes) (s : Stage) → Stay l facts facts' → IsNoted facts l a t s → IsNoted facts' l a t s
noted_stay facts facts' l a t Open stay n = (placed_stay facts facts' l a t.placed stay n.0, n.1)
noted_stay facts facts' l a t (Swept p f m) stay n = (placed_stay facts facts' l a t.placed stay n.0, marked_stay facts facts' l a f m t.marked stay n.1)
noted_stay facts facts' l a t (Cleared p m) stay n = tt

-- one list changes with its notes
pub kept_set : (leaves : List Leaf) (notes : List Notes) (facts facts' : List Fact) (l : ℕ) (a' : Leaf) (t' : Notes) → AreKept leaves notes facts → ((h : ℕ) → h ≢ l → Stay h facts facts') → IsNoted facts' l a' t' a'.stage → AreKept (set leaves l a') (set notes l t') facts'
kept_set leaves notes facts facts' l a' t' kept stay new = record {
  each_list = length-set notes l t' ∙ (kept.each_list ∙ sym (length-set leaves l a'));
  noted = λ h a t at at'. at_set leaves l h a' a (IsNoted facts' h a t a.stage) at
      (λ e is. at_set notes l h t' t (IsNoted facts' h a t a.stage) at' (λ _ is'. subst (λ (z : ℕ × Leaf × Notes). IsNoted facts' z.0 z.1 z.2 z.1.stage) (λ i. (sym e i, is i, is' i)) new) (λ ne _. absurd (ne e)))
      (λ ne old. at_set notes l h t' t (IsNoted facts' h a t a.stage) at' (λ e _. absurd (ne e)) (λ _ old'. noted_stay facts facts' h a t a.stage (stay h ne) (kept.noted h a t old old')));
}

-- one list changes, and its notes stay
pub kept_leaf : (leaves : List Leaf) (notes : List Notes) (facts facts' : List Fact) (l : ℕ) (a' : Leaf) → AreKept leaves notes facts → ((h : ℕ) → h ≢ l → Stay h facts facts') → ((t : Notes) → IsAt notes l t → IsNoted facts' l a' t a'.stage) → AreKept (set leaves l a') notes facts'
kept_leaf leaves notes facts facts' l a' kept stay new = record {
  each_list = kept.each_list ∙ sym (length-set leaves l a');
  noted = λ h a t at at'. at_set leaves l h a' a (IsNoted facts' h a t a.stage) at
      (λ e is. subst (λ (z : ℕ × Leaf). IsNoted facts' z.0 z.1 t z.1.stage) (λ i. (sym e i, is i)) (new t (subst (λ (k : ℕ). IsAt notes k t) e at')))
      (λ ne old. noted_stay facts facts' h a t a.stage (stay h ne) (kept.noted h a t old at'));
}

-- one more fact
pub one_more_fact : (g : Fact) (facts : List Fact) (l : ℕ) → Stay l facts (g ∷ facts)
one_more_fact g facts l f e k = (suc k.0, k.1)

pub all_stay : (facts : List Fact) (l : ℕ) → Stay l facts facts
all_stay facts l f e k = k

-- a list whose chains are those of another has its chunks
pub same_chunks : (a a' : Leaf) → a'.claimed ≡ a.claimed → a'.owned ≡ a.owned → (c : ℕ) → HasChunk a' c → HasChunk a c
same_chunks a a' e f c has = by has.0 has.2 where
  by : (x : Chain) → IsAt (chain_of a' x) has.1 c → HasChunk a c
  by claimed_chain at = (claimed_chain, has.1, subst (λ (cs : List ℕ). IsAt cs has.1 c) e at)
  by owned_chain at = (owned_chain, has.1, subst (λ (cs : List ℕ). IsAt cs has.1 c) f at)

-- the notes of an open list
pub open_notes : (facts : List Fact) (l : ℕ) (a : Leaf) (t : Notes) → a.stage ≡ Open → IsNoted facts l a t a.stage → ArePlaced facts l a t.placed × (t.marked ≡ [])
open_notes facts l a t is n = subst (IsNoted facts l a t) is n

pub noted_open : (facts : List Fact) (l : ℕ) (a : Leaf) (t : Notes) → a.stage ≡ Open → ArePlaced facts l a t.placed × (t.marked ≡ []) → IsNoted facts l a t a.stage
noted_open facts l a t is n = subst (IsNoted facts l a t) (sym is) n

-- a list with the same owned chain has the same placed items
pub placed_same : (facts : List Fact) (l : ℕ) (a a' : Leaf) (placed : List ℕ) → a'.owned ≡ a.owned → a'.used ≡ a.used → ArePlaced facts l a placed → ArePlaced facts l a' placed
placed_same facts l a a' placed e f p = record { counted = p.counted ∙ sym f; known = λ r c k x here lt at. p.known r c k x (subst (λ (cs : List ℕ). IsAt cs r c) e here) lt at }

-- a word is written again
pub same_row : (lists chunks : ℕ) (words : List ℕ) (i : ℕ) → words_of lists chunks (set words i (get_or words i 0)) ≡ words_of lists chunks words
same_row lists chunks words i = ap (words_of lists chunks) (set-get_or words i 0)

-- a link word that is a chunk's stands behind that chunk
pub last_some : (behind : Option ℕ) (b : ℕ) → last_link behind ≡ OfChunk b → behind ≡ Some b
last_some None b e = absurd (cc)
last_some (Some d) b e = ap Some (chunk_same d b e) where
  chunk_same : (d b : ℕ) → OfChunk d ≡ OfChunk b → d ≡ b
  chunk_same d b e = cc
