-- A filing and a placing are steps that the rule allows, and what they tell.
use Rattle.std.proofs.Common.{◌≡◌, ℕ, suc, ◌+◌, ◌*◌, ◌/◌, ◌%◌, ◌<◌, inl, eqb, List, [], ◌∷◌, ◌++◌, get_or, set, length-set, sym, refl, ap, ◌∙◌, subst, arith, eq-eqb, ne_eqb}
use Rattle.std.proofs.lemmas.List.{length-append}
use mathlib.Core.Logic.{dite}
use native.Mathlib.Decide.{ℕ_discrete}
use prog.Atomic.{either}
use Rattle.list_machine.specs.Words.{decode, holding}
use Rattle.list_machine.specs.State.{Words, put_slot}
use Rattle.list_machine.specs.Facts.{IsAt}
use Rattle.list_machine.specs.Layouts.{words_of, slot_place}
use Rattle.list_machine.specs.Machine.{files, misses, places}
use Rattle.list_machine.specs.Steps.{guest_with, with_one_used}
use Rattle.list_machine.specs.declared.views.Fact.{Fact}
use Rattle.list_machine.specs.declared.views.Fact.TheVariants.{Item, Empty}
use Rattle.list_machine.specs.declared.views.Leaf.{Leaf}
use Rattle.list_machine.specs.declared.views.Unfiled.TheVariants.{Nothing, Place}
use Rattle.list_machine.specs.declared.views.Guest.{Guest}
use Rattle.list_machine.proofs.Lists.{at_same, at_more}
use Rattle.list_machine.proofs.Rows.{slot_set}
use Rattle.list_table.specs.GuestMoves.{MayFile, after_file}
use Rattle.list_table.specs.OwnerMoves.{MayPlace, after_place, more_placed}
use Rattle.list_table.specs.Ledgers.{Knows, ArePlaced, leaf_of, notes_of}
use Rattle.list_table.specs.declared.views.Notes.{Notes}
use Rattle.list_table.specs.declared.views.Ledger.{Ledger}
use Rattle.list_table.proofs.Frames.{leaf_at, notes_at, numbers_set, small_slot, same_chunks, open_notes, noted_open, kept_set, one_more_fact, same_row}
use Rattle.list_table.proofs.Numbers.{decode-item, not_blank, slot_is}
use Rattle.list_table.proofs.Steps.{one_step, GuestMay, OwnerMay}

pub file_may : (lists chunks : ℕ) (v : Guest) (l i c k x : ℕ) → c < chunks → x < 4294967296 → MayFile v l i c k
    → GuestMay lists chunks v (slot_place lists chunks c k) (λ n. either (eqb n 0) (x + 1) n) (λ n u. u ≡ after_file v l c k x (eqb n 0))
file_may lists chunks v l i c k x below few may words g guests j s at small =
    let W : Words = words_of lists chunks words in
    let n : ℕ = get_or words (slot_place lists chunks c k) 0 in
    let wide = s.wide in let within = may.2 in
    let lt : k < 256 = omega arith in
    let is : W.slot c k ≡ decode n = slot_is lists chunks words c k below lt in
    let place : i ≡ 256 * (i / 256) + k = omega arith in
    let mine : v.claim ≡ Place l (256 * (i / 256) + k) = may.0 ∙ ap (Place l) place in
    dite (ℕ_discrete n 0)
    (λ hit. let turned : either (eqb n 0) (x + 1) n ≡ x + 1 = ap (λ b. either b (x + 1) n) (eq-eqb n 0 hit) in (
      guest_with v Nothing (Item l c k x ∷ v.facts),
      record {
        after = put_slot W c k (holding x);
        row = slot_set lists chunks words (omega arith) c k (either (eqb n 0) (x + 1) n) below lt ∙ ap (put_slot W c k) (ap decode turned ∙ decode-item x few);
        run = one_step (files j l (i / 256) c k x v at mine lt may.1 (is ∙ ap decode hit));
        items = small_slot W c k (holding x) s.items (omega arith);
      },
      ap (after_file v l c k x) (sym (eq-eqb n 0 hit)),
    ))
    (λ miss. let turned : either (eqb n 0) (x + 1) n ≡ n = ap (λ b. either b (x + 1) n) (ne_eqb n 0 miss) in (
      guest_with v Nothing (Empty l c k ∷ v.facts),
      record {
        after = W;
        row = ap (λ (m : ℕ). words_of lists chunks (set words (slot_place lists chunks c k) m)) turned ∙ same_row lists chunks words (slot_place lists chunks c k);
        run = one_step (misses j l (i / 256) c k v at mine lt may.1 (λ e. not_blank n small miss (sym is ∙ e)));
        items = s.items;
      },
      ap (after_file v l c k x) (sym (ne_eqb n 0 miss)),
    ))

-- the notes of a list in which one more item was placed
more_items : (facts : List Fact) (l : ℕ) (a : Leaf) (c k x : ℕ) (placed : List ℕ) → ArePlaced facts l a placed → IsAt a.owned (a.used / 256) c → k ≡ a.used % 256 → ArePlaced (Item l c k x ∷ facts) l (with_one_used a) (placed ++ x ∷ [])
more_items facts l a c k x placed p chunk slot = record {
  counted = length-append placed (x ∷ []) ∙ (let e = p.counted in omega arith);
  known = λ r d i y here lt at. at_more placed x (256 * r + i) y (Knows (Item l c k x ∷ facts) (Item l d i y)) at
      (λ old. let q = p.known r d i y here lt old in (suc q.0, q.1))
      (λ e is. let n = p.counted in
      let rank : r ≡ a.used / 256 = omega arith in
      let same : c ≡ d = at_same a.owned r c d (subst (λ (q : ℕ). IsAt a.owned q c) (sym rank) chunk) here in
      let slots : k ≡ i = omega arith in
      (0, λ t. Rattle.std.specs.Prelude.Some (Item l (same t) (slots t) (is t))));
}

pub place_may : (lists chunks : ℕ) (g : Ledger) (l c k x : ℕ) → l < lists → c < chunks → x < 4294967296 → MayPlace g l c k
    → OwnerMay lists chunks g (slot_place lists chunks c k) (λ _. x + 1) (λ _ h. h ≡ after_place g l c k x)
place_may lists chunks g l c k x lt below few may words guests s small =
    let W : Words = words_of lists chunks words in
    let a : Leaf = leaf_of g l in
    let t : Notes = notes_of g l in
    let leaf = leaf_at g lists l s.leaves lt in
    let noted = notes_at g lists l s.kept s.leaves lt in
    let slot = may.slot in
    let within : k < 256 = omega arith in
    let wide = s.wide in
    let place : a.used ≡ 256 * (a.used / 256) + k = omega arith in
    let old = open_notes g.owner.facts l a t may.takes (s.kept.noted l a t leaf noted) in (
      after_place g l c k x,
      record {
        after = put_slot W c k (holding x);
        row = slot_set lists chunks words (omega arith) c k (x + 1) below within ∙ ap (put_slot W c k) (decode-item x few);
        run = one_step (places l (a.used / 256) c k x a leaf may.takes may.chunk within place);
        leaves = length-set g.owner.book.leaves l (with_one_used a);
        numbers = numbers_set chunks g.owner.book.leaves l a (with_one_used a) s.numbers leaf (λ d has. inl (same_chunks a (with_one_used a) refl refl d has));
        items = small_slot W c k (holding x) s.items (omega arith);
        kept = kept_set g.owner.book.leaves g.notes g.owner.facts (Item l c k x ∷ g.owner.facts) l (with_one_used a) (more_placed t x) s.kept (λ h ne. one_more_fact (Item l c k x) g.owner.facts h)
            (noted_open (Item l c k x ∷ g.owner.facts) l (with_one_used a) (more_placed t x) may.takes (more_items g.owner.facts l a c k x t.placed old.0 may.chunk slot, old.1));
      },
      refl,
    )
