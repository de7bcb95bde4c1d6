-- A mark is a step that the rule allows, and what it tells.
use Rattle.std.proofs.Common.{◌≡◌, ℕ, suc, ◌+◌, ◌-◌, ◌*◌, ◌/◌, ◌%◌, ◌<◌, ◌≤◌, inl, ⊎_elim, Bool, true, false, cond, List, [], ◌∷◌, ◌++◌, get_or, set, length-set, bit_or, sym, refl, ap, ◌∙◌, subst, arith}
use Rattle.std.specs.Prelude.{Some, None, nat_lt}
use Rattle.std.proofs.lemmas.Bool.Decides.{nat_tests}
use Rattle.std.proofs.lemmas.List.{length-append}
use Rattle.list_machine.specs.Words.{Word, decode, raised}
use Rattle.list_machine.specs.State.{Words, put_slot}
use Rattle.list_machine.specs.Facts.{IsAt, Chain, claimed_chain, owned_chain, chain_of}
use Rattle.list_machine.specs.Layouts.{words_of, slot_place}
use Rattle.list_machine.specs.Machine.{marks}
use Rattle.list_machine.specs.Rule.{IsSwept}
use Rattle.list_machine.specs.Steps.{with_leaf, with_fact, with_stage, mark_shows, IsNextMark}
use Rattle.list_machine.specs.declared.views.Fact.{Fact}
use Rattle.list_machine.specs.declared.views.Fact.TheVariants.{Item, Empty}
use Rattle.list_machine.specs.declared.views.Stage.TheVariants.{Swept}
use Rattle.list_machine.specs.declared.views.Leaf.{Leaf}
use Rattle.list_machine.proofs.Bits.{decode-or}
use Rattle.list_machine.proofs.Lists.{at_same, at_more}
use Rattle.list_machine.proofs.Rows.{slot_set}
use Rattle.list_machine.proofs.Stages.{as_swept}
use Rattle.list_table.specs.OwnerMoves.{IsMarkAt, MayMark, after_mark, item_found, marked_notes, one_more_mark}
use Rattle.list_table.specs.Ledgers.{Knows, shown, ArePlaced, AreMarked, IsNoted, leaf_of, notes_of}
use Rattle.list_table.specs.declared.views.Notes.{Notes}
use Rattle.list_table.specs.declared.views.Ledger.{Ledger}
use Rattle.list_table.proofs.Frames.{leaf_at, notes_at, numbers_set, small_slot, same_chunks, placed_stay, placed_same, kept_set, one_more_fact}
use Rattle.list_table.proofs.Numbers.{slot_is}
use Rattle.list_table.proofs.Steps.{one_step, OwnerMay}

-- what a mark shows is what its note stands for
shows : (l c k : ℕ) (w : Word) → mark_shows l c k w ≡ shown l c k (item_found w)
shows l c k w = by (nat_lt 0 w.value) where
  by : (b : Bool) → cond b (Item l c k (w.value - 1)) (Empty l c k) ≡ shown l c k (cond b (Some (w.value - 1)) None)
  by true = refl
  by false = refl

module _ (facts : List Fact) (l : ℕ) (a : Leaf) (p f m c k : ℕ) (w : Word) (t : Notes) (old : IsNoted facts l a t (Swept p f m)) where
  a' : Leaf
  a' = with_stage a (Swept p f (suc m))

  abbrev facts' : List Fact
  facts' = mark_shows l c k w ∷ facts

  placed : ArePlaced facts' l (with_stage a (Swept p f (suc m))) t.placed
  placed = placed_same facts' l a (with_stage a (Swept p f (suc m))) t.placed refl refl (placed_stay facts facts' l a t.placed (one_more_fact (mark_shows l c k w) facts l) old.0)

  -- of a claimed slot
  claimed_marked : m < f → IsAt a.claimed (m / 256) c → k ≡ m % 256 → AreMarked facts' l (with_stage a (Swept p f (suc m))) f (suc m) (t.marked ++ item_found w ∷ [])
  claimed_marked lt chunk slot = record {
    some = λ le. length-append t.marked (item_found w ∷ []) ∙ (let e = old.1.some (omega arith) in omega arith);
    all = λ le. length-append t.marked (item_found w ∷ []) ∙ (let e = old.1.some (omega arith) in omega arith);
    known = λ r d i y here below at. at_more t.marked (item_found w) (256 * r + i) y (Knows facts' (shown l d i y)) at
        (λ was. let q = old.1.known r d i y here below was in (suc q.0, q.1))
        (λ e is. let n = old.1.some (omega arith) in
        let rank : r ≡ m / 256 = omega arith in
        let same : c ≡ d = at_same a.claimed r c d (subst (λ (q : ℕ). IsAt a.claimed q c) (sym rank) chunk) here in
        let slots : k ≡ i = omega arith in
        (0, ap Some (shows l c k w ∙ (λ s. shown l (same s) (slots s) (is s)))));
  }

  owned_marked : f ≤ m → AreMarked facts' l (with_stage a (Swept p f (suc m))) f (suc m) t.marked
  owned_marked le = record {
    some = λ no. absurd (omega arith);
    all = λ _. old.1.all le;
    known = λ r d i y here below at. let q = old.1.known r d i y here below at in (suc q.0, q.1);
  }

  abbrev Noted : Notes → Type 0
  Noted s = IsNoted facts' l (with_stage a (Swept p f (suc m))) s (Swept p f (suc m))

  pub noted_mark : IsMarkAt a f m c k → Noted (marked_notes (Swept p f m) t w)
  noted_mark at = ⊎_elim
      (λ z. let b : true ≡ nat_lt m f = sym (let lt = z.0 in grind (arith, nat_tests)) in subst (λ (b : Bool). Noted (cond b (record t { marked = t.marked ++ item_found w ∷ [] }) t)) b (placed, claimed_marked z.0 z.1 z.2))
      (λ z. let b : false ≡ nat_lt m f = sym (let le = z.0 in grind (arith, nat_tests)) in subst (λ (b : Bool). Noted (cond b (record t { marked = t.marked ++ item_found w ∷ [] }) t)) b (placed, owned_marked z.0)) at

-- what a mark tells
pub record MarkTold (g : Ledger) (l c k n : ℕ) (h : Ledger) : Type 0 where
  pub ledger_is : h ≡ after_mark g l c k (decode n)
  pub unmarked : (decode n).high ≡ false
  pub small : (decode n).value ≤ 4294967296

-- the place of the next mark in its chain
next_mark : (a : Leaf) (f m c k : ℕ) → IsMarkAt a f m c k → (x : Chain) × (r : ℕ) × IsAt (chain_of a x) r c × (k < 256) × IsNextMark a f m x (256 * r + k)
next_mark a f m c k at = ⊎_elim
    (λ z. let lt = z.0 in let e = z.2 in (claimed_chain, m / 256, z.1, omega arith, (omega arith, omega arith)))
    (λ z. let le = z.0 in let lt = z.1 in let e = z.3 in (owned_chain, (m - f) / 256, z.2, omega arith, (omega arith, omega arith))) at

-- the slot there is not marked yet
unmarked_next : (claim : Word) (slot : ℕ → ℕ → Word) (a : Leaf) (f m c k : ℕ) → IsSwept claim slot a f m → IsMarkAt a f m c k → (slot c k).high ≡ false
unmarked_next claim slot a f m c k swept at = ⊎_elim
    (λ z. let lt = z.0 in let e = z.2 in swept.unmarked (m / 256) c k z.1 (omega arith) (omega arith))
    (λ z. let le = z.0 in let e = z.3 in swept.unmarked_owned ((m - f) / 256) c k z.2 (omega arith) (omega arith)) at

pub mark_may : (lists chunks : ℕ) (g : Ledger) (l c k : ℕ) → l < lists → c < chunks → MayMark g l c k → OwnerMay lists chunks g (slot_place lists chunks c k) (λ n. bit_or n 9223372036854775808) (MarkTold g l c k)
mark_may lists chunks g l c k lt below may words guests s small =
    let W : Words = words_of lists chunks words in
    let i : ℕ = slot_place lists chunks c k in
    let n : ℕ = get_or words i 0 in
    let a : Leaf = leaf_of g l in
    let t : Notes = notes_of g l in
    let leaf = leaf_at g lists l s.leaves lt in
    let noted = notes_at g lists l s.kept s.leaves lt in
    let p : ℕ = may.place in let f : ℕ = may.found in let m : ℕ = may.marks in
    let next = next_mark a f m c k may.here in
    let within = next.3 in
    let is : W.slot c k ≡ decode n = slot_is lists chunks words c k below within in
    let w : Word = W.slot c k in
    let a' : Leaf = with_stage a (Swept p f (suc m)) in
    let fact : Fact = mark_shows l c k w in
    let facts' : List Fact = fact ∷ g.owner.facts in
    let old : IsNoted g.owner.facts l a t (Swept p f m) = subst (IsNoted g.owner.facts l a t) may.shut (s.kept.noted l a t leaf noted) in
    let h : Ledger = record { owner = with_fact (with_leaf g.owner l a') fact; notes = set g.notes l (marked_notes (Swept p f m) t w) } in
    let h_is : h ≡ after_mark g l c k w = λ x. record { owner = with_fact (with_leaf g.owner l (with_stage a (one_more_mark (sym may.shut x)))) fact; notes = set g.notes l (marked_notes (sym may.shut x) t w) } in
    let swept = (as_swept (W.claim l) (W.first l) W.next W.slot a p f m may.shut (s.sound.shape.lists.lists l a leaf)).1 in
    let wide = s.wide in (
      h,
      record {
        after = put_slot W c k (raised w);
        row = slot_set lists chunks words (omega arith) c k (bit_or n 9223372036854775808) below within ∙ ap (put_slot W c k) (decode-or n small ∙ ap raised (sym is));
        run = one_step (marks l p f m next.1 c k next.0 a leaf may.shut next.2 within next.4);
        leaves = length-set g.owner.book.leaves l a';
        numbers = numbers_set chunks g.owner.book.leaves l a a' s.numbers leaf (λ d has. inl (same_chunks a a' refl refl d has));
        items = small_slot W c k (raised w) s.items (s.items c k);
        kept = kept_set g.owner.book.leaves g.notes g.owner.facts facts' l a' (marked_notes (Swept p f m) t w) s.kept (λ h ne. one_more_fact fact g.owner.facts h) (noted_mark g.owner.facts l a p f m c k w t old may.here);
      },
      record {
        ledger_is = h_is ∙ ap (after_mark g l c k) is;
        unmarked = subst (λ (x : Word). x.high ≡ false) is (unmarked_next (W.claim l) W.slot a f m c k swept may.here);
        small = subst (λ (x : Word). x.value ≤ 4294967296) is (s.items c k);
      },
    )
