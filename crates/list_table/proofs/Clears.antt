-- The clearing of a list: steps that the rule allows, and what they tell.
use Rattle.std.proofs.Common.{◌≡◌, ℕ, zero, suc, ◌+◌, ◌*◌, ◌<◌, ◌≢◌, inl, Bool, true, false, cond, not, List, [], ◌∷◌, ◌++◌, length, filter, length-set, sym, refl, ap, ◌∙◌, subst, arith, ne_eqb}
use Rattle.std.proofs.lemmas.Option.{none-some, same_Some}
use Rattle.list_machine.specs.Words.{blank}
use Rattle.list_machine.specs.State.{Words, put_slot, put_link}
use Rattle.list_machine.specs.Facts.{IsAt, Chain, claimed_chain, owned_chain, chain_of, HasChunk, list_of}
use Rattle.list_machine.specs.Layouts.{words_of, link_place, slot_place}
use Rattle.list_machine.specs.Machine.{first_clears, slot_clears, link_clears, clearing_ends}
use Rattle.list_machine.specs.Steps.{with_stage, without_chains, is_kept}
use Rattle.list_machine.specs.declared.views.LinkWord.TheVariants.{OfList, OfChunk}
use Rattle.list_machine.specs.declared.views.Fact.{Fact}
use Rattle.list_machine.specs.declared.views.Fact.TheVariants.{Item, Link, Closed, Empty}
use Rattle.list_machine.specs.declared.views.Stage.TheVariants.{Cleared}
use Rattle.list_machine.specs.declared.views.Leaf.{Leaf}
use Rattle.list_machine.proofs.Lists.{at_nothing}
use Rattle.list_machine.proofs.Rows.{link_set, next_set, slot_set}
use Rattle.list_table.specs.OwnerMoves.{MayBegin, after_begin, MayClearSlot, MayClearLink, one_more_clear, after_clear, IsAllClear, after_end, ledger_with}
use Rattle.list_table.specs.Ledgers.{Knows, IsNoted, leaf_of, no_notes}
use Rattle.list_table.specs.declared.views.Ledger.{Ledger}
use Rattle.list_table.proofs.Frames.{Stay, leaf_at, numbers_set, small_slot, same_chunks, kept_leaf, kept_set, all_stay, same_row}
use Rattle.list_table.proofs.Steps.{one_step, OwnerMay}

-- an item that the test lets through stays
pub kept_at : (test : Fact → Bool) (fs : List Fact) (k : ℕ) (f : Fact) → test f ≡ true → IsAt fs k f → Knows (filter test fs) f
kept_at test [] k f is at = absurd (none-some f at)
kept_at test (g ∷ gs) k f is at = by (test g) refl k at (λ k at. kept_at test gs k f is at) where
  by : (b : Bool) → test g ≡ b → (k : ℕ) → IsAt (g ∷ gs) k f → ((k : ℕ) → IsAt gs k f → Knows (filter test gs) f) → Knows (cond b (g ∷ filter test gs) (filter test gs)) f
  by true e zero at later = (0, at)
  by true e (suc k) at later = let q = later k at in (suc q.0, q.1)
  by false e zero at later = let no : true ≡ false = sym is ∙ (ap test (sym (same_Some g f at)) ∙ e) in absurd (cc)
  by false e (suc k) at later = later k at

other_kept : (l : ℕ) (f : Fact) → list_of f ≢ l → is_kept l f ≡ true
other_kept l (Item h c k x) ne = ap not (ne_eqb h l ne)
other_kept l (Link h from r c) ne = ap not (ne_eqb h l ne)
other_kept l (Closed h) ne = refl
other_kept l (Empty h c k) ne = ap not (ne_eqb h l ne)

pub others_stay : (l : ℕ) (facts : List Fact) (h : ℕ) → h ≢ l → Stay h facts (filter (is_kept l) facts)
others_stay l facts h ne f e k = kept_at (is_kept l) facts k.0 f (other_kept l f (λ is. ne (sym e ∙ is))) k.1

-- a list at another stage has its chunks
module _ (lists chunks : ℕ) (g : Ledger) (l : ℕ) where
  abbrev a : Leaf
  a = leaf_of g l

  pub begin_may : l < lists → MayBegin g l → OwnerMay lists chunks g (link_place lists l OfList) (λ _. 0) (λ _ h. h ≡ after_begin g l)
  begin_may lt may words guests s small =
      let W : Words = words_of lists chunks words in
      let leaf = leaf_at g lists l s.leaves lt in
      let a' : Leaf = with_stage a (Cleared g.owner.book.cleared 1) in
      let wide = s.wide in (
        after_begin g l,
        record {
          after = put_link W l OfList 0;
          row = link_set lists chunks words (omega arith) l 0 OfList lt (λ c e. absurd (cc));
          run = one_step (first_clears l may.found may.marks a leaf may.shut may.ended may.unreached);
          leaves = length-set g.owner.book.leaves l a';
          numbers = numbers_set chunks g.owner.book.leaves l a a' s.numbers leaf (λ d has. inl (same_chunks a a' refl refl d has));
          items = s.items;
          kept = kept_leaf g.owner.book.leaves g.notes g.owner.facts (filter (is_kept l) g.owner.facts) l a' s.kept (λ h ne. others_stay l g.owner.facts h ne) (λ t at. tt);
        },
        refl,
      )

  -- the ledger after one more word was cleared
  cleared_is : (p n : ℕ) → a.stage ≡ Cleared p n → ledger_with g l (with_stage a (Cleared p (suc n))) ≡ after_clear g l
  cleared_is p n e = λ x. ledger_with g l (with_stage a (one_more_clear (sym e x)))

  pub clear_slot_may : (c k : ℕ) → l < lists → c < chunks → MayClearSlot g l c k → OwnerMay lists chunks g (slot_place lists chunks c k) (λ _. 0) (λ _ h. h ≡ after_clear g l)
  clear_slot_may c k lt below may words guests s small =
      let W : Words = words_of lists chunks words in
      let leaf = leaf_at g lists l s.leaves lt in
      let n : ℕ = 257 * may.rank + k + 1 in
      let a' : Leaf = with_stage a (Cleared may.place (suc n)) in
      let wide = s.wide in (
        ledger_with g l a',
        record {
          after = put_slot W c k blank;
          row = slot_set lists chunks words (omega arith) c k 0 below may.within;
          run = one_step (slot_clears l may.place n may.rank c k a leaf may.begun may.chunk may.within refl);
          leaves = length-set g.owner.book.leaves l a';
          numbers = numbers_set chunks g.owner.book.leaves l a a' s.numbers leaf (λ d has. inl (same_chunks a a' refl refl d has));
          items = small_slot W c k blank s.items (omega arith);
          kept = kept_leaf g.owner.book.leaves g.notes g.owner.facts g.owner.facts l a' s.kept (λ h ne. all_stay g.owner.facts h) (λ t at. tt);
        },
        cleared_is may.place n may.begun,
      )

  pub clear_link_may : (c : ℕ) → l < lists → c < chunks → MayClearLink g l c → OwnerMay lists chunks g (link_place lists l (OfChunk c)) (λ _. 0) (λ _ h. h ≡ after_clear g l)
  clear_link_may c lt below may words guests s small =
      let W : Words = words_of lists chunks words in
      let leaf = leaf_at g lists l s.leaves lt in
      let n : ℕ = 257 * may.rank + 257 in
      let a' : Leaf = with_stage a (Cleared may.place (suc n)) in
      let wide = s.wide in (
        ledger_with g l a',
        record {
          after = put_link W l (OfChunk c) 0;
          row = next_set lists chunks words (omega arith) l c 0 below;
          run = one_step (link_clears l may.place n may.rank c a leaf may.begun may.chunk refl);
          leaves = length-set g.owner.book.leaves l a';
          numbers = numbers_set chunks g.owner.book.leaves l a a' s.numbers leaf (λ d has. inl (same_chunks a a' refl refl d has));
          items = s.items;
          kept = kept_leaf g.owner.book.leaves g.notes g.owner.facts g.owner.facts l a' s.kept (λ h ne. all_stay g.owner.facts h) (λ t at. tt);
        },
        cleared_is may.place n may.begun,
      )

  no_chunks : (d : ℕ) → HasChunk (without_chains a) d → ⊥
  no_chunks d has = by has.0 has.2 where
    by : (x : Chain) → IsAt (chain_of (without_chains a) x) has.1 d → ⊥
    by claimed_chain at = at_nothing has.1 d at
    by owned_chain at = at_nothing has.1 d at

  pub end_may : l < lists → IsAllClear g l → OwnerMay lists chunks g 0 (λ n. n) (λ _ h. h ≡ after_end g l)
  end_may lt may words guests s small =
      let W : Words = words_of lists chunks words in
      let leaf = leaf_at g lists l s.leaves lt in (
        after_end g l,
        record {
          after = W;
          row = same_row lists chunks words 0;
          run = one_step (clearing_ends l may.place (257 * length (a.claimed ++ a.owned) + 1) a leaf may.begun refl);
          leaves = length-set g.owner.book.leaves l (without_chains a);
          numbers = numbers_set chunks g.owner.book.leaves l a (without_chains a) s.numbers leaf (λ d has. absurd (no_chunks d has));
          items = s.items;
          kept = kept_set g.owner.book.leaves g.notes g.owner.facts g.owner.facts l (without_chains a) no_notes s.kept (λ h ne. all_stay g.owner.facts h)
              (subst (IsNoted g.owner.facts l (without_chains a) no_notes) (sym may.begun) tt);
        },
        refl,
      )
