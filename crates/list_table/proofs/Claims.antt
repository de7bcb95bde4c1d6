-- A claim is a step that the rule allows, and what it tells.
use Rattle.std.proofs.Common.{◌≡◌, ℕ, ◌+◌, ◌*◌, ◌%◌, ◌<◌, Bool, true, false, List, get_or, sym, refl, ap, ◌∙◌, subst, arith}
use Rattle.list_machine.specs.Words.{Word, decode, one_more}
use Rattle.list_machine.specs.State.{Words, put_claim}
use Rattle.list_machine.specs.Grants.{granted_in}
use Rattle.list_machine.specs.Facts.{IsAt}
use Rattle.list_machine.specs.Layouts.{words_of}
use Rattle.list_machine.specs.Machine.{claims}
use Rattle.list_machine.specs.Steps.{after_claim, KnowsChunk}
use Rattle.list_machine.specs.declared.views.Fact.TheVariants.{Item, Link, Closed, Empty}
use Rattle.list_machine.specs.declared.views.Unfiled.TheVariants.{Nothing}
use Rattle.list_machine.specs.declared.views.Guest.{Guest}
use Rattle.list_machine.specs.declared.words.Claimed.TheVariants.{Index, Shut}
use Rattle.list_machine.proofs.Frames.{must_be_out}
use Rattle.list_machine.proofs.Knowledge.{count_is_small}
use Rattle.list_machine.proofs.LinkReads.{standing_of}
use Rattle.list_machine.proofs.Lists.{at_same}
use Rattle.list_machine.proofs.Rows.{claim_set}
use Rattle.list_machine.proofs.Stages.{as_open, is_open}
use Rattle.list_table.specs.GuestMoves.{claimed_by, IsPast, IsAfterClaim}
use Rattle.list_table.specs.Ledgers.{Knows}
use Rattle.list_table.specs.Ruled.{IsConsistent}
use Rattle.list_table.specs.declared.views.Ledger.{Ledger}
use Rattle.list_table.proofs.Numbers.{decode-add, claim_is}
use Rattle.list_table.proofs.Steps.{one_step, GuestMay}

-- a claim that gave a place found no shut list
claim_low : (w : Word) (i : ℕ) → claimed_by w ≡ Index i → (w.high ≡ false) × (w.value ≡ i)
claim_low w i e = by w.high refl e where
  from : (i : ℕ) → Shut ≡ Index i → ⊥
  from i e = cc

  same : (k i : ℕ) → Index k ≡ Index i → k ≡ i
  same k i e = cc

  by : (b : Bool) → w.high ≡ b → Rattle.std.specs.Prelude.cond b Shut (Index w.value) ≡ Index i → (w.high ≡ false) × (w.value ≡ i)
  by true is e = absurd (from i e)
  by false is e = (is, same w.value i e)

module _ (lists chunks : ℕ) (words : List ℕ) (g : Ledger) (guests : List Guest) (j : ℕ) (v : Guest) (c : IsConsistent lists chunks words g guests) (at : IsAt guests j v) where
  abbrev W : Words
  W = words_of lists chunks words

  -- a place lies behind each item that the guest knows
  past_item : (l i r c' k x : ℕ) → claimed_by (W.claim l) ≡ Index i → KnowsChunk v l r c' → Knows v.facts (Item l c' k x) → 256 * r + k < i
  past_item l i r c' k x e chunk item =
      let mine = c.sound.known.seats j v at in
      let out = must_be_out W g.owner.book.leaves v mine (λ z. no_fact z.0) in
      let y = mine.facts item.0 (Item l c' k x) item.1 in
      let z = mine.facts chunk.0 (Link l chunk.1 r c') chunk.2 in
      let is : z.0 ≡ y.0 = at_same g.owner.book.leaves l z.0 y.0 z.1 y.1 in
      let stands = standing_of W g.owner guests c.sound j l v at out z.0 z.1 z.2.reached in
      let some : (W.slot c' k).value ≡ x + 1 = y.2.holds in
      let below = stands.filled r c' k z.2.within.1 y.2.within.1 (λ no. absurd (omega arith)) in
      let low = claim_low (W.claim l) i e in
      let count = low.1 in omega arith where
        no_fact : v.facts ≡ Rattle.std.specs.Prelude.[] → ⊥
        no_fact none = Rattle.list_machine.proofs.Lists.at_nothing item.0 (Item l c' k x) (subst (λ (fs : List _). IsAt fs item.0 (Item l c' k x)) none item.1)

  not_shut : (l i : ℕ) → claimed_by (W.claim l) ≡ Index i → Knows v.facts (Closed l) → ⊥
  not_shut l i e closed =
      let y = (c.sound.known.seats j v at).facts closed.0 (Closed l) closed.1 in
      let high : (W.claim l).high ≡ true = y.2.holds in
      let low = (claim_low (W.claim l) i e).0 in
      let no : true ≡ false = sym high ∙ low in absurd (cc)

  not_marked : (l i c' k : ℕ) → claimed_by (W.claim l) ≡ Index i → Knows v.facts (Empty l c' k) → ⊥
  not_marked l i c' k e empty =
      let y = (c.sound.known.seats j v at).facts empty.0 (Empty l c' k) empty.1 in
      let list = c.sound.shape.lists.lists l y.0 y.1 in
      let low = (claim_low (W.claim l) i e).0 in
      let unmarked = (as_open (W.claim l) (W.first l) W.next W.slot y.0 (is_open y.0.stage (sym list.shown ∙ low)) list).1 c' k y.2.within.0 y.2.within.1 in
      let high : (W.slot c' k).high ≡ true = ap (λ (x : Word). x.high) y.2.holds in
      let no : true ≡ false = sym high ∙ unmarked in absurd (cc)

  pub past : (l i : ℕ) → claimed_by (W.claim l) ≡ Index i → IsPast v l i
  past l i e = record {
    items = λ r c' k x chunk item. past_item l i r c' k x e chunk item;
    not_shut = not_shut l i e;
    not_marked = λ c' k. not_marked l i c' k e;
  }

-- what a claim in the list tells
pub record ClaimTold (v : Guest) (l n : ℕ) (u : Guest) : Type 0 where
  pub after : IsAfterClaim v u l (claimed_by (decode n))
  pub few : (decode n).value < 9223372036854775807

pub claim_may : (lists chunks : ℕ) (v : Guest) (l : ℕ) → l < lists → v.claim ≡ Nothing → 0 < granted_in l v.grants → GuestMay lists chunks v l (λ n. (n + 1) % 18446744073709551616) (ClaimTold v l)
claim_may lists chunks v l lt idle has words g guests j c at small =
    let W : Words = words_of lists chunks words in
    let n : ℕ = get_or words l 0 in
    let is : W.claim l ≡ decode n = claim_is lists chunks words l lt in
    let leaf = (c.sound.known.seats j v at).grants l has in
    let few = count_is_small W g.owner guests c.sound l leaf.0 leaf.1 in
    let below : (decode n).value < 9223372036854775807 = subst (λ (x : Word). x.value < 9223372036854775807) is (omega arith) in
    let wide = c.wide in (
      after_claim v l (W.claim l),
      record {
        after = put_claim W l (one_more (W.claim l));
        row = claim_set lists chunks words (omega arith) l ((n + 1) % 18446744073709551616) lt ∙ ap (put_claim W l) (decode-add n small below ∙ ap one_more (sym is));
        run = one_step (claims j l v at idle has);
        items = c.items;
      },
      record {
        after = record {
          word = W.claim l;
          seat_is = refl;
          answer_is = ap claimed_by (sym is);
          past = λ i e. past lists chunks words g guests j v c at l i (ap claimed_by is ∙ e);
        };
        few = below;
      },
    )
