-- A read of a link and one of a slot are steps that the rule allows, and what they tell.
use Rattle.std.proofs.Common.{◌≡◌, ℕ, ◌+◌, ◌-◌, ◌%◌, ◌<◌, ◌≤◌, List, get_or, sym, refl, ap, ◌∙◌, subst, arith}
use Rattle.list_machine.specs.Words.{Word, decode, link_to}
use Rattle.list_machine.specs.State.{Words, link_at}
use Rattle.list_machine.specs.Facts.{IsAt, claimed_chain}
use Rattle.list_machine.specs.Layouts.{words_of, link_place, slot_place}
use Rattle.list_machine.specs.Machine.{Run, none, reads, state}
use Rattle.list_machine.specs.declared.views.LinkWord.{LinkWord}
use Rattle.list_machine.specs.declared.views.LinkWord.TheVariants.{OfChunk}
use Rattle.list_machine.specs.declared.views.Fact.TheVariants.{Item, Empty}
use Rattle.list_machine.specs.declared.views.Guest.{Guest}
use Rattle.list_machine.proofs.Frames.{must_be_out}
use Rattle.list_machine.proofs.Knowledge.{claim_has_chunk}
use Rattle.list_machine.proofs.LinkReads.{stated}
use Rattle.list_machine.proofs.Lists.{set_again}
use Rattle.list_table.specs.GuestMoves.{MayRead, after_read, IsSlotWord}
use Rattle.list_table.specs.Ruled.{IsConsistent}
use Rattle.list_table.specs.declared.views.Ledger.{Ledger}
use Rattle.list_table.proofs.Frames.{same_row}
use Rattle.list_table.proofs.Numbers.{link_is, slot_is}
use Rattle.list_table.proofs.Steps.{one_step, GuestMay}

-- the chunk to which a link leads
abbrev pub chunk_in : ℕ → ℕ
chunk_in n = n % 4294967296 - 1

-- what a read of a link tells
pub record FollowTold (chunks : ℕ) (v : Guest) (l : ℕ) (from : LinkWord) (r n : ℕ) (u : Guest) : Type 0 where
  pub view_is : u ≡ after_read v l from r (chunk_in n)
  pub some : 0 < n % 4294967296
  pub below : chunk_in n < chunks

pub follow_may : (lists chunks : ℕ) (v : Guest) (l r : ℕ) (from : LinkWord) → l < lists → ((c : ℕ) → from ≡ OfChunk c → c < chunks) → MayRead v l from r
    → GuestMay lists chunks v (link_place lists l from) (λ n. n) (FollowTold chunks v l from r)
follow_may lists chunks v l r from lt small_from may words g guests j s at small =
    let W : Words = words_of lists chunks words in
    let n : ℕ = get_or words (link_place lists l from) 0 in
    let is : link_at W l from ≡ n = link_is lists chunks words l from lt small_from in
    let mine = s.sound.known.seats j v at in
    let out = must_be_out W g.owner.book.leaves v mine (λ z. let e = sym may.1.1 ∙ z.1 in absurd (cc)) in
    let d = claim_has_chunk W g.owner guests s.sound j l may.1.0 r from v at may.1.1 may.0 may.1.2 in
    let c : ℕ = d.0 in let few = d.1 in
    let number : n ≡ link_to r c = sym is ∙ d.2 in
    let same : c ≡ chunk_in n = omega arith in
    let known = stated W g.owner guests s.sound j l v at out from r c may.0 d.2 in
    let below : c < chunks = s.numbers l c known.0 known.1 (claimed_chain, r, known.2.within.1) in (
      after_read v l from r c,
      record {
        after = W;
        row = same_row lists chunks words (link_place lists l from);
        run = one_step (reads j l r c from v at out may.0 d.2);
        items = s.items;
      },
      record {
        view_is = ap (after_read v l from r) same;
        some = omega arith;
        below = omega arith;
      },
    )

-- the word of a slot agrees with what the guest knows
slot_word : (lists chunks : ℕ) (words : List ℕ) (g : Ledger) (guests : List Guest) (j : ℕ) (v : Guest) (c k n : ℕ) → IsConsistent lists chunks words g guests → IsAt guests j v → (words_of lists chunks words).slot c k ≡ decode n → IsSlotWord v c k (decode n)
slot_word lists chunks words g guests j v c k n s at is = record {
  items = λ l x q. let y : ((words_of lists chunks words).slot c k).value ≡ x + 1 = ((s.sound.known.seats j v at).facts q.0 (Item l c k x) q.1).2.holds in subst (λ (w : Word). w.value ≡ x + 1) is y;
  marks = λ l q. let y = ((s.sound.known.seats j v at).facts q.0 (Empty l c k) q.1).2.holds in (ap (λ (w : Word). w.value) (sym is ∙ y), ap (λ (w : Word). w.high) (sym is ∙ y));
  small = subst (λ (w : Word). w.value ≤ 4294967296) is (s.items c k);
}

-- what a read of a slot tells
pub record SlotTold (v : Guest) (c k n : ℕ) (u : Guest) : Type 0 where
  pub view_is : u ≡ v
  pub word : IsSlotWord v c k (decode n)

pub slot_may : (lists chunks : ℕ) (v : Guest) (c k : ℕ) → c < chunks → k < 256 → GuestMay lists chunks v (slot_place lists chunks c k) (λ n. n) (SlotTold v c k)
slot_may lists chunks v c k below within words g guests j s at small =
    let W : Words = words_of lists chunks words in
    let n : ℕ = get_or words (slot_place lists chunks c k) 0 in (
      v,
      record {
        after = W;
        row = same_row lists chunks words (slot_place lists chunks c k);
        run = subst (λ (us : List Guest). Run (state W g.owner guests) (state W g.owner us)) (sym (set_again guests j v at)) none;
        items = s.items;
      },
      record { view_is = refl; word = slot_word lists chunks words g guests j v c k n s at (slot_is lists chunks words c k below within) },
    )
