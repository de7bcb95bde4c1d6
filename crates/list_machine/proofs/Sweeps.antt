-- A sweep marks the places of a shut list in order, while others file. What anybody knows to be in the list stands at one of them.
use Rattle.std.proofs.Common.{◌≡◌, ℕ, ◌+◌, ◌*◌, ◌<◌, ◌≤◌, ◌≢◌, true, false, sym, ap, ◌∙◌, subst, arith}
use mathlib.Core.Logic.{dite}
use native.Mathlib.Decide.{dec_le}
use Rattle.list_machine.specs.Words.{Word, blank}
use Rattle.list_machine.specs.Facts.{IsAt, Chain, claimed_chain, owned_chain, chain_of, HasChunk}
use Rattle.list_machine.specs.Machine.{State, IsSound}
use Rattle.list_machine.specs.Rule.{IsStanding, IsSwept}
use Rattle.list_machine.specs.Steps.{IsNextMark, IsSweptPlace}
use Rattle.list_machine.specs.Sweeps.{mark_index}
use Rattle.list_machine.specs.declared.views.Fact.TheVariants.{Item}
use Rattle.list_machine.specs.declared.views.Guest.{Guest}
use Rattle.list_machine.specs.declared.views.Leaf.{Leaf}
use Rattle.list_machine.specs.declared.views.Stage.TheVariants.{Swept}
use Rattle.list_machine.proofs.Lists.{at_same}
use Rattle.list_machine.proofs.Stages.{as_swept}

module _ (s : State) (sound : IsSound s) (l p f m : ℕ) (a : Leaf) (leaf : IsAt s.owner.book.leaves l a) (shut : a.stage ≡ Swept p f m) where
  swept : IsStanding (s.words.claim l) (s.words.first l) s.words.next s.words.slot a × IsSwept (s.words.claim l) s.words.slot a f m
  swept = as_swept (s.words.claim l) (s.words.first l) s.words.next s.words.slot a p f m shut (sound.shape.lists.lists l a leaf)

  -- a slot with an item is at a place that the sweep marks
  item_place : (y : Chain) (r c k : ℕ) → IsAt (chain_of a y) r c → k < 256 → (s.words.slot c k).value ≢ 0 → IsSweptPlace a f y (256 * r + k)
  item_place claimed_chain r c k here lt some = dite (dec_le f (256 * r + k)) (λ le. absurd (some (ap (λ (x : Word). x.value) (swept.1.past r c k here lt le)))) (λ ne. omega arith)
  item_place owned_chain r c k here lt some = dite (dec_le a.used (256 * r + k)) (λ le. absurd (some (ap (λ (x : Word). x.value) (swept.0.unused r c k here lt le)))) (λ ne. omega arith)

  -- and so is an item that a guest knows
  pub guest_item_is_swept : (j c k x q : ℕ) (v : Guest) → IsAt s.guests j v → IsAt v.facts q (Item l c k x)
      → (y : Chain) × (r : ℕ) × IsAt (chain_of a y) r c × (k < 256) × IsSweptPlace a f y (256 * r + k)
  guest_item_is_swept j c k x q v at known =
      let t = (sound.known.seats j v at).facts q (Item l c k x) known in
      let same = at_same s.owner.book.leaves l t.0 a t.1 leaf in
      let inside : HasChunk a c × (k < 256) = subst (λ (e : Leaf). HasChunk e c × (k < 256)) same t.2.within in
      let some : (s.words.slot c k).value ≢ 0 = λ e. let is : (s.words.slot c k).value ≡ x + 1 = t.2.holds in absurd (omega arith) in
      (inside.0.0, inside.0.1, inside.0.2, inside.1, item_place inside.0.0 inside.0.1 c k inside.0.2 inside.1 some)

  -- of the places that the sweep marks the first m are marked
  pub is_marked : (y : Chain) (r c k : ℕ) → IsAt (chain_of a y) r c → k < 256 → IsSweptPlace a f y (256 * r + k) → mark_index f y (256 * r + k) < m → (s.words.slot c k).high ≡ true
  is_marked claimed_chain r c k here lt place low = swept.1.marked r c k here lt place low
  is_marked owned_chain r c k here lt place low = swept.1.marked_owned r c k here lt low

  pub is_unmarked : (y : Chain) (r c k : ℕ) → IsAt (chain_of a y) r c → k < 256 → m ≤ mark_index f y (256 * r + k) → (s.words.slot c k).high ≡ false
  is_unmarked claimed_chain r c k here lt high = swept.1.unmarked r c k here lt high
  is_unmarked owned_chain r c k here lt high = swept.1.unmarked_owned r c k here lt high

  -- and no slot is that was not claimed before the shut
  pub past_is_blank : (r c k : ℕ) → IsAt a.claimed r c → k < 256 → f ≤ 256 * r + k → s.words.slot c k ≡ blank
  past_is_blank r c k here lt le = swept.1.past r c k here lt le

  -- so a blank one is not among them
  pub blank_is_ahead : (y : Chain) (r c k : ℕ) → IsAt (chain_of a y) r c → k < 256 → IsSweptPlace a f y (256 * r + k) → s.words.slot c k ≡ blank → m ≤ mark_index f y (256 * r + k)
  blank_is_ahead y r c k here lt place empty = dite (dec_le m (mark_index f y (256 * r + k))) (λ le. le)
      (λ ne. let high = is_marked y r c k here lt place (omega arith) in let no : false ≡ true = ap (λ (x : Word). x.high) (sym empty) ∙ high in absurd (cc))

  -- the slot that is marked next is at no other place
  pub next_is_alone : (y z : Chain) (r q c k : ℕ) → IsAt (chain_of a y) r c → IsAt (chain_of a z) q c → IsNextMark a f m z (256 * q + k) → mark_index f y (256 * r + k) ≡ m
  next_is_alone y z r q c k here at next =
      let e = sound.shape.lists.once l l a a y z r q c leaf leaf here at in
      (λ i. mark_index f (e.1 i) (256 * e.2 i + k)) ∙ by z next where
        by : (x : Chain) → IsNextMark a f m x (256 * q + k) → mark_index f x (256 * q + k) ≡ m
        by claimed_chain next = next.0
        by owned_chain next = next.0
