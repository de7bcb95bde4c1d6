-- A free chunk joins a chain: steps that the rule allows, and what they tell.
use Rattle.std.proofs.Common.{◌≡◌, ℕ, ◌+◌, ◌*◌, ◌<◌, ◌≤◌, ◌⊎◌, inl, inr, List, ◌∷◌, length, length-set, refl, subst, arith}
use Rattle.list_machine.specs.Words.{link_to}
use Rattle.list_machine.specs.State.{Words, put_link}
use Rattle.list_machine.specs.Facts.{IsAt, HasChunk, Chain, claimed_chain, owned_chain, chain_of, LeadsTo}
use Rattle.list_machine.specs.Layouts.{words_of, link_place}
use Rattle.list_machine.specs.Machine.{links, adopts}
use Rattle.list_machine.specs.Steps.{with_claimed, with_owned}
use Rattle.list_machine.specs.declared.views.LinkWord.{LinkWord}
use Rattle.list_machine.specs.declared.views.LinkWord.TheVariants.{OfChunk}
use Rattle.list_machine.specs.declared.views.Fact.{Fact}
use Rattle.list_machine.specs.declared.views.Fact.TheVariants.{Link}
use Rattle.list_machine.specs.declared.views.Leaf.{Leaf}
use Rattle.list_machine.proofs.Lists.{at_more, at_below}
use Rattle.list_machine.proofs.Rows.{link_set}
use Rattle.list_machine.proofs.Stages.{as_open}
use Rattle.list_table.specs.OwnerMoves.{MayExtend, after_link, after_adopt}
use Rattle.list_table.specs.Ledgers.{Knows, ArePlaced, leaf_of}
use Rattle.list_table.specs.declared.views.Ledger.{Ledger}
use Rattle.list_table.proofs.Frames.{leaf_at, numbers_set, placed_stay, placed_same, open_notes, noted_open, kept_leaf, one_more_fact, all_stay, same_row}
use Rattle.list_table.proofs.Steps.{one_step, OwnerMay}

more_claimed : (chunks : ℕ) (a : Leaf) (c d : ℕ) → c < chunks → HasChunk (with_claimed a c) d → HasChunk a d ⊎ (d < chunks)
more_claimed chunks a c d lt has = by has.0 has.2 where
  by : (x : Chain) → IsAt (chain_of (with_claimed a c) x) has.1 d → HasChunk a d ⊎ (d < chunks)
  by claimed_chain at = at_more a.claimed c has.1 d (HasChunk a d ⊎ (d < chunks)) at (λ old. inl (claimed_chain, has.1, old)) (λ _ is. inr (subst (λ (n : ℕ). n < chunks) is lt))
  by owned_chain at = inl (owned_chain, has.1, at)

more_owned : (chunks : ℕ) (a : Leaf) (c d : ℕ) → c < chunks → HasChunk (with_owned a c) d → HasChunk a d ⊎ (d < chunks)
more_owned chunks a c d lt has = by has.0 has.2 where
  by : (x : Chain) → IsAt (chain_of (with_owned a c) x) has.1 d → HasChunk a d ⊎ (d < chunks)
  by claimed_chain at = inl (claimed_chain, has.1, at)
  by owned_chain at = at_more a.owned c has.1 d (HasChunk a d ⊎ (d < chunks)) at (λ old. inl (owned_chain, has.1, old)) (λ _ is. inr (subst (λ (n : ℕ). n < chunks) is lt))

pub link_may : (lists chunks : ℕ) (g : Ledger) (l c : ℕ) (from : LinkWord) → l < lists → c < chunks → c + 1 < 4294967296 → ((b : ℕ) → from ≡ OfChunk b → b < chunks) → LeadsTo (leaf_of g l).claimed from (length (leaf_of g l).claimed) → MayExtend g l c
    → OwnerMay lists chunks g (link_place lists l from) (λ _. link_to (length (leaf_of g l).claimed) c) (λ _ h. h ≡ after_link g l from c)
link_may lists chunks g l c from lt below few small_from last may words guests s small =
    let W : Words = words_of lists chunks words in
    let a : Leaf = leaf_of g l in
    let leaf = leaf_at g lists l s.leaves lt in
    let f : Fact = Link l from (length a.claimed) c in
    let wide = s.wide in (
      after_link g l from c,
      record {
        after = put_link W l from (link_to (length a.claimed) c);
        row = link_set lists chunks words (omega arith) l (link_to (length a.claimed) c) from lt small_from;
        run = one_step (links l c from a leaf may.takes may.free few last);
        leaves = length-set g.owner.book.leaves l (with_claimed a c);
        numbers = numbers_set chunks g.owner.book.leaves l a (with_claimed a c) s.numbers leaf (λ d has. more_claimed chunks a c d below has);
        items = s.items;
        kept = kept_leaf g.owner.book.leaves g.notes g.owner.facts (f ∷ g.owner.facts) l (with_claimed a c) s.kept (λ h ne. one_more_fact f g.owner.facts h)
            (λ t at. let old = open_notes g.owner.facts l a t may.takes (s.kept.noted l a t leaf at) in
            noted_open (f ∷ g.owner.facts) l (with_claimed a c) t may.takes (placed_same (f ∷ g.owner.facts) l a (with_claimed a c) t.placed refl refl (placed_stay g.owner.facts (f ∷ g.owner.facts) l a t.placed (one_more_fact f g.owner.facts l) old.0), old.1));
      },
      refl,
    )

-- the placed items of a list with one more owned chunk
placed_longer : (facts : List Fact) (l : ℕ) (a : Leaf) (c : ℕ) (placed : List ℕ) → a.used ≤ 256 * length a.owned → ArePlaced facts l a placed → ArePlaced facts l (with_owned a c) placed
placed_longer facts l a c placed within p = record {
  counted = p.counted;
  known = λ r d k x here lt at. at_more a.owned c r d (Knows facts (Rattle.list_machine.specs.declared.views.Fact.TheVariants.Item l d k x)) here
      (λ old. p.known r d k x old lt at)
      (λ e _. let n = p.counted in let below = at_below placed (256 * r + k) x at in absurd (omega arith));
}

pub adopt_may : (lists chunks : ℕ) (g : Ledger) (l c : ℕ) → l < lists → c < chunks → c + 1 < 4294967296 → MayExtend g l c
    → OwnerMay lists chunks g 0 (λ n. n) (λ _ h. h ≡ after_adopt g l c)
adopt_may lists chunks g l c lt below few may words guests s small =
    let W : Words = words_of lists chunks words in
    let a : Leaf = leaf_of g l in
    let leaf = leaf_at g lists l s.leaves lt in
    let used = (as_open (W.claim l) (W.first l) W.next W.slot a may.takes (s.sound.shape.lists.lists l a leaf)).0.used in (
      after_adopt g l c,
      record {
        after = W;
        row = same_row lists chunks words 0;
        run = one_step (adopts l c a leaf may.takes may.free few);
        leaves = length-set g.owner.book.leaves l (with_owned a c);
        numbers = numbers_set chunks g.owner.book.leaves l a (with_owned a c) s.numbers leaf (λ d has. more_owned chunks a c d below has);
        items = s.items;
        kept = kept_leaf g.owner.book.leaves g.notes g.owner.facts g.owner.facts l (with_owned a c) s.kept (λ h ne. all_stay g.owner.facts h)
            (λ t at. let old = open_notes g.owner.facts l a t may.takes (s.kept.noted l a t leaf at) in
            noted_open g.owner.facts l (with_owned a c) t may.takes (placed_longer g.owner.facts l a c t.placed used old.0, old.1));
      },
      refl,
    )
