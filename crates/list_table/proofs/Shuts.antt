-- A shut is a step that the rule allows, and what it tells.
use Rattle.std.proofs.Common.{◌≡◌, ℕ, ◌+◌, ◌*◌, ◌<◌, ◌≤◌, inl, List, [], ◌∷◌, length, get_or, length-set, bit_or, sym, refl, ap, ◌∙◌, subst, arith}
use Rattle.std.specs.Prelude.{Option}
use Rattle.list_machine.specs.Words.{Word, decode, raised}
use Rattle.list_machine.specs.State.{Words, put_claim}
use Rattle.list_machine.specs.Facts.{IsAt}
use Rattle.list_machine.specs.Layouts.{words_of}
use Rattle.list_machine.specs.Machine.{shuts}
use Rattle.list_machine.specs.Steps.{with_stage}
use Rattle.list_machine.specs.declared.views.Fact.{Fact}
use Rattle.list_machine.specs.declared.views.Fact.TheVariants.{Closed}
use Rattle.list_machine.specs.declared.views.Stage.TheVariants.{Open, Swept}
use Rattle.list_machine.specs.declared.views.Leaf.{Leaf}
use Rattle.list_machine.proofs.Bits.{decode-or}
use Rattle.list_machine.proofs.Lists.{at_nothing}
use Rattle.list_machine.proofs.Rows.{claim_set}
use Rattle.list_table.specs.OwnerMoves.{ledger_after_shut}
use Rattle.list_table.specs.Ledgers.{AreMarked, leaf_of}
use Rattle.list_table.specs.declared.views.Ledger.{Ledger}
use Rattle.list_table.proofs.Frames.{leaf_at, numbers_set, same_chunks, placed_stay, placed_same, open_notes, kept_leaf, one_more_fact}
use Rattle.list_table.proofs.Numbers.{claim_is}
use Rattle.list_table.proofs.Steps.{one_step, OwnerMay}

-- no slot was marked yet
none_marked : (facts : List Fact) (l : ℕ) (a : Leaf) (f : ℕ) (marked : List (Option ℕ)) → marked ≡ [] → AreMarked facts l a f 0 marked
none_marked facts l a f marked e = record {
  some = λ _. ap length e;
  all = λ le. ap length e ∙ (omega arith);
  known = λ r c k y here lt at. absurd (at_nothing (256 * r + k) y (subst (λ (ms : List (Option ℕ)). IsAt ms (256 * r + k) y) e at));
}

-- what a shut tells
pub record ShutTold (g : Ledger) (l n : ℕ) (h : Ledger) : Type 0 where
  pub ledger_is : h ≡ ledger_after_shut g l (decode n).value
  pub few : (decode n).value ≤ (leaf_of g l).granted

pub shut_may : (lists chunks : ℕ) (g : Ledger) (l : ℕ) → l < lists → (leaf_of g l).stage ≡ Open → OwnerMay lists chunks g l (λ n. bit_or n 9223372036854775808) (ShutTold g l)
shut_may lists chunks g l lt takes words guests s small =
    let W : Words = words_of lists chunks words in
    let n : ℕ = get_or words l 0 in
    let a : Leaf = leaf_of g l in
    let leaf = leaf_at g lists l s.leaves lt in
    let is : W.claim l ≡ decode n = claim_is lists chunks words l lt in
    let found : ℕ = (W.claim l).value in
    let a' : Leaf = with_stage a (Swept (length g.owner.book.order) found 0) in
    let facts' : List Fact = Closed l ∷ g.owner.facts in
    let few = (s.sound.shape.lists.lists l a leaf).counted in
    let wide = s.wide in (
      ledger_after_shut g l found,
      record {
        after = put_claim W l (raised (W.claim l));
        row = claim_set lists chunks words (omega arith) l (bit_or n 9223372036854775808) lt ∙ ap (put_claim W l) (decode-or n small ∙ ap raised (sym is));
        run = one_step (shuts l a leaf takes);
        leaves = length-set g.owner.book.leaves l a';
        numbers = numbers_set chunks g.owner.book.leaves l a a' s.numbers leaf (λ d has. inl (same_chunks a a' refl refl d has));
        items = s.items;
        kept = kept_leaf g.owner.book.leaves g.notes g.owner.facts facts' l a' s.kept (λ h ne. one_more_fact (Closed l) g.owner.facts h)
            (λ t at. let old = open_notes g.owner.facts l a t takes (s.kept.noted l a t leaf at) in
            (placed_same facts' l a a' t.placed refl refl (placed_stay g.owner.facts facts' l a t.placed (one_more_fact (Closed l) g.owner.facts l) old.0), none_marked facts' l a' found t.marked old.1));
      },
      record {
        ledger_is = ap (λ (w : Word). ledger_after_shut g l w.value) is;
        few = subst (λ (w : Word). w.value ≤ a.granted) is few;
      },
    )
