-- The rule holds of a new table.
use Rattle.std.proofs.Common.{◌≡◌, ℕ, zero, suc, List, [], length, replicate, sym, refl, ap, ◌∙◌, subst, arith}
use Rattle.std.proofs.lemmas.Option.{none-some}
use Rattle.atomic_table.specs.Table.{opening as opening_table}
use Rattle.list_machine.specs.State.{Words}
use Rattle.list_machine.specs.Facts.{IsAt, chain_of}
use Rattle.list_machine.specs.Layouts.{word_count}
use Rattle.list_machine.specs.Rule.{Sound}
use Rattle.list_machine.specs.Steps.{opening, opening_leaf}
use Rattle.list_machine.specs.declared.views.Leaf.{Leaf}
use Rattle.list_machine.proofs.Lists.{at_nothing}
use Rattle.list_machine.proofs.Openings.{zero_list, all_same, no_chunks, opening_sound}
use Rattle.list_machine.proofs.Rows.{zero_row}
use Rattle.list_table.specs.Ledgers.{IsNoted, no_notes, opening_ledger}
use Rattle.list_table.specs.Ruled.{AreSmall, IsConsistent, IsRuled, IsPossible, first_view}
use Rattle.list_table.specs.declared.views.Notes.{Notes}

pub many : {A : Type 0} (n : ℕ) (a : A) → length (replicate n a) ≡ n
many zero a = refl
many (suc n) a = ap suc (many n a)

same_notes : (n k : ℕ) (t : Notes) → IsAt (replicate n no_notes) k t → no_notes ≡ t
same_notes zero k t at = absurd (none-some t at)
same_notes (suc n) zero t at = Rattle.std.proofs.lemmas.Option.same_Some no_notes t at
same_notes (suc n) (suc k) t at = same_notes n k t at

-- nothing was noted of a list with which nothing was done
nothing_noted : (l : ℕ) → IsNoted [] l opening_leaf no_notes opening_leaf.stage
nothing_noted l = (record { counted = refl; known = λ r c k x here lt at. absurd (at_nothing r c here) }, refl)

pub opening_consistent : (lists chunks : ℕ) → IsConsistent lists chunks (zero_list (suc (word_count lists chunks))) (opening_ledger lists) []
opening_consistent lists chunks =
    let row = zero_row lists chunks (suc (word_count lists chunks)) in record {
      wide = many (suc (word_count lists chunks)) 0;
      leaves = many lists opening_leaf;
      numbers = λ l c a at has. let is = all_same lists l opening_leaf a at in absurd (no_chunks has.0 has.1 c (subst (λ (b : Leaf). IsAt (chain_of b has.0) has.1 c) (sym is) has.2));
      items = subst AreSmall (sym row) (λ c k. omega arith);
      kept = record {
        each_list = many lists no_notes ∙ sym (many lists opening_leaf);
        noted = λ l a t at at'. subst (λ (z : Leaf × Notes). IsNoted [] l z.0 z.1 z.0.stage) (λ i. (all_same lists l opening_leaf a at i, same_notes lists l t at' i)) (nothing_noted l);
      };
      sound = subst (λ (w : Words). Sound w (opening lists) []) (sym row) (opening_sound lists);
    }

pub opening_possible : (lists chunks : ℕ) → IsPossible lists chunks (opening_ledger lists)
opening_possible lists chunks = record { words = zero_list (suc (word_count lists chunks)); guests = []; agrees = opening_consistent lists chunks }

pub opens : (lists chunks : ℕ) (words : List ℕ) → words ≡ zero_list (suc (word_count lists chunks)) → IsRuled lists chunks (opening_table words [] (first_view lists))
opens lists chunks words is = record { ledger = opening_ledger lists; guests = []; views = refl; agrees = subst (λ (ws : List ℕ). IsConsistent lists chunks ws (opening_ledger lists) []) (sym is) (opening_consistent lists chunks) }
