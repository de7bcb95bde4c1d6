-- Chunks of chains, and free ones.
use Rattle.std.proofs.Common.{◌≡◌, ℕ, suc, ◌+◌, ◌-◌, ◌<◌, ◌≤◌, sum_by, List, [], ◌∷◌, inl, inr, length, sym, refl, ap, ◌∙◌, subst, arith, Contains}
use Rattle.std.specs.Prelude.{Option, Some, None, slice_get}
use Rattle.std.proofs.lemmas.Option.{none-some, get_or_from_slice_get}
use mathlib.Core.Logic.{dite}
use native.Mathlib.Decide.{dec_le}
use Rattle.std.proofs.lemmas.Bool.{cases_lt}
use Rattle.std.proofs.lemmas.List.{get_or_past}
use Rattle.std.proofs.lemmas.List.Sums.{get_or-le-sum_by}
use Rattle.std.proofs.lemmas.List.Elements.{Contains-append_left, Contains-append_right}
use Rattle.list_machine.specs.Facts.{IsAt, Chain, claimed_chain, owned_chain, chain_of, HasChunk, LeadsTo}
use Rattle.list_machine.specs.Rule.{IsFree}
use Rattle.list_machine.specs.declared.views.Leaf.{Leaf}
use Rattle.list_machine.proofs.Lists.{at_same, at_below}
use Rattle.list_words.specs.Store.{Row, chunks_of, IsNextChunk}
use Rattle.list_book.specs.Books.{BookRow, BookValue, book_row, row_chunks, row_count, fresh_row, IsInNoRow}
use Rattle.list_table.specs.Ledgers.{leaf_of}
use Rattle.list_table.specs.OwnerMoves.{last_link}
use Rattle.list_table.specs.declared.views.Ledger.{Ledger}
use Rattle.list_table.proofs.Frames.{leaf_at}
use Rattle.chunk_lists.specs.Keepers.{AreTied, store_of}
use Rattle.chunk_lists.proofs.Ties.{row_is}

-- what stands at a place is in the list
pub at_contained : (xs : List ℕ) (k x : ℕ) → IsAt xs k x → Contains xs x
at_contained xs k x at = (k, at_below xs k x at, get_or_from_slice_get xs k x x at)

-- a chunk of a chain is one of the row's
pub in_row : (r : BookRow) (a : Leaf) (c : ℕ) → a.claimed ≡ r.claimed → a.owned ≡ r.owned → HasChunk a c → Contains (row_chunks r) c
in_row r a c e f has = by has.0 has.2 where
  by : (x : Chain) → IsAt (chain_of a x) has.1 c → Contains (row_chunks r) c
  by claimed_chain at = Contains-append_left r.claimed r.owned c (at_contained r.claimed has.1 c (subst (λ (cs : List ℕ). IsAt cs has.1 c) e at))
  by owned_chain at = Contains-append_right r.claimed r.owned c (at_contained r.owned has.1 c (subst (λ (cs : List ℕ). IsAt cs has.1 c) f at))

module _ (lists chunks : ℕ) (g : Ledger) (b : BookValue) (t : AreTied lists chunks g b) where
  pub free_chunk : (c : ℕ) → IsInNoRow b c → IsFree g.owner.book.leaves c
  free_chunk c none l a leaf has =
      let lt = at_below g.owner.book.leaves l a leaf in let leaves = t.leaves in
      let below : l < lists = omega arith in
      let is = at_same g.owner.book.leaves l (leaf_of g l) a (leaf_at g lists l t.leaves below) leaf in
      let one = t.each l below in
      none l (in_row (book_row b l) (leaf_of g l) c one.claimed one.owned (subst (λ (e : Leaf). HasChunk e c) (sym is) has))

  -- the least chunk that is in no row is the next for a chain
  pub next_chunk : (name : List ℕ) (c : ℕ) → c < b.chunks → IsInNoRow b c → ((d : ℕ) → d < b.chunks → IsInNoRow b d → c ≤ d)
      → IsNextChunk (store_of (record { name = name; ledger = g; book = b })) c
  next_chunk name c low none least = record {
    below = low;
    unused = λ l has. none l (subst (λ (r : Row). Contains (chunks_of r) c) (row_is lists chunks g b t l) has);
    least = λ d away. elim (cases_lt d b.chunks) [
      | inl small ↦ least d small (λ l has. away l (subst (λ (r : Row). Contains (chunks_of r) d) (sym (row_is lists chunks g b t l)) has))
      | inr past ↦ omega (arith, low, past)
    ];
  }

-- the link word behind a chain
last_at : (x : ℕ) (xs : List ℕ) (last : Option ℕ) → last ≡ slice_get (x ∷ xs) (length xs) → LeadsTo (x ∷ xs) (last_link last) (suc (length xs))
last_at x xs None e = absurd (some x xs (sym e)) where
  some : (x : ℕ) (xs : List ℕ) → slice_get (x ∷ xs) (length xs) ≡ None → ⊥
  some x [] e = none-some x (sym e)
  some x (y ∷ ys) e = some y ys e
last_at x xs (Some c) e = (length xs, refl, sym e)

pub leads_last : (xs : List ℕ) (last : Option ℕ) → last ≡ slice_get xs (length xs - 1) → LeadsTo xs (last_link last) (length xs)
leads_last [] None e = refl
leads_last [] (Some c) e = absurd (none-some c (sym e))
leads_last (x ∷ xs) last e = last_at x xs last (e ∙ (let n : suc (length xs) - 1 ≡ length xs = omega arith in ap (slice_get (x ∷ xs)) n))

-- a chain is no longer than there are chunks
pub chain_is_short : (b : BookValue) (l : ℕ) → sum_by row_count b.rows + b.free ≡ b.chunks → length (book_row b l).claimed ≤ b.chunks
chain_is_short b l e = dite (dec_le (length b.rows) l)
    (λ past. let none : length (book_row b l).claimed ≡ 0 = ap (λ (r : BookRow). length r.claimed) (get_or_past b.rows l fresh_row past) in omega arith)
    (λ n. let one = get_or-le-sum_by row_count b.rows l fresh_row (omega arith) in omega arith)
