use Rattle.std.proofs.Common.{◌≡◌, ℕ, suc, ◌-◌, ◌<◌, false, List, length, Some, refl, sym, ap, ◌∙◌, subst, arith}
use Rattle.std.specs.Prelude.{slice_get}
use Rattle.list_machine.specs.Facts.{LeadsTo}
use Rattle.list_machine.specs.Steps.{with_claimed}
use Rattle.list_words.specs.Store.{Row, row, with_chunk, linked, IsNextChunk}
use Rattle.list_words.specs.declared.leaf_lists.Phase.TheVariants.{Open}
use Rattle.list_book.specs.Books.{book_row, with_taken_chunk, linked_row}
use Rattle.list_table.specs.Ledgers.{leaf_of, notes_of}
use Rattle.list_table.specs.OwnerMoves.{last_link, after_link}
use Rattle.list_table.specs.declared.views.Ledger.{Ledger}
use Rattle.chunk_lists.specs.Keepers.{IsKeeper, KnownIn, store_of}
use Rattle.list_table.specs.Tables.{OwnerValue}
use Rattle.list_book.specs.Books.{BookValue}
use Rattle.chunk_lists.proofs.Chunks.{free_chunk, next_chunk, leads_last, chain_is_short}
use Rattle.chunk_lists.proofs.Ties.{phase_is, open_below, open_phase, row_is, tied_set, store_then, same_notes, linked_tied}
use Rattle.list_table.specs.Ledgers.{Knows}
use Rattle.chunk_lists.proofs.keeper.Keeper.extend_claimed.Goals as goal

pub claimed-chain-requires : goal.claimed-chain-requires
claimed-chain-requires c =
    let i = c.self.inside in let g = i.seat.ledger in let b = i.book in let t = c.self.invariant.tied in let n = i.lists.value.lists in let m = i.lists.value.chunks in let l = c.args.list in
    let unshut = phase_is n m g b t l Open (subst (λ k. (row (store_of k) l).phase ≡ Open) (sym c.self.view_is) c.requires.takes) in
    let low = open_below n m g b t l unshut in
    let rows = t.rows in omega arith

pub overflow_cast-rank : goal.overflow_cast-rank
overflow_cast-rank c =
    let i = c.self.inside in let g = i.seat.ledger in let b = i.book in let t = c.self.invariant.tied in let n = i.lists.value.lists in let m = i.lists.value.chunks in let l = c.args.list in
    let e = c.claimed-chain.ensures in
    let few = chain_is_short b l c.numbers_are_small.ensures.total in let most = c.numbers_are_small.ensures.few_chunks in
    let long : length c.claimed-chain.result.now ≡ length (book_row b l).claimed = ap length e in omega (arith, long, few, most)

pub link-requires-clause-behind : goal.link-requires-clause-behind
link-requires-clause-behind c k e =
    let i = c.self.inside in let g = i.seat.ledger in let b = i.book in let t = c.self.invariant.tied in let n = i.lists.value.lists in let m = i.lists.value.chunks in let l = c.args.list in
    let at : slice_get (book_row b l).claimed (length (book_row b l).claimed - 1) ≡ Some k = ap (λ (cs : List ℕ). slice_get cs (length cs - 1)) (sym c.claimed-chain.ensures) ∙ (sym c.last.ensures.value ∙ (sym c.copied-behind.ensures ∙ e)) in
    let low = c.numbers_are_small.ensures.chunks false l (length (book_row b l).claimed - 1) k at in
    let all = t.chunks_is in subst (λ v. k < v.chunks) (sym c.deref.ensures) (omega (arith, low, all))

pub link-requires-clause-last : goal.link-requires-clause-last
link-requires-clause-last c =
    let i = c.self.inside in let g = i.seat.ledger in let b = i.book in let t = c.self.invariant.tied in let n = i.lists.value.lists in let m = i.lists.value.chunks in let l = c.args.list in
    let unshut = phase_is n m g b t l Open (subst (λ k. (row (store_of k) l).phase ≡ Open) (sym c.self.view_is) c.requires.takes) in
    let low = open_below n m g b t l unshut in
    let one = t.each l low in
    let chain : c.claimed-chain.result.now ≡ (leaf_of g l).claimed = c.claimed-chain.ensures ∙ sym one.claimed in
    subst (λ (cs : List ℕ). LeadsTo cs (last_link c.copied-behind.result) (length c.claimed-chain.result.now)) chain
    (leads_last c.claimed-chain.result.now c.copied-behind.result (c.copied-behind.ensures ∙ c.last.ensures.value))

pub link-requires-clause-rank : goal.link-requires-clause-rank
link-requires-clause-rank c =
    let i = c.self.inside in let g = i.seat.ledger in let b = i.book in let t = c.self.invariant.tied in let n = i.lists.value.lists in let m = i.lists.value.chunks in let l = c.args.list in
    let unshut = phase_is n m g b t l Open (subst (λ k. (row (store_of k) l).phase ≡ Open) (sym c.self.view_is) c.requires.takes) in
    let low = open_below n m g b t l unshut in
    ap length (c.claimed-chain.ensures ∙ sym (t.each l low).claimed)

pub extend_claimed-chunk-requires-clause-takes : goal.extend_claimed-chunk-requires-clause-takes
extend_claimed-chunk-requires-clause-takes c =
    let i = c.self.inside in let g = i.seat.ledger in let b = i.book in let t = c.self.invariant.tied in let n = i.lists.value.lists in let m = i.lists.value.chunks in let l = c.args.list in
    phase_is n m g b t l Open (subst (λ k. (row (store_of k) l).phase ≡ Open) (sym c.self.view_is) c.requires.takes)

pub extend_claimed-chunk-requires-clause-room : goal.extend_claimed-chunk-requires-clause-room
extend_claimed-chunk-requires-clause-room c =
    let i = c.self.inside in let g = i.seat.ledger in let b = i.book in let t = c.self.invariant.tied in let n = i.lists.value.lists in let m = i.lists.value.chunks in let l = c.args.list in
    subst (λ (r : Row). 0 < r.claimed_room) (row_is n m g b t l) (subst (λ k. 0 < (row (store_of k) l).claimed_room) (sym c.self.view_is) c.requires.room)

pub link-requires-clause-list : goal.link-requires-clause-list
link-requires-clause-list c =
    let i = c.self.inside in let g = i.seat.ledger in let b = i.book in let t = c.self.invariant.tied in let n = i.lists.value.lists in let m = i.lists.value.chunks in let l = c.args.list in
    let unshut = phase_is n m g b t l Open (subst (λ k. (row (store_of k) l).phase ≡ Open) (sym c.self.view_is) c.requires.takes) in
    let low = open_below n m g b t l unshut in
    subst (λ v. l < v.lists) (sym c.deref.ensures) low

pub link-requires-clause-chunk : goal.link-requires-clause-chunk
link-requires-clause-chunk c =
    let i = c.self.inside in let g = i.seat.ledger in let b = i.book in let t = c.self.invariant.tied in let n = i.lists.value.lists in let m = i.lists.value.chunks in let l = c.args.list in
    let low = c.extend_claimed-chunk.ensures.below in let all = t.chunks_is in subst (λ v. c.extend_claimed-chunk.result < v.chunks) (sym c.deref.ensures) (omega (arith, low, all))

pub link-requires-clause-free : goal.link-requires-clause-free
link-requires-clause-free c =
    let i = c.self.inside in let g = i.seat.ledger in let b = i.book in let t = c.self.invariant.tied in let n = i.lists.value.lists in let m = i.lists.value.chunks in let l = c.args.list in
    let unshut = phase_is n m g b t l Open (subst (λ k. (row (store_of k) l).phase ≡ Open) (sym c.self.view_is) c.requires.takes) in
    let low = open_below n m g b t l unshut in
    record { takes = (open_phase (book_row b l) (leaf_of g l) (notes_of g l) (t.each l low) unshut).0; free = free_chunk n m g b t c.extend_claimed-chunk.result c.extend_claimed-chunk.ensures.unused }

pub invariant_of-self : goal.invariant_of-self
invariant_of-self c =
    let i = c.self.inside in let g = i.seat.ledger in let b = i.book in let t = c.self.invariant.tied in let n = i.lists.value.lists in let m = i.lists.value.chunks in let l = c.args.list in
    let unshut = phase_is n m g b t l Open (subst (λ k. (row (store_of k) l).phase ≡ Open) (sym c.self.view_is) c.requires.takes) in
    let low = open_below n m g b t l unshut in
    let x = c.extend_claimed-chunk.result in
    subst {A = OwnerValue × BookValue} (λ z. IsKeeper i.lists.value z.0 z.1) (λ j. (record { name = sym c.link.ensures.name j; ledger = sym c.link.ensures.ledger j }, sym c.extend_claimed-chunk.ensures.book j)) (record {
      name = c.self.invariant.name;
      tied = tied_set n m g b t (after_link g l (last_link c.copied-behind.result) x) (with_taken_chunk b l (linked_row (book_row b l) x)) l (linked_row (book_row b l) x) (with_claimed (leaf_of g l) x) (notes_of g l) low (linked_tied (book_row b l) (leaf_of g l) (notes_of g l) x (t.each l low) unshut) (record { rows = refl; leaves = refl; notes = same_notes g l; chunks = refl; order = t.order; cleared = t.cleared; out = t.out; given = refl; granted = refl });
    })

pub returns-clause-store : goal.returns-clause-store
returns-clause-store c =
    let i = c.self.inside in let g = i.seat.ledger in let b = i.book in let t = c.self.invariant.tied in let n = i.lists.value.lists in let m = i.lists.value.chunks in let l = c.args.list in
    let unshut = phase_is n m g b t l Open (subst (λ k. (row (store_of k) l).phase ≡ Open) (sym c.self.view_is) c.requires.takes) in
    let low = open_below n m g b t l unshut in
    let x = c.extend_claimed-chunk.result in
    subst (λ k. (y : ℕ) × IsNextChunk (store_of k) y × (store_of (record { name = c.link.new.seat.name; ledger = c.link.new.seat.ledger; book = c.extend_claimed-chunk.new.self }) ≡ with_chunk (store_of k) l (linked (row (store_of k) l) y))) c.self.view_is (
      x,
      next_chunk n m g b t i.seat.name x c.extend_claimed-chunk.ensures.below c.extend_claimed-chunk.ensures.unused c.extend_claimed-chunk.ensures.least,
      (λ j. store_of (record { name = c.link.ensures.name j; ledger = c.link.ensures.ledger j; book = c.extend_claimed-chunk.ensures.book j }))
          ∙ store_then n m g b t i.seat.name (after_link g l (last_link c.copied-behind.result) x) (with_taken_chunk b l (linked_row (book_row b l) x)) l (linked_row (book_row b l) x) (with_claimed (leaf_of g l) x) (notes_of g l) (λ r. linked r x) (record { rows = refl; leaves = refl; notes = same_notes g l; chunks = refl; order = t.order; cleared = t.cleared; out = t.out; given = refl; granted = refl }) refl,
    )

pub returns-clause-known : goal.returns-clause-known
returns-clause-known c f q =
    let z = subst (λ k. Knows k.ledger.owner.facts f) (sym c.self.view_is) q in
    subst (λ (o : Ledger). Knows o.owner.facts f) (sym c.link.ensures.ledger) (suc z.0, z.1)
