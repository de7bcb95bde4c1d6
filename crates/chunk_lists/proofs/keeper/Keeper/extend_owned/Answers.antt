use Rattle.std.proofs.Common.{◌≡◌, ℕ, ◌<◌, refl, sym, ◌∙◌, subst, arith}
use Rattle.list_machine.specs.Steps.{with_owned}
use Rattle.list_words.specs.Store.{Row, row, with_chunk, lengthened, IsNextChunk}
use Rattle.list_words.specs.declared.leaf_lists.Phase.TheVariants.{Open}
use Rattle.list_book.specs.Books.{book_row, with_taken_chunk, lengthened_row}
use Rattle.list_table.specs.Ledgers.{leaf_of, notes_of}
use Rattle.list_table.specs.OwnerMoves.{after_adopt}
use Rattle.list_table.specs.declared.views.Ledger.{Ledger}
use Rattle.chunk_lists.specs.Keepers.{IsKeeper, KnownIn, store_of}
use Rattle.list_table.specs.Tables.{OwnerValue}
use Rattle.list_book.specs.Books.{BookValue}
use Rattle.chunk_lists.proofs.Chunks.{free_chunk, next_chunk}
use Rattle.chunk_lists.proofs.Ties.{phase_is, open_below, open_phase, row_is, tied_set, store_then, same_notes, lengthened_tied}
use Rattle.list_table.specs.Ledgers.{Knows}
use Rattle.chunk_lists.proofs.keeper.Keeper.extend_owned.Goals as goal

pub extend_owned-chunk-requires-clause-takes : goal.extend_owned-chunk-requires-clause-takes
extend_owned-chunk-requires-clause-takes c =
    let i = c.self.inside in let g = i.seat.ledger in let b = i.book in let t = c.self.invariant.tied in let n = i.lists.value.lists in let m = i.lists.value.chunks in let l = c.args.list in
    phase_is n m g b t l Open (subst (λ k. (row (store_of k) l).phase ≡ Open) (sym c.self.view_is) c.requires.takes)

pub extend_owned-chunk-requires-clause-room : goal.extend_owned-chunk-requires-clause-room
extend_owned-chunk-requires-clause-room c =
    let i = c.self.inside in let g = i.seat.ledger in let b = i.book in let t = c.self.invariant.tied in let n = i.lists.value.lists in let m = i.lists.value.chunks in let l = c.args.list in
    subst (λ (r : Row). 0 < r.owned_room) (row_is n m g b t l) (subst (λ k. 0 < (row (store_of k) l).owned_room) (sym c.self.view_is) c.requires.room)

pub adopt-requires-clause-list : goal.adopt-requires-clause-list
adopt-requires-clause-list c =
    let i = c.self.inside in let g = i.seat.ledger in let b = i.book in let t = c.self.invariant.tied in let n = i.lists.value.lists in let m = i.lists.value.chunks in let l = c.args.list in
    let unshut = phase_is n m g b t l Open (subst (λ k. (row (store_of k) l).phase ≡ Open) (sym c.self.view_is) c.requires.takes) in
    let low = open_below n m g b t l unshut in
    subst (λ v. l < v.lists) (sym c.deref.ensures) low

pub adopt-requires-clause-chunk : goal.adopt-requires-clause-chunk
adopt-requires-clause-chunk c =
    let i = c.self.inside in let g = i.seat.ledger in let b = i.book in let t = c.self.invariant.tied in let n = i.lists.value.lists in let m = i.lists.value.chunks in let l = c.args.list in
    let low = c.extend_owned-chunk.ensures.below in let all = t.chunks_is in subst (λ v. c.extend_owned-chunk.result < v.chunks) (sym c.deref.ensures) (omega (arith, low, all))

pub adopt-requires-clause-free : goal.adopt-requires-clause-free
adopt-requires-clause-free c =
    let i = c.self.inside in let g = i.seat.ledger in let b = i.book in let t = c.self.invariant.tied in let n = i.lists.value.lists in let m = i.lists.value.chunks in let l = c.args.list in
    let unshut = phase_is n m g b t l Open (subst (λ k. (row (store_of k) l).phase ≡ Open) (sym c.self.view_is) c.requires.takes) in
    let low = open_below n m g b t l unshut in
    record { takes = (open_phase (book_row b l) (leaf_of g l) (notes_of g l) (t.each l low) unshut).0; free = free_chunk n m g b t c.extend_owned-chunk.result c.extend_owned-chunk.ensures.unused }

pub invariant_of-self : goal.invariant_of-self
invariant_of-self c =
    let i = c.self.inside in let g = i.seat.ledger in let b = i.book in let t = c.self.invariant.tied in let n = i.lists.value.lists in let m = i.lists.value.chunks in let l = c.args.list in
    let unshut = phase_is n m g b t l Open (subst (λ k. (row (store_of k) l).phase ≡ Open) (sym c.self.view_is) c.requires.takes) in
    let low = open_below n m g b t l unshut in
    let x = c.extend_owned-chunk.result in
    subst {A = OwnerValue × BookValue} (λ z. IsKeeper i.lists.value z.0 z.1) (λ j. (record { name = sym c.adopt.ensures.name j; ledger = sym c.adopt.ensures.ledger j }, sym c.extend_owned-chunk.ensures.book j)) (record {
      name = c.self.invariant.name;
      tied = tied_set n m g b t (after_adopt g l x) (with_taken_chunk b l (lengthened_row (book_row b l) x)) l (lengthened_row (book_row b l) x) (with_owned (leaf_of g l) x) (notes_of g l) low (lengthened_tied (book_row b l) (leaf_of g l) (notes_of g l) x (t.each l low) unshut) (record { rows = refl; leaves = refl; notes = same_notes g l; chunks = refl; order = t.order; cleared = t.cleared; out = t.out; given = refl; granted = refl });
    })

pub returns-clause-store : goal.returns-clause-store
returns-clause-store c =
    let i = c.self.inside in let g = i.seat.ledger in let b = i.book in let t = c.self.invariant.tied in let n = i.lists.value.lists in let m = i.lists.value.chunks in let l = c.args.list in
    let unshut = phase_is n m g b t l Open (subst (λ k. (row (store_of k) l).phase ≡ Open) (sym c.self.view_is) c.requires.takes) in
    let low = open_below n m g b t l unshut in
    let x = c.extend_owned-chunk.result in
    subst (λ k. (y : ℕ) × IsNextChunk (store_of k) y × (store_of (record { name = c.adopt.new.seat.name; ledger = c.adopt.new.seat.ledger; book = c.extend_owned-chunk.new.self }) ≡ with_chunk (store_of k) l (lengthened (row (store_of k) l) y))) c.self.view_is (
      x,
      next_chunk n m g b t i.seat.name x c.extend_owned-chunk.ensures.below c.extend_owned-chunk.ensures.unused c.extend_owned-chunk.ensures.least,
      (λ j. store_of (record { name = c.adopt.ensures.name j; ledger = c.adopt.ensures.ledger j; book = c.extend_owned-chunk.ensures.book j }))
          ∙ store_then n m g b t i.seat.name (after_adopt g l x) (with_taken_chunk b l (lengthened_row (book_row b l) x)) l (lengthened_row (book_row b l) x) (with_owned (leaf_of g l) x) (notes_of g l) (λ r. lengthened r x) (record { rows = refl; leaves = refl; notes = same_notes g l; chunks = refl; order = t.order; cleared = t.cleared; out = t.out; given = refl; granted = refl }) refl,
    )

pub returns-clause-known : goal.returns-clause-known
returns-clause-known c f q =
    subst (λ (o : Ledger). Knows o.owner.facts f) (sym c.adopt.ensures.ledger) (subst (λ k. Knows k.ledger.owner.facts f) (sym c.self.view_is) q)
