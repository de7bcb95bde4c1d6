use Rattle.std.proofs.Common.{◌≡◌, ℕ, zero, suc, ◌*◌, ◌/◌, ◌%◌, ◌<◌, true, List, length, Some, refl, sym, ap, ◌∙◌, subst, arith}
use Rattle.std.specs.Prelude.{slice_get}
use Rattle.list_machine.specs.Facts.{IsAt}
use Rattle.list_machine.specs.Steps.{with_one_used}
use Rattle.list_words.specs.Store.{Row, row, with_row, placed_in}
use Rattle.list_words.specs.declared.leaf_lists.Phase.TheVariants.{Open}
use Rattle.list_book.specs.Books.{book_row, with_book_row, used_row}
use Rattle.list_table.specs.Ledgers.{leaf_of, notes_of}
use Rattle.list_table.specs.OwnerMoves.{after_place, more_placed}
use Rattle.list_table.specs.declared.views.Ledger.{Ledger}
use Rattle.chunk_lists.specs.Keepers.{IsKeeper, KnownIn, store_of}
use Rattle.list_table.specs.Tables.{OwnerValue}
use Rattle.list_book.specs.Books.{BookValue}
use Rattle.chunk_lists.proofs.Ties.{phase_is, open_below, open_phase, row_is, tied_set, store_then, used_tied, place_changes, placed_count}
use Rattle.list_table.specs.Ledgers.{Knows}
use Rattle.list_machine.specs.declared.views.Fact.TheVariants.{Item}
use Rattle.chunk_lists.proofs.keeper.Keeper.place.Goals as goal

pub use_slot-chunk-requires-clause-takes : goal.use_slot-chunk-requires-clause-takes
use_slot-chunk-requires-clause-takes c =
    let i = c.self.inside in let g = i.seat.ledger in let b = i.book in let t = c.self.invariant.tied in let n = i.lists.value.lists in let m = i.lists.value.chunks in let l = c.args.list in
    phase_is n m g b t l Open (subst (λ k. (row (store_of k) l).phase ≡ Open) (sym c.self.view_is) c.requires.takes)

pub use_slot-chunk-requires-clause-room : goal.use_slot-chunk-requires-clause-room
use_slot-chunk-requires-clause-room c =
    let i = c.self.inside in let g = i.seat.ledger in let b = i.book in let t = c.self.invariant.tied in let n = i.lists.value.lists in let m = i.lists.value.chunks in let l = c.args.list in
    let unshut = phase_is n m g b t l Open (subst (λ k. (row (store_of k) l).phase ≡ Open) (sym c.self.view_is) c.requires.takes) in
    let low = open_below n m g b t l unshut in
    let room = subst (λ (r : Row). length r.placed < 256 * length r.owned) (row_is n m g b t l) (subst (λ k. length (row (store_of k) l).placed < 256 * length (row (store_of k) l).owned) (sym c.self.view_is) c.requires.room) in
    let count = placed_count n m g b t c.notes_are_kept.ensures l low unshut in omega (arith, room, count)

pub place-requires-clause-list : goal.place-requires-clause-list
place-requires-clause-list c =
    let i = c.self.inside in let g = i.seat.ledger in let b = i.book in let t = c.self.invariant.tied in let n = i.lists.value.lists in let m = i.lists.value.chunks in let l = c.args.list in
    let unshut = phase_is n m g b t l Open (subst (λ k. (row (store_of k) l).phase ≡ Open) (sym c.self.view_is) c.requires.takes) in
    let low = open_below n m g b t l unshut in
    subst (λ v. l < v.lists) (sym c.deref.ensures) low

pub place-requires-clause-chunk : goal.place-requires-clause-chunk
place-requires-clause-chunk c =
    let i = c.self.inside in let g = i.seat.ledger in let b = i.book in let t = c.self.invariant.tied in let n = i.lists.value.lists in let m = i.lists.value.chunks in let l = c.args.list in
    let low = c.numbers_are_small.ensures.chunks true l ((book_row b l).used / 256) c.use_slot-chunk.result.0 c.use_slot-chunk.ensures.chunk in let all = t.chunks_is in subst (λ v. c.use_slot-chunk.result.0 < v.chunks) (sym c.deref.ensures) (omega (arith, low, all))

pub place-requires-clause-next : goal.place-requires-clause-next
place-requires-clause-next c =
    let i = c.self.inside in let g = i.seat.ledger in let b = i.book in let t = c.self.invariant.tied in let n = i.lists.value.lists in let m = i.lists.value.chunks in let l = c.args.list in
    let unshut = phase_is n m g b t l Open (subst (λ k. (row (store_of k) l).phase ≡ Open) (sym c.self.view_is) c.requires.takes) in
    let low = open_below n m g b t l unshut in
    let one = t.each l low in let x = open_phase (book_row b l) (leaf_of g l) (notes_of g l) one unshut in record {
      takes = x.0;
      chunk = subst (λ (z : List ℕ × ℕ). IsAt z.0 (z.1 / 256) c.use_slot-chunk.result.0) (λ j. (sym one.owned j, sym x.1 j)) c.use_slot-chunk.ensures.chunk;
      slot = c.use_slot-chunk.ensures.slot ∙ ap (λ (u : ℕ). u % 256) (sym x.1);
    }

pub invariant_of-self : goal.invariant_of-self
invariant_of-self c =
    let i = c.self.inside in let g = i.seat.ledger in let b = i.book in let t = c.self.invariant.tied in let n = i.lists.value.lists in let m = i.lists.value.chunks in let l = c.args.list in
    let unshut = phase_is n m g b t l Open (subst (λ k. (row (store_of k) l).phase ≡ Open) (sym c.self.view_is) c.requires.takes) in
    let low = open_below n m g b t l unshut in
    let q = c.use_slot-chunk.result in
    subst {A = OwnerValue × BookValue} (λ z. IsKeeper i.lists.value z.0 z.1) (λ j. (record { name = sym c.place.ensures.name j; ledger = sym c.place.ensures.ledger j }, sym c.use_slot-chunk.ensures.book j)) (record {
      name = c.self.invariant.name;
      tied = tied_set n m g b t (after_place g l q.0 q.1 c.args.item) (with_book_row b l (used_row (book_row b l))) l (used_row (book_row b l)) (with_one_used (leaf_of g l)) (more_placed (notes_of g l) c.args.item) low (used_tied (book_row b l) (leaf_of g l) (notes_of g l) c.args.item (t.each l low) unshut) (place_changes n m g b t l q.0 q.1 c.args.item);
    })

pub returns-clause-store : goal.returns-clause-store
returns-clause-store c =
    let i = c.self.inside in let g = i.seat.ledger in let b = i.book in let t = c.self.invariant.tied in let n = i.lists.value.lists in let m = i.lists.value.chunks in let l = c.args.list in
    let unshut = phase_is n m g b t l Open (subst (λ k. (row (store_of k) l).phase ≡ Open) (sym c.self.view_is) c.requires.takes) in
    let low = open_below n m g b t l unshut in
    let q = c.use_slot-chunk.result in
    subst (λ k. store_of (record { name = c.place.new.seat.name; ledger = c.place.new.seat.ledger; book = c.use_slot-chunk.new.self }) ≡ with_row (store_of k) l (placed_in (row (store_of k) l) c.args.item)) c.self.view_is
    ((λ j. store_of (record { name = c.place.ensures.name j; ledger = c.place.ensures.ledger j; book = c.use_slot-chunk.ensures.book j }))
    ∙ store_then n m g b t i.seat.name (after_place g l q.0 q.1 c.args.item) (with_book_row b l (used_row (book_row b l))) l (used_row (book_row b l)) (with_one_used (leaf_of g l)) (more_placed (notes_of g l) c.args.item) (λ r. placed_in r c.args.item) (place_changes n m g b t l q.0 q.1 c.args.item) refl)

pub returns-clause-chunk : goal.returns-clause-chunk
returns-clause-chunk c =
    let i = c.self.inside in let g = i.seat.ledger in let b = i.book in let t = c.self.invariant.tied in let n = i.lists.value.lists in let m = i.lists.value.chunks in let l = c.args.list in
    let unshut = phase_is n m g b t l Open (subst (λ k. (row (store_of k) l).phase ≡ Open) (sym c.self.view_is) c.requires.takes) in
    let low = open_below n m g b t l unshut in
    let count = placed_count n m g b t c.notes_are_kept.ensures l low unshut in
    subst (λ k. slice_get (row (store_of k) l).owned (length (row (store_of k) l).placed / 256) ≡ Some c.use_slot-chunk.result.0) c.self.view_is
    (subst (λ (r : Row). slice_get r.owned (length r.placed / 256) ≡ Some c.use_slot-chunk.result.0) (sym (row_is n m g b t l))
    (subst (λ (u : ℕ). slice_get (book_row b l).owned (u / 256) ≡ Some c.use_slot-chunk.result.0) (sym count) c.use_slot-chunk.ensures.chunk))

pub returns-clause-slot : goal.returns-clause-slot
returns-clause-slot c =
    let i = c.self.inside in let g = i.seat.ledger in let b = i.book in let t = c.self.invariant.tied in let n = i.lists.value.lists in let m = i.lists.value.chunks in let l = c.args.list in
    let unshut = phase_is n m g b t l Open (subst (λ k. (row (store_of k) l).phase ≡ Open) (sym c.self.view_is) c.requires.takes) in
    let low = open_below n m g b t l unshut in
    let count = placed_count n m g b t c.notes_are_kept.ensures l low unshut in
    subst (λ k. c.use_slot-chunk.result.1 ≡ length (row (store_of k) l).placed % 256) c.self.view_is
    (subst (λ (r : Row). c.use_slot-chunk.result.1 ≡ length r.placed % 256) (sym (row_is n m g b t l)) (c.use_slot-chunk.ensures.slot ∙ ap (λ (u : ℕ). u % 256) (sym count)))

pub returns-clause-placed : goal.returns-clause-placed
returns-clause-placed c =
    let q = c.use_slot-chunk.result in
    subst (λ (o : Ledger). Knows o.owner.facts (Item c.args.list q.0 q.1 c.args.item)) (sym c.place.ensures.ledger) (zero, refl)

pub returns-clause-known : goal.returns-clause-known
returns-clause-known c f q =
    let z = subst (λ k. Knows k.ledger.owner.facts f) (sym c.self.view_is) q in
    subst (λ (o : Ledger). Knows o.owner.facts f) (sym c.place.ensures.ledger) (suc z.0, z.1)
