use Rattle.std.proofs.Common.{◌≡◌, ℕ, ◌<◌, true, false, List, length, refl, sym, ap, ◌∙◌, subst, arith}
use Rattle.std.proofs.lemmas.Option.{slice_get-get_or}
use Rattle.list_machine.specs.Facts.{IsAt}
use Rattle.list_machine.specs.declared.views.Fact.TheVariants.{Item}
use Rattle.list_words.specs.Store.{Row, cleared_store, row}
use Rattle.list_words.specs.declared.leaf_lists.Phase.TheVariants.{Shut}
use Rattle.list_book.specs.Books.{BookValue, MayClearNext, book_row, next_in_order}
use Rattle.list_table.specs.OwnerMoves.{MayBegin}
use Rattle.list_table.specs.Tables.{OwnerValue}
use Rattle.list_table.specs.declared.views.Ledger.{Ledger}
use Rattle.list_table.proofs.Clears.{others_stay}
use Rattle.chunk_lists.specs.Keepers.{IsKeeper, KnownIn, store_of}
use Rattle.chunk_lists.specs.Wipes.{cleared_ledger}
use Rattle.chunk_lists.proofs.Reclaims.{may_begin, next_below, slot_stays, store_cleared, tied_cleared}
use Rattle.chunk_lists.proofs.Rows.{rows_length}
use Rattle.chunk_lists.proofs.Ties.{row_is}
use Rattle.chunk_lists.specs.Keepers.{ShownIn}
use Rattle.chunk_lists.proofs.keeper.Keeper.clear.Goals as goal

pub wipe-requires-clause-may : goal.wipe-requires-clause-may
wipe-requires-clause-may c =
    let i = c.self.inside in let g = i.seat.ledger in let b = i.book in let t = c.self.invariant.tied in let n = i.lists.value.lists in let m = i.lists.value.chunks in
    let may = subst (λ k. MayClearNext k.book) (sym c.self.view_is) c.requires.may in
    let next = c.requires.next ∙ ap (λ k. next_in_order k.book) (sym c.self.view_is) in
    subst (MayBegin g) (sym next) (may_begin n m g b t c.order_is_kept.ensures may)

pub wipe-requires-clause-claimed_chunks : goal.wipe-requires-clause-claimed_chunks
wipe-requires-clause-claimed_chunks c r k at =
    let i = c.self.inside in let g = i.seat.ledger in let b = i.book in let t = c.self.invariant.tied in let n = i.lists.value.lists in let m = i.lists.value.chunks in
    let may = subst (λ k. MayClearNext k.book) (sym c.self.view_is) c.requires.may in
    let next = c.requires.next ∙ ap (λ k. next_in_order k.book) (sym c.self.view_is) in
    let low = c.numbers_are_small.ensures.chunks false c.args.list r k (subst (λ (cs : List ℕ). IsAt cs r k) c.claimed-claimed.ensures at) in let all = t.chunks_is in
    subst (λ v. k < v.chunks) (sym c.deref.ensures) (omega (arith, low, all))

pub wipe-requires-clause-owned_chunks : goal.wipe-requires-clause-owned_chunks
wipe-requires-clause-owned_chunks c r k at =
    let i = c.self.inside in let g = i.seat.ledger in let b = i.book in let t = c.self.invariant.tied in let n = i.lists.value.lists in let m = i.lists.value.chunks in
    let may = subst (λ k. MayClearNext k.book) (sym c.self.view_is) c.requires.may in
    let next = c.requires.next ∙ ap (λ k. next_in_order k.book) (sym c.self.view_is) in
    let low = c.numbers_are_small.ensures.chunks true c.args.list r k (subst (λ (cs : List ℕ). IsAt cs r k) c.owned-owned.ensures at) in let all = t.chunks_is in
    subst (λ v. k < v.chunks) (sym c.deref.ensures) (omega (arith, low, all))

pub invariant_of-self : goal.invariant_of-self
invariant_of-self c =
    let i = c.self.inside in let g = i.seat.ledger in let b = i.book in let t = c.self.invariant.tied in let n = i.lists.value.lists in let m = i.lists.value.chunks in
    let may = subst (λ k. MayClearNext k.book) (sym c.self.view_is) c.requires.may in
    let next = c.requires.next ∙ ap (λ k. next_in_order k.book) (sym c.self.view_is) in
    let shut = c.order_is_of_shut_lists.ensures.shut b.cleared (next_in_order b) (slice_get-get_or b.order b.cleared 0 may.some) in
    subst {A = OwnerValue × BookValue} (λ z. IsKeeper i.lists.value z.0 z.1) (λ j. (record { name = sym c.wipe.ensures.name j; ledger = (ap (cleared_ledger g) (sym next) ∙ sym c.wipe.ensures.ledger) j }, sym c.clear_next.ensures j)) (record {
      name = c.self.invariant.name;
      tied = tied_cleared n m g b t c.order_is_kept.ensures may shut;
    })

pub returns-clause-store : goal.returns-clause-store
returns-clause-store c =
    let i = c.self.inside in let g = i.seat.ledger in let b = i.book in let t = c.self.invariant.tied in let n = i.lists.value.lists in let m = i.lists.value.chunks in
    let may = subst (λ k. MayClearNext k.book) (sym c.self.view_is) c.requires.may in
    let next = c.requires.next ∙ ap (λ k. next_in_order k.book) (sym c.self.view_is) in
    let shut = c.order_is_of_shut_lists.ensures.shut b.cleared (next_in_order b) (slice_get-get_or b.order b.cleared 0 may.some) in
    subst (λ k. store_of (record { name = c.wipe.new.seat.name; ledger = c.wipe.new.seat.ledger; book = c.clear_next.new.self }) ≡ cleared_store (store_of k) c.args.list) c.self.view_is
    ((λ j. store_of (record { name = c.wipe.ensures.name j; ledger = (c.wipe.ensures.ledger ∙ ap (cleared_ledger g) next) j; book = c.clear_next.ensures j }))
    ∙ (store_cleared n m g b t c.order_is_kept.ensures may shut i.seat.name ∙ ap (cleared_store (store_of (record { name = i.seat.name; ledger = g; book = b }))) (sym next)))

pub returns-clause-shut : goal.returns-clause-shut
returns-clause-shut c =
    let i = c.self.inside in let g = i.seat.ledger in let b = i.book in let t = c.self.invariant.tied in let n = i.lists.value.lists in let m = i.lists.value.chunks in
    let may = subst (λ k. MayClearNext k.book) (sym c.self.view_is) c.requires.may in
    let next = c.requires.next ∙ ap (λ k. next_in_order k.book) (sym c.self.view_is) in
    let shut = c.order_is_of_shut_lists.ensures.shut b.cleared (next_in_order b) (slice_get-get_or b.order b.cleared 0 may.some) in
    subst (λ k. (row (store_of k) c.args.list).phase ≡ Shut) c.self.view_is (ap (λ (r : Row). r.phase) (row_is n m g b t c.args.list) ∙ subst (λ (h : ℕ). (book_row b h).phase ≡ Shut) (sym next) shut)

pub returns-clause-below : goal.returns-clause-below
returns-clause-below c =
    let i = c.self.inside in let g = i.seat.ledger in let b = i.book in let t = c.self.invariant.tied in let n = i.lists.value.lists in let m = i.lists.value.chunks in
    let may = subst (λ k. MayClearNext k.book) (sym c.self.view_is) c.requires.may in
    let next = c.requires.next ∙ ap (λ k. next_in_order k.book) (sym c.self.view_is) in
    let low = next_below n m g b t c.order_is_kept.ensures may in
    let long = rows_length b.rows g.notes (t.notes ∙ sym t.rows) in let rows = t.rows in
    subst (λ k. c.args.list < length (store_of k).rows) c.self.view_is (omega (arith, low, long, rows, next))

pub returns-clause-known : goal.returns-clause-known
returns-clause-known c h d i y other q =
    let s = c.self.inside in
    let z = subst (λ k. ShownIn k h d i y) (sym c.self.view_is) q in
    subst (λ (o : Ledger). ShownIn (record { name = s.seat.name; ledger = o; book = s.book }) h d i y) (sym c.wipe.ensures.ledger) (slot_stays c.args.list s.seat.ledger.owner.facts h d i y other z)
