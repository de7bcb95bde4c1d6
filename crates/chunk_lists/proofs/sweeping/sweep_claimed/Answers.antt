use Rattle.std.proofs.Common.{◌≡◌, ℕ, suc, ◌+◌, ◌/◌, ◌%◌, List, [], ◌∷◌, ◌++◌, refl, sym, ap, ◌∙◌, subst, arith, append-nil, append_assoc, slice_index_or}
use Rattle.std.specs.Prelude.{Option}
use Rattle.std.proofs.lemmas.Option.{slice_get-get_or}
use Rattle.std.proofs.lemmas.List.{length-append}
use Rattle.list_machine.specs.Words.{decode}
use Rattle.list_machine.specs.Facts.{IsAt}
use Rattle.list_table.specs.OwnerMoves.{item_found}
use Rattle.list_table.specs.declared.views.Ledger.{Ledger}
use Rattle.chunk_lists.specs.Sweeps.{AreSwept, items_in}
use Rattle.chunk_lists.proofs.Marking.{swept_start, may_mark_claimed, swept_claimed, found_item, items_more}
use Rattle.chunk_lists.proofs.sweeping.sweep_claimed.Goals as goal

pub loop-place-init : goal.loop-place-init
loop-place-init c = record {
  name = refl;
  first = c.requires.shut.0;
  marked = [];
  swept = swept_start c.args.seat.now.ledger c.args.list c.requires.shut.0 c.args.found 0 [] c.requires.shut.1 c.requires.none;
  count = refl;
  items = sym (append-nil c.args.out.now.items);
  len = omega arith;
  capacity = omega arith;
}

pub mark-word-requires-clause-chunk : goal.mark-word-requires-clause-chunk
mark-word-requires-clause-chunk c =
    let i = c.loop-place.place in let below = c.loop-place-test.true in let all = c.requires.found in
    c.requires.chunks (i / 256) (slice_index_or c.args.chain.now (i / 256) 0) (slice_get-get_or c.args.chain.now (i / 256) 0 (omega (arith, below, all)))

pub mark-word-requires-clause-next : goal.mark-word-requires-clause-next
mark-word-requires-clause-next c =
    let i = c.loop-place.place in let x = c.loop-place.invariant in let below = c.loop-place-test.true in let all = c.requires.found in
    may_mark_claimed c.args.seat.now.ledger c.loop-place.seat.ledger c.args.list x.first c.args.found i x.marked x.swept c.args.lists.now.lists c.requires.leaves c.requires.notes c.requires.list
    (slice_index_or c.args.chain.now (i / 256) 0) below
    (subst (λ (cs : List ℕ). IsAt cs (i / 256) (slice_index_or c.args.chain.now (i / 256) 0)) c.requires.chain (slice_get-get_or c.args.chain.now (i / 256) 0 (omega (arith, below, all))))

pub loop-place-preserved : goal.loop-place-preserved
loop-place-preserved c =
    let i = c.loop-place.place in let x = c.loop-place.invariant in let below = c.loop-place-test.true in
    let k = slice_index_or c.args.chain.now (i / 256) 0 in
    let w = decode c.mark-word.result in
    let next : List (Option ℕ) = x.marked ++ item_found w ∷ [] in
    let step : suc i ≡ i + 1 = omega arith in
    let len = x.len in let more = c.take_item.ensures.len in let cap = x.capacity in let room = c.take_item.ensures.capacity in record {
      name = c.mark-word.ensures.name ∙ x.name;
      first = x.first;
      marked = next;
      swept = subst (λ (z : Ledger × ℕ). AreSwept c.args.seat.now.ledger z.0 c.args.list x.first c.args.found z.1 next) (λ j. (sym c.mark-word.ensures.ledger j, step j))
          (swept_claimed c.args.seat.now.ledger c.loop-place.seat.ledger c.args.list x.first c.args.found i x.marked x.swept c.args.lists.now.lists c.requires.leaves c.requires.notes c.requires.list k (i % 256) w below);
      count = length-append x.marked (item_found w ∷ []) ∙ (let e = x.count in omega arith);
      items = c.take_item.ensures.items ∙ ((λ j. x.items j ++ items_in (sym (found_item w c.mark-word.ensures.small) j ∷ [])) ∙ (append_assoc c.args.out.now.items (items_in x.marked) (items_in (item_found w ∷ [])) ∙ ap (λ (ys : List ℕ). c.args.out.now.items ++ ys) (sym (items_more x.marked (item_found w)))));
      len = omega (arith, len, more);
      capacity = omega (arith, cap, room);
    }
