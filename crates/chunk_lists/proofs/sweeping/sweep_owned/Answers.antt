use Rattle.std.proofs.Common.{◌≡◌, ℕ, zero, suc, ◌+◌, ◌/◌, ◌%◌, List, [], ◌∷◌, ◌++◌, get_or, take, refl, sym, ap, ◌∙◌, subst, arith, append-nil, append_assoc, slice_index_or}
use Rattle.std.specs.Prelude.{Some}
use Rattle.std.proofs.lemmas.Option.{slice_get-get_or}
use Rattle.std.proofs.lemmas.List.{take_all}
use Rattle.std.proofs.lemmas.Grind.{take_at_read}
use Rattle.list_machine.specs.Words.{decode, item_in}
use Rattle.list_machine.specs.Facts.{IsAt}
use Rattle.list_machine.specs.Steps.{mark_shows}
use Rattle.list_machine.specs.declared.views.Fact.TheVariants.{Item}
use Rattle.list_table.specs.Ledgers.{Knows, notes_of}
use Rattle.list_table.specs.declared.views.Ledger.{Ledger}
use Rattle.chunk_lists.specs.Sweeps.{AreSwept, items_in}
use Rattle.chunk_lists.proofs.Marking.{swept_start, may_mark_owned, swept_owned, found_item, mark_found, placed_known, placed_all}
use Rattle.chunk_lists.proofs.sweeping.sweep_owned.Goals as goal

pub loop-place-init : goal.loop-place-init
loop-place-init c =
    let g = c.args.seat.now.ledger in let l = c.args.list in let p = c.requires.shut.0 in let f = c.args.found in let m = (notes_of g l).marked in
    let start : f ≡ f + 0 = omega arith in record {
      name = refl;
      first = p;
      swept = subst (λ (k : ℕ). AreSwept g g l p f k m) start (swept_start g l p f f m c.requires.shut.1 refl);
      items = sym (append-nil c.args.out.now.items);
      len = omega arith;
      capacity = omega arith;
    }

pub mark-word-requires-clause-chunk : goal.mark-word-requires-clause-chunk
mark-word-requires-clause-chunk c =
    let i = c.loop-place.place in let below = c.loop-place-test.true in let all = c.requires.used.1 in
    c.requires.chunks (i / 256) (slice_index_or c.args.chain.now (i / 256) 0) (slice_get-get_or c.args.chain.now (i / 256) 0 (omega (arith, below, all)))

pub mark-word-requires-clause-next : goal.mark-word-requires-clause-next
mark-word-requires-clause-next c =
    let i = c.loop-place.place in let x = c.loop-place.invariant in let below = c.loop-place-test.true in let all = c.requires.used.1 in let used = c.requires.used.0 in
    let g = c.args.seat.now.ledger in let l = c.args.list in
    may_mark_owned g c.loop-place.seat.ledger l x.first c.args.found (c.args.found + i) (notes_of g l).marked x.swept c.args.lists.now.lists c.requires.leaves c.requires.notes c.requires.list
    (slice_index_or c.args.chain.now (i / 256) 0) i refl (omega (arith, below, used))
    (subst (λ (cs : List ℕ). IsAt cs (i / 256) (slice_index_or c.args.chain.now (i / 256) 0)) c.requires.chain (slice_get-get_or c.args.chain.now (i / 256) 0 (omega (arith, below, all))))

pub loop-place-preserved : goal.loop-place-preserved
loop-place-preserved c =
    let i = c.loop-place.place in let x = c.loop-place.invariant in let below = c.loop-place-test.true in let all = c.requires.used.1 in let used = c.requires.used.0 in
    let g = c.args.seat.now.ledger in let l = c.args.list in let f = c.args.found in
    let k = slice_index_or c.args.chain.now (i / 256) 0 in
    let w = decode c.mark-word.result in
    let placed = (notes_of g l).placed in
    let chunk = subst (λ (cs : List ℕ). IsAt cs (i / 256) k) c.requires.chain (slice_get-get_or c.args.chain.now (i / 256) 0 (omega (arith, below, all))) in
    let known = placed_known g l c.requires.shut.0 f c.args.lists.now.lists i k c.notes_are_kept.ensures c.requires.leaves c.requires.list c.requires.shut.1 (omega (arith, below, used)) chunk in
    let now = c.mark-word.new.seat.ledger in
    let was = x.swept.known (Item l k (i % 256) (get_or placed i 0)) known.1 in
    let still : Knows now.owner.facts (Item l k (i % 256) (get_or placed i 0)) = subst (λ (o : Ledger). Knows o.owner.facts (Item l k (i % 256) (get_or placed i 0))) (sym c.mark-word.ensures.ledger) (suc was.0, was.1) in
    let shown : Knows now.owner.facts (mark_shows l k (i % 256) w) = subst (λ (o : Ledger). Knows o.owner.facts (mark_shows l k (i % 256) w)) (sym c.mark-word.ensures.ledger) (zero, refl) in
    let found = mark_found now.owner.facts l k (i % 256) (get_or placed i 0) w (λ h y z p q. c.facts_agree.ensures.one h l k (i % 256) y z p q) (λ h y p q. c.facts_agree.ensures.none h l k (i % 256) y p q) still shown in
    let item : item_in w ≡ Some (get_or placed i 0) = sym (found_item w c.mark-word.ensures.small) ∙ found in
    let step : suc (f + i) ≡ f + (i + 1) = omega arith in
    let len = x.len in let more = c.take_item.ensures.len in let cap = x.capacity in let room = c.take_item.ensures.capacity in record {
      name = c.mark-word.ensures.name ∙ x.name;
      first = x.first;
      swept = subst (λ (z : Ledger × ℕ). AreSwept g z.0 l x.first f z.1 (notes_of g l).marked) (λ j. (sym c.mark-word.ensures.ledger j, step j))
          (swept_owned g c.loop-place.seat.ledger l x.first f (f + i) (notes_of g l).marked x.swept c.args.lists.now.lists c.requires.leaves c.requires.notes c.requires.list k (i % 256) w (omega arith));
      items = c.take_item.ensures.items ∙ ((λ j. x.items j ++ items_in (item j ∷ [])) ∙ (append_assoc c.args.out.now.items (take i placed) (get_or placed i 0 ∷ []) ∙ ap (λ (ys : List ℕ). c.args.out.now.items ++ ys) (sym (take_at_read placed i 0 known.0).1)));
      len = omega (arith, len, more);
      capacity = omega (arith, cap, room);
    }

pub returns-clause-found : goal.returns-clause-found
returns-clause-found c =
    let g = c.args.seat.now.ledger in let l = c.args.list in let placed = (notes_of g l).placed in
    let all = placed_all g l c.requires.shut.0 c.args.found c.args.lists.now.lists c.notes_are_kept.ensures c.requires.leaves c.requires.list c.requires.shut.1 in
    let used = c.requires.used.0 in let end = c.loop-place-test.false in
    c.loop-place.invariant.items ∙ ap (λ (ys : List ℕ). c.args.out.now.items ++ ys) (take_all c.loop-place.place placed (omega (arith, all, used, end)))
