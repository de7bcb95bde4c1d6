use Rattle.std.proofs.Common.{sym, subst, ◌≡◌, ◌+◌, arith}
use Rattle.chunk_pool.specs.Amounts.{chunks_for}
use Rattle.list_words.specs.Store.{Store}
use Rattle.item_moves.specs.Opened.{IsOpened}
use Rattle.item_moves.proofs.OpenLaws.{opened_none, opened_open, opened_more, homed_opened, slots_for}
use Rattle.item_moves.proofs.opening.open_leaf.Goals as goal

pub loop-chunk-init : goal.loop-chunk-init
loop-chunk-init g c = record {
  opened = subst (λ (t : Store). IsOpened (g.L.LeafLists.store c.args.lists.now) t c.args.list 0) (sym c.open_list.ensures.store)
      (opened_none (g.L.LeafLists.store c.args.lists.now) c.args.list c.requires.below c.requires.new);
  known = c.open_list.ensures.known;
  borne = c.open_list.ensures.borne;
}

pub extend_owned-requires-clause-takes : goal.extend_owned-requires-clause-takes
extend_owned-requires-clause-takes g c = opened_open _ _ c.args.list _ c.loop-chunk.invariant.opened

pub extend_owned-requires-clause-room : goal.extend_owned-requires-clause-room
extend_owned-requires-clause-room g c = omega (arith, c.loop-chunk.invariant.opened.room, c.requires.room)

pub extend_owned-requires-clause-free : goal.extend_owned-requires-clause-free
extend_owned-requires-clause-free g c = omega (arith, c.loop-chunk.invariant.opened.free, c.requires.free)

pub loop-chunk-preserved : goal.loop-chunk-preserved
loop-chunk-preserved g c =
    let s : Store = g.L.LeafLists.store c.args.lists.now in
    let t : Store = g.L.LeafLists.store c.loop-chunk.lists in
    let e = c.extend_owned.ensures.store in
    record {
      opened = subst (λ (u : Store). IsOpened s u c.args.list (c.loop-chunk._chunk + 1)) (sym e.2)
          (opened_more s t c.args.list c.loop-chunk._chunk e.0 c.loop-chunk.invariant.opened
          (omega (arith, c.loop-chunk.invariant.opened.room, c.requires.room)) (omega (arith, c.loop-chunk.invariant.opened.free, c.requires.free)));
      known = λ l k x h. c.extend_owned.ensures.known l k x (c.loop-chunk.invariant.known l k x h);
      borne = λ f h. c.extend_owned.ensures.borne f (c.loop-chunk.invariant.borne f h);
    }

pub returns-clause-homed : goal.returns-clause-homed
returns-clause-homed g c homes h none few =
    let s : Store = g.L.LeafLists.store c.args.lists.now in
    let t : Store = g.L.LeafLists.store c.loop-chunk.lists in
    let all : c.loop-chunk._chunk ≡ chunks_for c.args.items =
    omega (arith, c.loop-chunk-test.false, c.loop-chunk.auto._chunk-end, c.div_ceil-chunk-end.ensures) in
    homed_opened s t (g.L.LeafLists.knows c.args.lists.now) (g.L.LeafLists.knows c.loop-chunk.lists) (g.A.Aims.guest c.args.aims.now) homes c.args.list
    (chunks_for c.args.items)
    (subst (λ n. IsOpened s t c.args.list n) all c.loop-chunk.invariant.opened) h c.loop-chunk.invariant.known none (slots_for _ c.args.items few)
