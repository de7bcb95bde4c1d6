use Rattle.std.proofs.Common.{sym, subst, arith}
use Rattle.list_words.specs.Store.{Store, IsOpen}
use Rattle.item_moves.specs.Links.{AreLinked, one_grown}
use Rattle.item_moves.proofs.LinkLaws.{grown_here, linked_again, linked_one, linked_open, linked_zero}
use Rattle.item_moves.proofs.linking.link_chunks.Goals as goal

pub loop-chunk-init : goal.loop-chunk-init
loop-chunk-init g c = record { linked = linked_zero (g.L.LeafLists.store c.args.lists.now) c.args.list; known = λ l k x h. h; borne = λ f h. h }

pub extend_claimed-requires-clause-takes : goal.extend_claimed-requires-clause-takes
extend_claimed-requires-clause-takes g c = linked_open _ _ _ _ c.args.list c.loop-chunk.invariant.linked c.requires.takes

pub extend_claimed-requires-clause-room : goal.extend_claimed-requires-clause-room
extend_claimed-requires-clause-room g c =
    omega (arith, c.loop-chunk.invariant.linked.room c.args.list, grown_here c.args.list c.loop-chunk._chunk, c.requires.room)

pub extend_claimed-requires-clause-free : goal.extend_claimed-requires-clause-free
extend_claimed-requires-clause-free g c = omega (arith, c.loop-chunk.invariant.linked.free, c.requires.free)

pub loop-chunk-preserved : goal.loop-chunk-preserved
loop-chunk-preserved g c =
    let s : Store = g.L.LeafLists.store c.args.lists.now in
    let t : Store = g.L.LeafLists.store c.loop-chunk.lists in
    let e = c.extend_claimed.ensures.store in
    let o : IsOpen t c.args.list = linked_open s t _ _ c.args.list c.loop-chunk.invariant.linked c.requires.takes in
    let one : AreLinked t (g.L.LeafLists.store c.extend_claimed.new.self) (one_grown c.args.list 1) 1 =
    subst (λ (u : Store). AreLinked t u (one_grown c.args.list 1) 1) (sym e.2)
    (linked_one t c.args.list e.0 o
    (omega (arith, c.loop-chunk.invariant.linked.room c.args.list, grown_here c.args.list c.loop-chunk._chunk, c.requires.room))
    (omega (arith, c.loop-chunk.invariant.linked.free, c.requires.free))) in
    record {
      linked = linked_again s t _ c.args.list c.loop-chunk._chunk c.loop-chunk.invariant.linked one;
      known = λ l k x h. c.extend_claimed.ensures.known l k x (c.loop-chunk.invariant.known l k x h);
      borne = λ f h. c.extend_claimed.ensures.borne f (c.loop-chunk.invariant.borne f h);
    }
