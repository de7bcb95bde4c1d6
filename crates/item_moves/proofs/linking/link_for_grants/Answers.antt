use Rattle.std.proofs.Common.{subst, ◌≡◌, ◌+◌, ◌*◌, ◌≤◌, ℕ, List, length, arith, get_or, take, refl}
use Rattle.std.proofs.lemmas.List.{take_all}
use Rattle.std.proofs.lemmas.List.Elements.{Contains-get_or}
use Rattle.list_machine.specs.declared.views.Grant.{Grant}
use Rattle.list_words.specs.Store.{Store, row}
use Rattle.item_moves.specs.Links.{AreLinked, lacking, lacking_in, lacking_in_all, one_grown}
use Rattle.item_moves.proofs.LinkLaws.{few_so_far, lacking_all_more, lacking_more, lacking_still, linked_more, linked_none, linked_open, not_yet, room_still, slots_after}
use Rattle.item_moves.proofs.StayLaws.{homed_stays, linked_items, settled_stays}
use Rattle.item_moves.proofs.linking.link_for_grants.Goals as goal

-- what a read past the end gives
abbrev past : Grant
past = record { list = 0; n = 0 }

pub loop-grant-init : goal.loop-grant-init
loop-grant-init g c = record { linked = linked_none (g.L.LeafLists.store c.args.lists.now) _ (λ l. refl); known = λ l k x h. h; borne = λ f h. h }

pub link_for_grant-requires-clause-takes : goal.link_for_grant-requires-clause-takes
link_for_grant-requires-clause-takes g c =
    linked_open _ _ _ _ _ c.loop-grant.invariant.linked
    (c.requires.takes (get_or c.args.grants.now c.loop-grant.grant-index past)
    (Contains-get_or c.args.grants.now c.loop-grant.grant-index past c.loop-grant-test.true))

pub link_for_grant-requires-clause-room : goal.link_for_grant-requires-clause-room
link_for_grant-requires-clause-room g c =
    let a : Grant = get_or c.args.grants.now c.loop-grant.grant-index past in
    let s : Store = g.L.LeafLists.store c.args.lists.now in
    let t : Store = g.L.LeafLists.store c.loop-grant.lists in
    let none = not_yet s c.args.grants.now c.loop-grant.grant-index past c.loop-grant-test.true c.requires.apart in
    let same : lacking t a ≡ lacking s a = lacking_still s t _ _ a c.loop-grant.invariant.linked none in
    let room : (row t a.list).claimed_room ≡ (row s a.list).claimed_room = room_still s t _ _ a.list c.loop-grant.invariant.linked none in
    omega (arith, same, room, c.requires.room a (Contains-get_or c.args.grants.now c.loop-grant.grant-index past c.loop-grant-test.true))

pub link_for_grant-requires-clause-free : goal.link_for_grant-requires-clause-free
link_for_grant-requires-clause-free g c =
    let a : Grant = get_or c.args.grants.now c.loop-grant.grant-index past in
    let s : Store = g.L.LeafLists.store c.args.lists.now in
    let t : Store = g.L.LeafLists.store c.loop-grant.lists in
    let none = not_yet s c.args.grants.now c.loop-grant.grant-index past c.loop-grant-test.true c.requires.apart in
    let same : lacking t a ≡ lacking s a = lacking_still s t _ _ a c.loop-grant.invariant.linked none in
    omega (
      arith,
      same,
      c.loop-grant.invariant.linked.free,
      few_so_far s c.args.grants.now c.loop-grant.grant-index past c.loop-grant-test.true,
      c.requires.free,
    )

pub loop-grant-preserved : goal.loop-grant-preserved
loop-grant-preserved g c =
    let grants = c.args.grants.now in
    let i : ℕ = c.loop-grant.grant-index in
    let a : Grant = get_or grants i past in
    let s : Store = g.L.LeafLists.store c.args.lists.now in
    let t : Store = g.L.LeafLists.store c.loop-grant.lists in
    let u : Store = g.L.LeafLists.store c.link_for_grant.new.lists in
    let none = not_yet s grants i past c.loop-grant-test.true c.requires.apart in
    let same : lacking t a ≡ lacking s a = lacking_still s t _ _ a c.loop-grant.invariant.linked none in
    let one : AreLinked t u (one_grown a.list (lacking s a)) (lacking s a) =
    subst (λ n. AreLinked t u (one_grown a.list n) n) same c.link_for_grant.ensures.linked in
    record {
      linked = linked_more s t u (lacking_in s (take i grants)) (one_grown a.list (lacking s a)) (lacking_in s (take (i + 1) grants))
          (lacking_in_all s (take i grants)) (lacking s a) (lacking_in_all s (take (i + 1) grants))
          c.loop-grant.invariant.linked one (lacking_more s grants i past c.loop-grant-test.true) (lacking_all_more s grants i past c.loop-grant-test.true);
      known = λ l k x h. c.link_for_grant.ensures.known l k x (c.loop-grant.invariant.known l k x h);
      borne = λ f h. c.link_for_grant.ensures.borne f (c.loop-grant.invariant.borne f h);
    }

pub returns-clause-slots : goal.returns-clause-slots
returns-clause-slots g c a among =
    let grants = c.args.grants.now in
    let s : Store = g.L.LeafLists.store c.args.lists.now in
    let t : Store = g.L.LeafLists.store c.loop-grant.lists in
    let all : AreLinked s t (lacking_in s grants) (lacking_in_all s (take c.loop-grant.grant-index grants)) =
    subst (λ (gs : List Grant). AreLinked s t (lacking_in s gs) (lacking_in_all s (take c.loop-grant.grant-index grants)))
    (take_all c.loop-grant.grant-index grants c.loop-grant-test.false) c.loop-grant.invariant.linked in
    subst (λ (b : Grant). (row t b.list).granted + b.n ≤ 256 * length (row t b.list).claimed) among.2 (slots_after s t grants among.0 a _ all among.1)

pub returns-clause-homed : goal.returns-clause-homed
returns-clause-homed g c guest homes h =
    homed_stays (g.L.LeafLists.store c.args.lists.now) (g.L.LeafLists.store c.loop-grant.lists) (linked_items _ _ _ _ c.loop-grant.invariant.linked)
    (g.L.LeafLists.knows c.args.lists.now) (g.L.LeafLists.knows c.loop-grant.lists) guest homes h c.loop-grant.invariant.known

pub returns-clause-settled : goal.returns-clause-settled
returns-clause-settled g c leaf covers homes left =
    settled_stays (g.L.LeafLists.store c.args.lists.now) (g.L.LeafLists.store c.loop-grant.lists)
    (linked_items _ _ _ _ c.loop-grant.invariant.linked) leaf covers homes left
