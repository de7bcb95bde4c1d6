use Rattle.std.proofs.Common.{ap, sym, subst, sum, arith, get_or}
use Rattle.std.proofs.lemmas.List.Elements.{Contains-get_or}
use Rattle.list_machine.specs.declared.views.Grant.{Grant}
use Rattle.list_words.specs.Store.{Store, admitted}
use Rattle.item_moves.specs.Homes.{AreHomed}
use Rattle.item_moves.specs.Settled.{AreSettled}
use Rattle.item_moves.proofs.LinkLaws.{linked_open}
use Rattle.item_moves.proofs.StayLaws.{granted_items, homed_stays, settled_stays}
use Rattle.item_moves.proofs.linking.admit_slots.Goals as goal

pub admit-requires : goal.admit-requires
admit-requires g c =
    let s : Store = g.L.LeafLists.store c.args.lists.now in
    let t : Store = g.L.LeafLists.store c.link_for_grants.new.lists in
    let h = c.link_for_grants.ensures.linked in
    let grants = c.args.grants.now in
    record {
      grants_room = omega (arith, ap (λ (v : Store). v.grants_room) h.rest, c.requires.filer.0);
      items_room = omega (arith, ap (λ (v : Store). v.items_room) h.rest, c.requires.filer.1);
      apart = c.requires.apart;
      takes = λ k d low.
          let a : Grant = get_or grants k d in
          let among = Contains-get_or grants k d low in
          (linked_open s t _ _ a.list h (c.requires.takes a among), c.link_for_grants.ensures.slots a among);
      few = omega (arith, ap (λ (v : Store). v.given) h.rest, c.requires.few);
      seats = omega (arith, ap (λ (v : Store). sum v.out) h.rest, c.requires.seats);
    }

pub returns-clause-homed : goal.returns-clause-homed
returns-clause-homed g c guest homes h =
    let t : Store = g.L.LeafLists.store c.link_for_grants.new.lists in
    subst (λ (v : Store). AreHomed v (g.L.LeafLists.knows c.admit.new.self) guest homes) (sym c.admit.ensures.store)
    (homed_stays t (admitted t c.args.grants.now) (granted_items t c.args.grants.now) (g.L.LeafLists.knows c.link_for_grants.new.lists)
    (g.L.LeafLists.knows c.admit.new.self) guest homes
    (c.link_for_grants.ensures.homed guest homes h) c.admit.ensures.known)

pub returns-clause-settled : goal.returns-clause-settled
returns-clause-settled g c leaf covers homes left h =
    let t : Store = g.L.LeafLists.store c.link_for_grants.new.lists in
    subst (λ (v : Store). AreSettled v leaf covers homes left) (sym c.admit.ensures.store)
    (settled_stays t (admitted t c.args.grants.now) (granted_items t c.args.grants.now) leaf covers homes left
    (c.link_for_grants.ensures.settled leaf covers homes left h))
