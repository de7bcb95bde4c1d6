use Rattle.item_moves.proofs.HomeLaws.{slot_free, homed_after, placed_one}
use Rattle.item_moves.proofs.placing.place_once.Goals as goal

pub place-requires-clause-room : goal.place-requires-clause-room
place-requires-clause-room g c =
    slot_free (g.L.LeafLists.store c.args.lists.now) (g.L.LeafLists.knows c.args.lists.now)
    (g.A.Aims.guest c.args.aims.now) c.args.homes.now c.args.list c.args.item
    c.requires.homed c.requires.takes c.requires.item c.requires.guest c.if-homes-item.true

pub returns-then-homes-item-clause-homed : goal.returns-then-homes-item-clause-homed
returns-then-homes-item-clause-homed g c =
    rw c.place.ensures.store
    (homed_after (g.L.LeafLists.store c.args.lists.now) (g.L.LeafLists.knows c.args.lists.now)
    (g.A.Aims.guest c.args.aims.now) c.args.homes.now c.args.list c.args.item
    c.requires.homed c.requires.takes c.requires.item c.requires.guest c.if-homes-item.true c.requires.alone
    (g.L.LeafLists.knows c.place.new.self) c.place.ensures.known (c.place.result.0, c.place.ensures.placed))

pub returns-then-homes-item-clause-placed : goal.returns-then-homes-item-clause-placed
returns-then-homes-item-clause-placed g c =
    rw c.place.ensures.store (placed_one (g.L.LeafLists.store c.args.lists.now) c.args.list c.args.item c.requires.takes)
