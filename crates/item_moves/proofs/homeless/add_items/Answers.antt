use Rattle.std.proofs.Common.{List, ℕ, sym, subst}
use Rattle.item_moves.specs.Homes.{AreHomed}
use Rattle.item_moves.proofs.NewLaws.{homed_new}
use Rattle.item_moves.proofs.homeless.add_items.Goals as goal

pub returns-clause-homed : goal.returns-clause-homed
returns-clause-homed g c =
    subst (λ (homes : List ℕ). AreHomed (g.L.LeafLists.store c.args.lists.now) (g.L.LeafLists.knows c.args.lists.now) (g.A.Aims.guest c.args.aims.now) homes)
    (sym c.loop-item.invariant.homes)
    (homed_new (g.L.LeafLists.store c.args.lists.now) (g.L.LeafLists.knows c.args.lists.now)
    (g.A.Aims.guest c.args.aims.now) 4294967295 c.requires.no_list c.args.homes.now.items c.loop-item._item c.requires.homed c.requires.new)
