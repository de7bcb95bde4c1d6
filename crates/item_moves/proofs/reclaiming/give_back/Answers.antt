use Rattle.list_words.specs.Store.{Store}
use Rattle.list_words.proofs.RowLaws.{reclaimed_open, reclaimed_shut}
use Rattle.item_moves.proofs.ReclaimLaws.{homed_reclaimed, settled_reclaimed, not_cleared}
use Rattle.item_moves.proofs.reclaiming.give_back.Goals as goal

pub returns : goal.returns
returns g c =
    let s : Store = g.L.LeafLists.store c.args.lists.now in
    let t : Store = g.L.LeafLists.store c.reclaim.new.self in
    record {
      store = c.reclaim.ensures.store;
      homed = homed_reclaimed s t c.reclaim.ensures.store c.requires.shut (g.L.LeafLists.knows c.args.lists.now) (g.L.LeafLists.knows c.reclaim.new.self)
          (g.A.Aims.guest c.args.aims.now) c.args.homes.now c.requires.homed c.reclaim.ensures.known;
      shut = reclaimed_shut s t c.reclaim.ensures.store c.requires.shut;
      settled = λ left. settled_reclaimed s t c.reclaim.ensures.store c.requires.shut (g.A.Aims.leaf c.args.aims.now)
          (g.A.Aims.covers c.args.aims.now) c.args.homes.now left;
      open_rows = reclaimed_open s t c.reclaim.ensures.store c.requires.shut;
      known = λ l k x o h. c.reclaim.ensures.known l k x (not_cleared s t c.reclaim.ensures.store c.requires.shut l o) h;
    }
