use Rattle.std.proofs.Common.{take}
use Rattle.list_words.specs.Store.{Keeps}
use Rattle.item_moves.specs.Homes.{AreHomed, OnlyPlaced, OnlyHome}
use Rattle.item_moves.proofs.FoundLaws.{AreFound}
use Rattle.item_moves.proofs.placing.place_found.Given as goal

abbrev pub invariant-loop-item : goal.invariant-loop-item
invariant-loop-item g l = record {
  homed : AreHomed (g.L.LeafLists.store l.lists) (g.L.LeafLists.knows l.lists) (g.A.Aims.guest l.aims) l.homes;
  home : OnlyHome (g.A.Aims.leaf l.aims) l.initial.homes l.homes;
  found : AreFound (g.A.Aims.leaf l.aims) (g.A.Aims.covers l.aims l.from) l.homes (take l.item-index l.found);
  placed : OnlyPlaced (g.L.LeafLists.store l.initial.lists) (g.L.LeafLists.store l.lists);
  known : Keeps (g.L.LeafLists.knows l.initial.lists) (g.L.LeafLists.knows l.lists);
  borne : (f : g.row.L-Filer.Denot) → g.L.LeafLists.borne_out l.initial.lists f → g.L.LeafLists.borne_out l.lists f;
}
