use Rattle.std.proofs.Common.{take}
use Rattle.list_words.specs.Store.{Keeps}
use Rattle.item_moves.specs.Homes.{AreHomed, OnlyPlaced, OnlyHome}
use Rattle.item_moves.specs.Late.{AreBack}
use Rattle.item_moves.proofs.coming_back.place_late.Given as goal

abbrev pub invariant-loop-answer : goal.invariant-loop-answer
invariant-loop-answer g l = record {
  homed : AreHomed (g.L.LeafLists.store l.lists) (g.L.LeafLists.knows l.lists) (g.A.Aims.guest l.aims) l.homes;
  home : OnlyHome (g.A.Aims.leaf l.aims) l.initial.homes l.homes;
  back : AreBack (g.A.Aims.leaf l.aims) l.homes (take l.answer-index l.answers);
  placed : OnlyPlaced (g.L.LeafLists.store l.initial.lists) (g.L.LeafLists.store l.lists);
  known : Keeps (g.L.LeafLists.knows l.initial.lists) (g.L.LeafLists.knows l.lists);
  borne : (f : g.row.L-Filer.Denot) → g.L.LeafLists.borne_out l.initial.lists f → g.L.LeafLists.borne_out l.lists f;
}
