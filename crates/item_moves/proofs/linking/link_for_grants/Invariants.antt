use Rattle.std.proofs.Common.{take}
use Rattle.list_words.specs.Store.{Keeps}
use Rattle.item_moves.specs.Links.{AreLinked, lacking_in, lacking_in_all}
use Rattle.item_moves.proofs.linking.link_for_grants.Given as goal

abbrev pub invariant-loop-grant : goal.invariant-loop-grant
invariant-loop-grant g l = record {
  linked : AreLinked (g.L.LeafLists.store l.initial.lists) (g.L.LeafLists.store l.lists)
      (lacking_in (g.L.LeafLists.store l.initial.lists) (take l.grant-index l.grants))
      (lacking_in_all (g.L.LeafLists.store l.initial.lists) (take l.grant-index l.grants));
  known : Keeps (g.L.LeafLists.knows l.initial.lists) (g.L.LeafLists.knows l.lists);
  borne : (f : g.row.L-Filer.Denot) → g.L.LeafLists.borne_out l.initial.lists f → g.L.LeafLists.borne_out l.lists f;
}
