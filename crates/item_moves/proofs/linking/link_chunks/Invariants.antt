use Rattle.list_words.specs.Store.{Keeps}
use Rattle.item_moves.specs.Links.{AreLinked, one_grown}
use Rattle.item_moves.proofs.linking.link_chunks.Given as goal

abbrev pub invariant-loop-chunk : goal.invariant-loop-chunk
invariant-loop-chunk g l = record {
  linked : AreLinked (g.L.LeafLists.store l.initial.lists) (g.L.LeafLists.store l.lists) (one_grown l.list l._chunk) l._chunk;
  known : Keeps (g.L.LeafLists.knows l.initial.lists) (g.L.LeafLists.knows l.lists);
  borne : (f : g.row.L-Filer.Denot) → g.L.LeafLists.borne_out l.initial.lists f → g.L.LeafLists.borne_out l.lists f;
}
