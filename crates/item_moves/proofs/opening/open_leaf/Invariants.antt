use Rattle.list_words.specs.Store.{Keeps}
use Rattle.item_moves.specs.Opened.{IsOpened}
use Rattle.item_moves.proofs.opening.open_leaf.Given as goal

abbrev pub invariant-loop-chunk : goal.invariant-loop-chunk
invariant-loop-chunk g l = record {
  opened : IsOpened (g.L.LeafLists.store l.fn.lists) (g.L.LeafLists.store l.lists) l.list l._chunk;
  known : Keeps (g.L.LeafLists.knows l.fn.lists) (g.L.LeafLists.knows l.lists);
  borne : (f : g.row.L-Filer.Denot) → g.L.LeafLists.borne_out l.fn.lists f → g.L.LeafLists.borne_out l.lists f;
}
