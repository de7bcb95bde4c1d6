use Rattle.std.proofs.Common.{take, drop, ℕ, ◌≤◌}
use Rattle.std.specs.Vec.{vec_capacity}
use Rattle.list_words.specs.Store.{Keeps}
use Rattle.item_moves.specs.Homes.{AreHomed, OnlyHome}
use Rattle.item_moves.specs.Settled.{AreSettled, AreSwept, IsKept}
use Rattle.item_moves.proofs.sweeping.sweep_all.Given as goal

abbrev pub invariant-loop-from : goal.invariant-loop-from
invariant-loop-from g l = record {
  homed : AreHomed (g.L.LeafLists.store l.lists) (g.L.LeafLists.knows l.lists) (g.A.Aims.guest l.aims) l.homes;
  home : OnlyHome (g.A.Aims.leaf l.aims) l.initial.homes l.homes;
  swept : AreSwept (g.L.LeafLists.store l.initial.lists) (g.L.LeafLists.store l.lists) (take l.from-index l.splits);
  settled : AreSettled (g.L.LeafLists.store l.initial.lists) (g.A.Aims.leaf l.aims) (g.A.Aims.covers l.aims) l.initial.homes l.splits
      → AreSettled (g.L.LeafLists.store l.lists) (g.A.Aims.leaf l.aims) (g.A.Aims.covers l.aims) l.homes (drop l.from-index l.splits);
  kept : (x : ℕ) → IsKept (g.L.LeafLists.knows l.initial.lists) (g.A.Aims.leaf l.aims) (g.A.Aims.covers l.aims) l.splits x
      → IsKept (g.L.LeafLists.knows l.lists) (g.A.Aims.leaf l.aims) (g.A.Aims.covers l.aims) (drop l.from-index l.splits) x;
  capacity : vec_capacity l.initial.found ≤ vec_capacity l.found;
  known : Keeps (g.L.LeafLists.knows l.initial.lists) (g.L.LeafLists.knows l.lists);
  borne : (f : g.row.L-Filer.Denot) → g.L.LeafLists.borne_out l.initial.lists f → g.L.LeafLists.borne_out l.lists f;
}
