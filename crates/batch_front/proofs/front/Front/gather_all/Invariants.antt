use Rattle.std.proofs.Common.{◌≡◌, map}
use Rattle.batch_front.specs.Passes.{card_of}
use Rattle.batch_front.specs.Turns.{IsGathering}
use Rattle.batch_front.proofs.front.Front.gather_all.Given as goal

-- the cards of the passes so far
abbrev pub invariant-loop-pass : goal.invariant-loop-pass
invariant-loop-pass g l = record {
  can : (goal.iterator-loop-pass g).can_next l.pass-iterator;
  ends : (goal.iterator-loop-pass g).is_finite l.pass-iterator;
  table : l.all.table_id ≡ l.self.table;
  gathers : IsGathering (map card_of l.yielded) l.all.me;
}
