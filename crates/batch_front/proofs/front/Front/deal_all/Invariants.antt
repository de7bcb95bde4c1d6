use Rattle.std.proofs.Common.{◌≡◌, ◌-◌, map}
use Rattle.std.specs.List.{range_with_len}
use Rattle.batch_front.specs.Passes.{new_pass}
use Rattle.batch_front.specs.Turns.{IsDealing}
use Rattle.batch_front.proofs.front.Front.deal_all.Given as goal

-- the passes below the number were dealt, and the others are left
abbrev pub invariant-loop-number : goal.invariant-loop-number
invariant-loop-number g l = record {
  count : l.passes ≡ l.self.passes;
  table : l.dealer.table_id ≡ l.self.table;
  cards : IsDealing l.self.site (range_with_len l.number (l.self.passes - l.number)) l.dealer.me;
  given : l.given.items ≡ map (new_pass l.self) (range_with_len 0 l.number);
}
