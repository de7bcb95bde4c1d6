use Rattle.std.proofs.Common.{◌≤◌, ◌+◌, ◌<◌, length}
use Rattle.sim_script.proofs.ScheduleLaws.{IsRead}
use Rattle.sim_script.proofs.reader.read_schedule.Given as goal

abbrev pub invariant-loop-blanks : goal.invariant-loop-blanks
invariant-loop-blanks l = record {
  place : 0 < length l.rest → l.at + length l.rest ≤ length l.bytes;
  read : IsRead l.bytes l.at l.rest l.steps.items;
}

abbrev pub decreases-loop-blanks : goal.decreases-loop-blanks
decreases-loop-blanks l = length l.rest
