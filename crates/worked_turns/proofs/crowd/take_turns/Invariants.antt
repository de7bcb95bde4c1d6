use Rattle.std.proofs.Common.{◌≡◌}
use Rattle.batch_front.specs.Passes.{IsHome}
use Rattle.worked_turns.proofs.crowd.take_turns.Given as goal

-- the pass is still of the front, and holds no turn
abbrev pub invariant-loop-turn : goal.invariant-loop-turn
invariant-loop-turn g l = IsHome l.fn.front l.pass × (l.pass.number ≡ l.fn.pass.number)
