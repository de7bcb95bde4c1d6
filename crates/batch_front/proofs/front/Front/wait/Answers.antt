use Rattle.std.proofs.Common.{◌∙◌}
use Rattle.batch_front.proofs.front.Front.wait.Goals as goal

pub look-served-requires-clause-waits : goal.look-served-requires-clause-waits
look-served-requires-clause-waits g c = let w = c.requires.waits in (w.0, w.1, w.2, c.loop.invariant.1 ∙ w.3)
