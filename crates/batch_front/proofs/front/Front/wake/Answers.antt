use Rattle.std.proofs.Common.{arith}
use Rattle.batch_front.proofs.front.Front.wake.Goals as goal

pub peek-requires : goal.peek-requires
peek-requires g c = let n = c.self.invariant.0.words in omega arith

pub wake_all-requires : goal.wake_all-requires
wake_all-requires g c = let n = c.self.invariant.0.words in omega arith
