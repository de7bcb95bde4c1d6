use Rattle.std.proofs.Common.{arith}
use Rattle.batch_front.proofs.front.Front.sleep.Goals as goal

pub peek-serving-requires : goal.peek-serving-requires
peek-serving-requires g c = let n = c.self.invariant.0.words in omega arith

pub park-requires : goal.park-requires
park-requires g c = let n = c.self.invariant.0.words in omega arith
