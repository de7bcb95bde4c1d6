use Rattle.std.proofs.Common.{arith}
use Rattle.std.specs.Vec.{vec_capacity}
use Rattle.list_filers.proofs.Starts.{all_fresh, starts}
use Rattle.list_filers.proofs.filers.Filer.new.Goals as goal

pub new-requires-clause-fresh : goal.new-requires-clause-fresh
new-requires-clause-fresh c = all_fresh c.args.grants.now c.start.new.cursors.items c.args.lists.now.lists c.start.ensures.cursors c.requires.within

pub invariant_of-result : goal.invariant_of-result
invariant_of-result c =
    starts c.new.result c.args.lists.now c.args.seat.guest c.args.birth (vec_capacity c.take-places.result.1) c.args.grants.now c.start.new.cursors.items c.take-places.result.1.items c.new.ensures c.take-places.ensures.empty.1
    (let room = c.take-places.ensures.answers in let few = c.requires.items_room in omega arith) c.requires.guest c.requires.apart c.requires.within c.start.ensures.cursors
