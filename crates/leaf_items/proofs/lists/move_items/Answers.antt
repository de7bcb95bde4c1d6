use Rattle.std.proofs.Common.{arith, get_or, refl}
use Rattle.leaf_items.proofs.MoveLaws.{item_low, move_more}
use Rattle.leaf_items.proofs.lists.move_items.Goals as goal

pub index_mut-requires : goal.index_mut-requires
index_mut-requires c =
    omega (
      arith,
      item_low c.args.leaf.now.items c.args.items.now c.args.list c.loop-k.k (get_or c.args.items.now c.loop-k.k 0) c.requires.items c.loop-k-test.true refl,
      c.loop-k.invariant.len,
      c.args.leaf.now.ok.0,
    )

pub loop-k-preserved : goal.loop-k-preserved
loop-k-preserved c = record {
  so_far = move_more c.args.first c.args.list c.args.leaf.now.items c.args.items.now c.args.aims.now c.loop-k.leaf.items c.loop-k.k
      (get_or c.args.aims.now c.loop-k.k 0)
      (get_or c.args.items.now c.loop-k.k 0) c.requires.items c.requires.many c.loop-k-test.true c.loop-k.invariant.so_far refl refl;
  len = c.loop-k.invariant.len;
  capacity = c.loop-k.invariant.capacity;
}
