use Rattle.std.proofs.Common.{arith}
use Rattle.octree_plain.proofs.ListingLaws.{path_more}
use Rattle.octree_plain.proofs.listing.write_path.Goals as goal

pub loop-i-preserved : goal.loop-i-preserved
loop-i-preserved c =
    path_more c.args.path.now c.loop-i.i c.octant-octant.result _ _ _ (omega arith) c.octant-octant.ensures.value c.loop-i.invariant c.in_ok-write.ensures.bytes
