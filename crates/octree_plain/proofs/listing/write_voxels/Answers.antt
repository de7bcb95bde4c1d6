use Rattle.std.proofs.Common.{◌≡◌, ◌++◌, codes, decimal, string_bytes, subst}
use Rattle.octree_model.specs.Voxels.{VoxelValue}
use Rattle.octree_plain.specs.Listing.{colour_text, line_feed}
use Rattle.octree_plain.proofs.ListingLaws.{colour_written, voxel_more}
use Rattle.octree_plain.proofs.listing.write_voxels.Goals as goal

pub loop-voxel-preserved : goal.loop-voxel-preserved
loop-voxel-preserved c =
    let Written : VoxelValue → Type 0 =
    λ v. string_bytes c.writeln.new.self ≡ string_bytes c.loop-voxel.out ++ (codes "v " ++ (decimal v.cell ++ (codes " " ++ (colour_text v.rgb ++ line_feed)))) in
    let written : Written c.voxel-item.result =
    subst Written c.voxel.view_is (rw (colour_written c.in_radix.result c.laid_out.result c.voxel.inside.rgb c.in_radix.ensures c.laid_out.ensures) at c.in_ok-writeln.ensures.bytes) in
    voxel_more c.args.voxels.now c.loop-voxel.voxel-index c.voxel-item.result _ _ _ c.loop-voxel-test.true c.voxel-item.is c.loop-voxel.invariant written
