use Rattle.std.proofs.Common.{◌≡◌, map, take}
use Rattle.picture_model.specs.Items.{voxel_item}
use Rattle.frame_words.specs.Hands.{Adds, AreCapped, IsBrush}
use Rattle.frame_words.proofs.parts.draw_voxels.Given as goal

abbrev pub invariant-loop-voxel : goal.invariant-loop-voxel
invariant-loop-voxel l = record {
  table : l.seat.table_id ≡ l.fn.seat.table_id;
  brush : IsBrush l.desk.shared.key l.fn.seat.me.0.shares l.seat.me;
  capped : AreCapped l.seat.me.0.keys;
  drawn : Adds l.camera (map (voxel_item l.fn.cube) (take l.voxel-index l.voxels)) l.fn.seat.me.0.keys l.seat.me.0.keys;
}
