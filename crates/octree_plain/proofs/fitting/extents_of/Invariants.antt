use Rattle.std.proofs.Common.{◌≡◌, take, fold}
use Rattle.std.specs.Int.{int_min, int_max}
use Rattle.octree_plain.specs.Fitting.{on_x, on_y, on_z}
use Rattle.octree_plain.proofs.fitting.extents_of.Given as goal

abbrev pub invariant-loop-p : goal.invariant-loop-p
invariant-loop-p l = record {
  x_least : l.all.x.least ≡ fold int_min l.initial.all.x.least (on_x (take l.p-index l.rest));
  x_greatest : l.all.x.greatest ≡ fold int_max l.initial.all.x.greatest (on_x (take l.p-index l.rest));
  y_least : l.all.y.least ≡ fold int_min l.initial.all.y.least (on_y (take l.p-index l.rest));
  y_greatest : l.all.y.greatest ≡ fold int_max l.initial.all.y.greatest (on_y (take l.p-index l.rest));
  z_least : l.all.z.least ≡ fold int_min l.initial.all.z.least (on_z (take l.p-index l.rest));
  z_greatest : l.all.z.greatest ≡ fold int_max l.initial.all.z.greatest (on_z (take l.p-index l.rest));
}
