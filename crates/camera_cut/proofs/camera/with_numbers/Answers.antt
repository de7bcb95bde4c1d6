use Rattle.std.proofs.Common.{◌≡◌, length, subst, rules}
use Rattle.picture_model.specs.Cameras.{IsCamera}
use Rattle.camera_cut.specs.Fields.{camera_of}
use Rattle.camera_cut.specs.Kept.{camera_value}
use Rattle.camera_cut.proofs.Ranges.{in_ranges}
use Rattle.camera_cut.proofs.camera.with_numbers.Goals as goal

pub invariant_of-result : goal.invariant_of-result
invariant_of-result c =
    let nine : length c.args.numbers.now.rows ≡ 9 = search rules in
    let ok : IsCamera (camera_of c.args.numbers.now) = in_ranges c.args.numbers.now nine c.requires in
    let is : camera_of c.args.numbers.now ≡ camera_value record {
      eye = c.new.result;
      right = c.new-2.result;
      down = c.new-3.result;
      forward = c.new-4.result;
      focal = c.args.numbers.now.focal;
      near = c.args.numbers.now.near;
      width = c.args.numbers.now.width;
      height = c.args.numbers.now.height;
      threshold = c.args.numbers.now.threshold;
      dot = c.args.numbers.now.dot;
    } = search rules in
    subst IsCamera is ok
