-- The numbers of a camera as they are given, and the first of them that is out of its range.
use Rattle.std.specs.Prelude.{ℕ, ◌+◌, Bool, ◌&&◌, not, ℤ, pos, negsuc, int_le, nat_le, List, slice_index_or, Option, Some, None, if◌then◌else◌}
use Rattle.std.specs.List.{list_all}
use Rattle.picture_model.specs.Cameras.{CameraValue, Triple}
use Rattle.camera_cut.specs.declared.numbers.CameraNumbers.{CameraNumbers}
use Rattle.camera_cut.specs.declared.numbers.CameraField.{CameraField}
use Rattle.camera_cut.specs.declared.numbers.CameraField.TheVariants.{Rows, Focal, Near, Width, Height, Threshold, Dot}

-- three numbers of a list, from a place on
abbrev pub three : List ℤ → ℕ → Triple
three xs k = (slice_index_or xs k (pos 0), slice_index_or xs (k + 1) (pos 0), slice_index_or xs (k + 2) (pos 0))

-- the camera with these numbers
abbrev pub camera_of : CameraNumbers → CameraValue
camera_of n = record {
  eye = three n.pos 0;
  right = three n.rows 0;
  down = three n.rows 3;
  forward = three n.rows 6;
  focal = n.focal;
  near = n.near;
  width = n.width;
  height = n.height;
  threshold = n.threshold;
  dot = n.dot;
}

-- whether a number of a row is in its range
abbrev pub in_row : ℤ → Bool
in_row r = int_le (negsuc 1023) r && int_le r (pos 1024)

-- whether a number lies from one to another
abbrev pub within : ℕ → ℕ → ℕ → Bool
within low high n = nat_le low n && nat_le n high

-- the first field that is out of its range, if one is; every position is in range
abbrev pub first_out_of_range : CameraNumbers → Option CameraField
first_out_of_range n =
    if not (list_all in_row n.rows) then Some Rows
    else if not (within 1 65536 n.focal) then Some Focal
    else if not (within 1 1000000000 n.near) then Some Near
    else if not (within 1 4096 n.width) then Some Width
    else if not (within 1 4096 n.height) then Some Height
    else if not (within 1 65536 n.threshold) then Some Threshold
    else if not (within 1 64 n.dot) then Some Dot
    else None
