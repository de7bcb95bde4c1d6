-- Numbers of which no field is out of its range are those of a camera.
use Rattle.std.proofs.Common.{◌≡◌, ℕ, ◌+◌, ◌<◌, ◌≤◌, Bool, true, false, not, ℤ, pos, negsuc, unsigned_abs, List, length, get_or, Option, Some, None, arith, refl, if◌then◌else◌}
use Rattle.std.specs.List.{list_all}
use Rattle.std.proofs.lemmas.List.Folds.{list_all_at}
use Rattle.picture_model.specs.Cameras.{IsRow, IsCamera}
use Rattle.camera_cut.specs.declared.numbers.CameraNumbers.{CameraNumbers}
use Rattle.camera_cut.specs.declared.numbers.CameraField.{CameraField}
use Rattle.camera_cut.specs.declared.numbers.CameraField.TheVariants.{Rows, Focal, Near, Width, Height, Threshold, Dot}
use Rattle.camera_cut.specs.Fields.{camera_of, first_out_of_range, in_row, within, three}

-- where the first choice is not taken, its test passed
passed : (b : Bool) (f : CameraField) (rest : Option CameraField) → (if not b then Some f else rest) ≡ None → (b ≡ true) × (rest ≡ None)
passed true f rest h = (refl, h)
passed false f rest h = cc

-- a number in a row is at most 1024 in size
row_small : (z : ℤ) → in_row z ≡ true → unsigned_abs z ≤ 1024
row_small (pos n) h = grind (arith, h)
row_small (negsuc n) h = grind (arith, h)

at_row : (xs : List ℤ) (k : ℕ) → list_all in_row xs ≡ true → k < length xs → unsigned_abs (get_or xs k (pos 0)) ≤ 1024
at_row xs k all l = row_small (get_or xs k (pos 0)) (
    let fails : in_row (get_or xs k (pos 0)) ≡ false → list_all in_row xs ≡ false = list_all_at in_row xs k (pos 0) l in
    let P : Bool → Type 0 = λ b. (b ≡ false → list_all in_row xs ≡ false) → b ≡ true in
    (elim (in_row (get_or xs k (pos 0))) as P [ true ↦ λ f. refl | false ↦ λ f. let e : list_all in_row xs ≡ false = f refl in cc ]) fails)

row_of : (xs : List ℤ) (k : ℕ) → list_all in_row xs ≡ true → k + 2 < length xs → IsRow (three xs k)
row_of xs k all l = record {
  x = at_row xs k all (omega arith);
  y = at_row xs (k + 1) all (omega arith);
  z = at_row xs (k + 2) all (omega arith);
}

low_end : (low high n : ℕ) → within low high n ≡ true → low ≤ n
low_end low high n h = grind (arith, h)

high_end : (low high n : ℕ) → within low high n ≡ true → n ≤ high
high_end low high n h = grind (arith, h)

pub in_ranges : (n : CameraNumbers) → length n.rows ≡ 9 → first_out_of_range n ≡ None → IsCamera (camera_of n)
in_ranges n nine none =
    let dot : Option CameraField = if not (within 1 64 n.dot) then Some Dot else None in
    let threshold : Option CameraField = if not (within 1 65536 n.threshold) then Some Threshold else dot in
    let height : Option CameraField = if not (within 1 4096 n.height) then Some Height else threshold in
    let width : Option CameraField = if not (within 1 4096 n.width) then Some Width else height in
    let near : Option CameraField = if not (within 1 1000000000 n.near) then Some Near else width in
    let focal : Option CameraField = if not (within 1 65536 n.focal) then Some Focal else near in
    let r : (list_all in_row n.rows ≡ true) × (focal ≡ None) = passed (list_all in_row n.rows) Rows focal none in
    let f : (within 1 65536 n.focal ≡ true) × (near ≡ None) = passed (within 1 65536 n.focal) Focal near r.1 in
    let e : (within 1 1000000000 n.near ≡ true) × (width ≡ None) = passed (within 1 1000000000 n.near) Near width f.1 in
    let w : (within 1 4096 n.width ≡ true) × (height ≡ None) = passed (within 1 4096 n.width) Width height e.1 in
    let h : (within 1 4096 n.height ≡ true) × (threshold ≡ None) = passed (within 1 4096 n.height) Height threshold w.1 in
    let t : (within 1 65536 n.threshold ≡ true) × (dot ≡ None) = passed (within 1 65536 n.threshold) Threshold dot h.1 in
    let none_left : Option CameraField = None in
    let d : (within 1 64 n.dot ≡ true) × (none_left ≡ None) = passed (within 1 64 n.dot) Dot none_left t.1 in
    record {
      right = row_of n.rows 0 r.0 (omega arith);
      down = row_of n.rows 3 r.0 (omega arith);
      forward = row_of n.rows 6 r.0 (omega arith);
      focal_low = low_end 1 65536 n.focal f.0;
      focal_high = high_end 1 65536 n.focal f.0;
      near_low = low_end 1 1000000000 n.near e.0;
      near_high = high_end 1 1000000000 n.near e.0;
      width_low = low_end 1 4096 n.width w.0;
      width_high = high_end 1 4096 n.width w.0;
      height_low = low_end 1 4096 n.height h.0;
      height_high = high_end 1 4096 n.height h.0;
      threshold_low = low_end 1 65536 n.threshold t.0;
      threshold_high = high_end 1 65536 n.threshold t.0;
      dot_low = low_end 1 64 n.dot d.0;
      dot_high = high_end 1 64 n.dot d.0;
    }
