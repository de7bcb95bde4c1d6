-- Lists with the same items, each as often, give the same frame.
use Rattle.std.proofs.Common.{◌≡◌, ℕ, ◌*◌, ◌/◌, ◌%◌, ◌^◌, ◌&&◌, List, map, unwrap_or, ap}
use Rattle.octree_model.specs.Numbers.{up_to}
use Rattle.octree_model.proofs.SameBagLaws.{same_filter, same_numbers, same_least}
use Rattle.picture_model.specs.Cameras.{CameraValue}
use Rattle.picture_model.specs.Frames.{is_drawn, covers, item_key, pixel_keys, pixel_colour, frame}
use Rattle.picture_model.specs.Items.{ItemValue, IsSameItems}

same_colour : (c : CameraValue) (xs ys : List ItemValue) → IsSameItems xs ys → (column row : ℕ) → pixel_colour c xs column row ≡ pixel_colour c ys column row
same_colour c xs ys same column row =
    ap (λ o. unwrap_or o 0 % 2 ^ 24) (same_least (pixel_keys c xs column row) (pixel_keys c ys column row)
    (same_numbers (item_key c) _ _ (same_filter (λ i. is_drawn c i && covers c i column row) xs ys same)))

pub same_frame : (c : CameraValue) (xs ys : List ItemValue) → IsSameItems xs ys → frame c xs ≡ frame c ys
unfolding frame
same_frame c xs ys same = λ j. record {
  width = c.width;
  height = c.height;
  colours = map (λ k. same_colour c xs ys same (k % c.width) (k / c.width) j) (up_to (c.width * c.height));
}
