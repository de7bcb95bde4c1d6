-- The frame: of each pixel of the picture, the colour of the least key among the items drawn there.
use Rattle.std.specs.Prelude.{ℕ, ◌+◌, ◌*◌, ◌/◌, ◌%◌, ◌^◌, max, List, map, filter, unwrap_or, Bool, ◌&&◌, ◌==◌, ℤ, pos, ◌+ℤ◌, ◌-ℤ◌, ◌*ℤ◌, int_le, int_lt, unsigned_abs, Option, Some, None, if◌then◌else◌}
use Rattle.octree_model.specs.Numbers.{up_to, least}
use Rattle.picture_model.specs.Cameras.{CameraValue, Triple, along, depth, floor_over}
use Rattle.picture_model.specs.Items.{ItemValue, item_place}

-- whether an item is drawn: it does not lie before the near plane
abbrev pub is_drawn : CameraValue → ItemValue → Bool
is_drawn c i = int_le (pos c.near) (depth c (item_place i))

-- the depth of an item that is drawn
abbrev pub item_depth : CameraValue → ItemValue → ℕ
item_depth c i = unsigned_abs (depth c (item_place i))

-- how many pixels wide and high the square of an item is
abbrev pub square_side : CameraValue → ItemValue → ℕ
square_side c i = if i.side == 0 then c.dot else max 1 (c.focal * i.side / item_depth c i)

-- the first pixel of an item's square on an axis of so many pixels, on which it lies so far from the middle
abbrev pub square_begin : CameraValue → ItemValue → ℕ → ℤ → ℤ
square_begin c i pixels off =
    (pos (pixels / 2) +ℤ floor_over (pos c.focal *ℤ off) (item_depth c i)) -ℤ pos (square_side c i / 2)

-- the left and the upper end of an item's square
abbrev pub square_left : CameraValue → ItemValue → ℤ
square_left c i = square_begin c i c.width (along c.eye c.right (item_place i))

abbrev pub square_top : CameraValue → ItemValue → ℤ
square_top c i = square_begin c i c.height (along c.eye c.down (item_place i))

-- whether so many pixels from a first one on reach a pixel
abbrev pub reaches : ℤ → ℕ → ℕ → Bool
reaches first side pixel = int_le first (pos pixel) && int_lt (pos pixel) (first +ℤ pos side)

-- whether an item's square covers the pixel in a column and a row of the picture
abbrev pub covers : CameraValue → ItemValue → ℕ → ℕ → Bool
covers c i column row =
    reaches (square_left c i) (square_side c i) column && reaches (square_top c i) (square_side c i) row

-- the key of an item: by depth, and at the same depth by colour number
abbrev pub item_key : CameraValue → ItemValue → ℕ
item_key c i = item_depth c i * 2 ^ 24 + i.rgb

-- the keys of the items that are drawn and whose square covers a pixel
abbrev pub pixel_keys : CameraValue → List ItemValue → ℕ → ℕ → List ℕ
pixel_keys c items column row = map (item_key c) (filter (λ i. is_drawn c i && covers c i column row) items)

-- the colour number of the least key at a pixel, and 0 where there is none
abbrev pub pixel_colour : CameraValue → List ItemValue → ℕ → ℕ → ℕ
pixel_colour c items column row = unwrap_or (least (pixel_keys c items column row)) 0 % 2 ^ 24

-- a frame as contracts see it: its size, and the colour numbers of its pixels by rows from the top, each
-- row from the left
pub record FrameValue : Type 0 where
  pub width : ℕ
  pub height : ℕ
  pub colours : List ℕ

-- the frame of a camera on which items are drawn
unfoldable pub frame : CameraValue → List ItemValue → FrameValue
frame c items = record {
  width = c.width;
  height = c.height;
  colours = map (λ k. pixel_colour c items (k % c.width) (k / c.width)) (up_to (c.width * c.height));
}

-- what is drawn of an item: the left and upper end of its square, the square's side, and its key
pub record SpotValue : Type 0 where
  pub left : ℤ
  pub top : ℤ
  pub side : ℕ
  pub key : ℕ

-- the spot of an item, where it is drawn
abbrev pub spot : CameraValue → ItemValue → Option SpotValue
spot c i =
    if is_drawn c i then Some record { left = square_left c i; top = square_top c i; side = square_side c i; key = item_key c i }
    else None
