-- A canvas: the least key drawn at each pixel.
use Rattle.std.specs.Prelude.{ℕ, ◌≡◌, ◌*◌, ◌/◌, ◌%◌, ◌^◌, List, map, unwrap_or}
use Rattle.octree_model.specs.Numbers.{up_to, least}
use Rattle.picture_model.specs.Cameras.{CameraValue}
use Rattle.picture_model.specs.Frames.{pixel_keys}
use Rattle.picture_model.specs.Items.{ItemValue}

-- a canvas as contracts see it: the camera for which it is drawn, and a key for each pixel, by rows from the
-- top, each row from the left
pub record CanvasValue : Type 0 where
  pub camera : CameraValue
  pub keys : List ℕ

-- the key of a pixel at which nothing was drawn: above all keys of items, and with the colour number 0
abbrev pub no_key : ℕ
no_key = 2 ^ 60

-- the key of a pixel at which these items are drawn
abbrev pub pixel_key : CameraValue → List ItemValue → ℕ → ℕ → ℕ
pixel_key c items column row = unwrap_or (least (pixel_keys c items column row)) no_key

-- the keys of a canvas on which these items are drawn
unfoldable pub drawn_keys : CameraValue → List ItemValue → List ℕ
drawn_keys c items = map (λ k. pixel_key c items (k % c.width) (k / c.width)) (up_to (c.width * c.height))

-- a canvas shows these items: they and no others were drawn on it
abbrev pub Shows : CanvasValue → List ItemValue → Type 0
Shows canvas items = canvas.keys ≡ drawn_keys canvas.camera items
