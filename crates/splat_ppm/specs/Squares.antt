-- What the square of an item is: to draw the item is to lower the keys in it.
use Rattle.std.specs.Prelude.{ℕ, ◌≡◌, ◌≤◌, List, [], ◌∷◌, ◌++◌}
use Rattle.picture_model.specs.Cameras.{CameraValue}
use Rattle.picture_model.specs.Items.{ItemValue}
use Rattle.splat_ppm.specs.Canvases.{drawn_keys}
use Rattle.splat_ppm.specs.Lowering.{AreLowered, lies_in_square}
use Rattle.splat_ppm.specs.declared.pixels.Square.{Square}

-- a square lies within a picture of this width and height
pub record IsWithin (width height : ℕ) (s : Square) : Type 0 where
  pub ordered : s.left ≤ s.right
  pub columns : s.right ≤ width
  pub rows : s.bottom ≤ height

-- where the keys of some items are lowered in this square, they are the keys of these items and this one
abbrev pub Draws : CameraValue → ItemValue → Square → Type 0
Draws c i s =
    (items : List ItemValue) (old new : List ℕ) → old ≡ drawn_keys c items
    → AreLowered (lies_in_square c.width s.left s.right s.top s.bottom) s.key old new → new ≡ drawn_keys c (items ++ i ∷ [])

-- one item more changes no key
abbrev pub DrawsNothing : CameraValue → ItemValue → Type 0
DrawsNothing c i = (items : List ItemValue) → drawn_keys c items ≡ drawn_keys c (items ++ i ∷ [])
