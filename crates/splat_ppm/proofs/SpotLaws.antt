-- What is drawn of an item that does not lie before the near plane.
use Rattle.std.proofs.Common.{◌≡◌, ℕ, ◌+◌, ◌*◌, ◌/◌, ◌%◌, ◌^◌, ◌<◌, ◌≤◌, max, Bool, true, false, cond, ◌&&◌, ◌==◌, ℤ, pos, negsuc, ◌+ℤ◌, ◌-ℤ◌, ◌*ℤ◌, unsigned_abs, int_le, Some, None, Option, unwrap_or, ap, ◌∙◌, sym, refl, arith, if◌then◌else◌}
use Rattle.std.specs.Int.Signed.{lt_z}
use Rattle.std.proofs.lemmas.Bool.{le-leb}
use Rattle.picture_model.specs.Cameras.{CameraValue, along, depth, floor_over}
use Rattle.std.proofs.lemmas.Nat.{div_below, mod_below}
use Rattle.picture_model.specs.Frames.{SpotValue, is_drawn, item_depth, item_key, square_side, square_left, square_top, reaches, covers, spot}
use Rattle.picture_model.specs.Items.{ItemValue, item_place}
use Rattle.splat_ppm.specs.Lowering.{lies_in, lies_in_square}

-- a number that is not below a natural one is one
pub not_below : (z : ℤ) (n : ℕ) → lt_z z (pos n) ≡ false → (z ≡ pos (unsigned_abs z)) × (n ≤ unsigned_abs z)
not_below (pos m) n h = (refl, grind (arith, h))
not_below (negsuc m) n h = cc

-- the spot of an item, from its depth
pub drawn_spot : (c : CameraValue) (i : ItemValue) (deep : ℕ) (left top : ℤ) (side key : ℕ)
    → depth c (item_place i) ≡ pos deep → c.near ≤ deep
    → side ≡ (if i.side == 0 then c.dot else max 1 (c.focal * i.side / deep))
    → left ≡ (pos (c.width / 2) +ℤ floor_over (pos c.focal *ℤ along c.eye c.right (item_place i)) deep) -ℤ pos (side / 2)
    → top ≡ (pos (c.height / 2) +ℤ floor_over (pos c.focal *ℤ along c.eye c.down (item_place i)) deep) -ℤ pos (side / 2)
    → key ≡ deep * 2 ^ 24 + i.rgb
    → Some record { left = left; top = top; side = side; key = key } ≡ spot c i
drawn_spot c i deep left top side key at near side_is left_is top_is key_is =
    let same : deep ≡ item_depth c i = sym (ap unsigned_abs at) in
    let before : is_drawn c i ≡ true = ap (int_le (pos c.near)) at ∙ le-leb _ _ near in
    let s : side ≡ square_side c i = side_is ∙ ap (λ d. if i.side == 0 then c.dot else max 1 (c.focal * i.side / d)) same in
    let l : left ≡ square_left c i = left_is ∙ (λ j. (pos (c.width / 2) +ℤ floor_over (pos c.focal *ℤ along c.eye c.right (item_place i)) (same j)) -ℤ pos (s j / 2)) in
    let t : top ≡ square_top c i = top_is ∙ (λ j. (pos (c.height / 2) +ℤ floor_over (pos c.focal *ℤ along c.eye c.down (item_place i)) (same j)) -ℤ pos (s j / 2)) in
    let k : key ≡ item_key c i = key_is ∙ ap (λ d. d * 2 ^ 24 + i.rgb) same in
    let whole : SpotValue = record { left = square_left c i; top = square_top c i; side = square_side c i; key = item_key c i } in
    (λ j. Some record { left = l j; top = t j; side = s j; key = k j }) ∙ ap (λ b. if b then Some whole else None) (sym before)

-- an item whose spot is known is drawn, and its spot has these parts
pub record IsDrawnAs (c : CameraValue) (i : ItemValue) (s : SpotValue) : Type 0 where
  pub drawn : is_drawn c i ≡ true
  pub left : s.left ≡ square_left c i
  pub top : s.top ≡ square_top c i
  pub side : s.side ≡ square_side c i
  pub key : s.key ≡ item_key c i

spot_parts : (c : CameraValue) (i : ItemValue) (s : SpotValue) (b : Bool) → is_drawn c i ≡ b
    → (if b then Some record { left = square_left c i; top = square_top c i; side = square_side c i; key = item_key c i } else None) ≡ Some s → IsDrawnAs c i s
spot_parts c i s true drawn e =
    let none : SpotValue = s in
    let same : record { left = square_left c i; top = square_top c i; side = square_side c i; key = item_key c i } ≡ s = ap (λ (o : Option SpotValue). unwrap_or o none) e in
    record {
      drawn = drawn;
      left = ap (λ (t : SpotValue). t.left) (sym same);
      top = ap (λ (t : SpotValue). t.top) (sym same);
      side = ap (λ (t : SpotValue). t.side) (sym same);
      key = ap (λ (t : SpotValue). t.key) (sym same);
    }
spot_parts c i s false drawn e = cc

pub drawn_as : (c : CameraValue) (i : ItemValue) (s : SpotValue) → spot c i ≡ Some s → IsDrawnAs c i s
drawn_as c i s e = spot_parts c i s (is_drawn c i) refl e

not_drawn_by : (c : CameraValue) (i : ItemValue) (b : Bool)
    → cond {A = Option SpotValue} b (Some record { left = square_left c i; top = square_top c i; side = square_side c i; key = item_key c i }) None ≡ None → b ≡ false
not_drawn_by c i true e = cc
not_drawn_by c i false e = refl

-- an item without a spot is not drawn
pub not_drawn : (c : CameraValue) (i : ItemValue) → spot c i ≡ None → is_drawn c i ≡ false
not_drawn c i e = not_drawn_by c i (is_drawn c i) e

-- the pixels that a square covers, by their place in rows
pub covered : (c : CameraValue) (i : ItemValue) (s : SpotValue) (left right top bottom k : ℕ) → IsDrawnAs c i s → 0 < c.width
    → ((x : ℕ) → x < c.width → reaches s.left s.side x ≡ lies_in left right x) → ((y : ℕ) → y < c.height → reaches s.top s.side y ≡ lies_in top bottom y)
    → k < c.width * c.height → covers c i (k % c.width) (k / c.width) ≡ lies_in_square c.width left right top bottom k
covered c i s left right top bottom k is some columns rows l =
    let column : k % c.width < c.width = mod_below k c.width some in
    let row : k / c.width < c.height = div_below k c.width c.height some (omega arith) in
    (λ j. reaches (sym is.left j) (sym is.side j) (k % c.width) && reaches (sym is.top j) (sym is.side j) (k / c.width))
    ∙ (λ j. columns (k % c.width) column j && rows (k / c.width) row j)
