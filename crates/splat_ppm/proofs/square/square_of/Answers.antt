use Rattle.std.proofs.Common.{◌≡◌, ◌/◌, ◌%◌, ◌^◌, ◌≤◌, ◌<◌, ℕ, Some, ap, ◌∙◌, ◌*◌, List, length, sym, subst, arith, to_z, of_z, w64}
use Rattle.picture_model.specs.Cameras.{CameraValue}
use Rattle.picture_model.specs.Frames.{SpotValue, covers, item_key, reaches}
use Rattle.picture_model.specs.Items.{ItemValue}
use Rattle.camera_cut.proofs.Sizes.{kept}
use Rattle.splat_ppm.specs.Lowering.{AreLowered, lies_in, lies_in_square}
use Rattle.splat_ppm.proofs.Lowered.{lowered_where}
use Rattle.splat_ppm.proofs.Shown.{one_drawn, none_drawn, length-drawn_keys}
use Rattle.splat_ppm.proofs.SpotLaws.{IsDrawnAs, drawn_as, not_drawn, covered}
use Rattle.splat_ppm.proofs.square.square_of.Goals as goal

pub returns-in_default-clause-nothing : goal.returns-in_default-clause-nothing
returns-in_default-clause-nothing c items = none_drawn c.args.camera.now items c.args.item.now (not_drawn c.args.camera.now c.args.item.now (sym c.in_default.ensures))

pub returns-clause-within : goal.returns-clause-within
returns-clause-within c = record {
  ordered = c.part_within-columns.ensures.ordered;
  columns = omega (arith, c.part_within-columns.ensures.within, c.width.ensures.value);
  rows = omega (arith, c.part_within-rows.ensures.within, c.height.ensures.value);
}

pub returns-clause-drawn : goal.returns-clause-drawn
returns-clause-drawn c items old new shows lowered =
    let camera : CameraValue = c.args.camera.now in
    let item : ItemValue = c.args.item.now in
    let s : SpotValue = record { left = c.spot.inside.left; top = c.spot.inside.top; side = c.spot.inside.side; key = c.spot.inside.key } in
    let is : IsDrawnAs camera item s = drawn_as camera item s (sym c.in-Some.ensures ∙ ap (λ (t : SpotValue). Some t) (sym c.spot.view_is)) in
    let left : to_z w64 (of_z w64 s.left) ≡ s.left = kept s.left (omega (arith, c.spot.invariant.left_small)) in
    let top : to_z w64 (of_z w64 s.top) ≡ s.top = kept s.top (omega (arith, c.spot.invariant.top_small)) in
    let first : ℕ = c.part_within-columns.result.first in
    let end : ℕ = c.part_within-columns.result.end in
    let upper : ℕ = c.part_within-rows.result.first in
    let lower : ℕ = c.part_within-rows.result.end in
    let columns : (x : ℕ) → x < camera.width → reaches s.left s.side x ≡ lies_in first end x = λ x l.
    ap (λ z. reaches z s.side x) (sym left) ∙ c.part_within-columns.ensures.value x (omega (arith, c.width.ensures.value)) in
    let rows : (y : ℕ) → y < camera.height → reaches s.top s.side y ≡ lies_in upper lower y = λ y l.
    ap (λ z. reaches z s.side y) (sym top) ∙ c.part_within-rows.ensures.value y (omega (arith, c.height.ensures.value)) in
    let some : 0 < camera.width = omega (arith, c.width.ensures.value, c.width.ensures.low) in
    let size : length old ≡ camera.width * camera.height = ap length shows ∙ length-drawn_keys camera items in
    let keyed : AreLowered (lies_in_square camera.width first end upper lower) (item_key camera item) old new =
    subst (λ n. AreLowered (lies_in_square camera.width first end upper lower) n old new) is.key lowered in
    let small : item_key camera item ≤ 2 ^ 60 = omega (arith, is.key, c.spot.invariant.key_small) in
    one_drawn camera items item old new is.drawn small shows
    (lowered_where (lies_in_square camera.width first end upper lower) (λ k. covers camera item (k % camera.width) (k / camera.width)) (item_key camera item) old new
    (λ k l. covered camera item s first end upper lower k is some columns rows (omega (arith, size))) keyed)
