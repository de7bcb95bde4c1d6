use Rattle.std.proofs.Common.{◌≡◌, ◌≤◌, ◌+◌, ◌*◌, ◌/◌, ◌%◌, ◌^◌, ◌==◌, max, ℕ, ℤ, pos, unsigned_abs, ◌+ℤ◌, ◌-ℤ◌, ◌*ℤ◌, false, Some, ap, ◌∙◌, sym, subst, arith, rules, FitsSigned, to_z, of_z, w32, w64, if◌then◌else◌}
use Rattle.std.specs.Int.Signed.{lt_z}
use Rattle.std.proofs.lemmas.Int.{to_z-of_z}
use Rattle.picture_model.specs.Cameras.{CameraValue, Triple, along, depth, floor_over, seen_at}
use Rattle.picture_model.specs.Frames.{spot}
use Rattle.picture_model.specs.Items.{ItemValue, item_place}
use Rattle.camera_cut.proofs.Sizes.{kept}
use Rattle.splat_ppm.proofs.SpotLaws.{not_below, drawn_spot}
use Rattle.splat_ppm.proofs.spot.project.Goals as goal

pub returns : goal.returns
returns c =
    let camera : CameraValue = c.args.camera.now in
    let i : ItemValue = record { x = c.item.inside.x; y = c.item.inside.y; z = c.item.inside.z; side = c.item.inside.side; rgb = c.item.inside.rgb } in
    let seen : Triple = c.place-right.result in
    let deep : ℕ = unsigned_abs (to_z w64 (of_z w64 seen.2)) in
    let side : ℕ = c.square_side-side.result in
    let raw : Triple = (to_z w32 (of_z w32 i.x), to_z w32 (of_z w32 i.y), to_z w32 (of_z w32 i.z)) in
    let x : FitsSigned w32 i.x = search rules in
    let y : FitsSigned w32 i.y = search rules in
    let z : FitsSigned w32 i.z = search rules in
    let there : raw ≡ item_place i = λ j. (to_z-of_z w32 i.x x j, to_z-of_z w32 i.y y j, to_z-of_z w32 i.z z j) in
    let place : seen ≡ seen_at camera (item_place i) = c.place-right.ensures.place ∙ ap (seen_at camera) there in
    let wide : to_z w64 (of_z w64 seen.0) ≡ seen.0 = kept seen.0 (omega (arith, c.place-right.ensures.right_small)) in
    let high : to_z w64 (of_z w64 seen.1) ≡ seen.1 = kept seen.1 (omega (arith, c.place-right.ensures.down_small)) in
    let far : to_z w64 (of_z w64 seen.2) ≡ seen.2 = kept seen.2 (omega (arith, c.place-right.ensures.forward_small)) in
    let near : to_z w64 (of_z w64 c.from.result) ≡ pos c.near.result = kept c.from.result (omega (arith, ap unsigned_abs c.from.ensures, c.near.ensures.high)) ∙ c.from.ensures in
    let before : lt_z seen.2 (pos c.near.result) ≡ false = (λ j. lt_z (sym far j) (sym near j)) ∙ c.if-depth-from.false in
    let is_deep : (seen.2 ≡ pos (unsigned_abs seen.2)) × (c.near.result ≤ unsigned_abs seen.2) = not_below seen.2 c.near.result before in
    let same : deep ≡ unsigned_abs seen.2 = ap unsigned_abs far in
    let at : depth camera (item_place i) ≡ pos deep = sym (ap (λ (t : Triple). t.2) place) ∙ is_deep.0 ∙ ap pos (sym same) in
    let left : ℤ = to_z w64 (of_z w64 c.square_begin.result) in
    let top : ℤ = to_z w64 (of_z w64 c.square_begin-2.result) in
    let left_kept : left ≡ c.square_begin.result = kept c.square_begin.result (omega (arith, c.square_begin.ensures.small)) in
    let top_kept : top ≡ c.square_begin-2.result = kept c.square_begin-2.result (omega (arith, c.square_begin-2.ensures.small)) in
    let Begins : ℤ → ℕ → ℕ → ℤ → Type 0 = λ out pixels focal off. out ≡ (pos (pixels / 2) +ℤ floor_over (pos focal *ℤ off) deep) -ℤ pos (side / 2) in
    let left_is : Begins left camera.width camera.focal (along camera.eye camera.right (item_place i)) =
    left_kept ∙ c.square_begin.ensures.value ∙ (λ j. (pos (c.width.ensures.value j / 2) +ℤ floor_over (pos (c.focal-2.ensures.value j) *ℤ (wide ∙ ap (λ (t : Triple). t.0) place) j) deep) -ℤ pos (side / 2)) in
    let top_is : Begins top camera.height camera.focal (along camera.eye camera.down (item_place i)) =
    top_kept ∙ c.square_begin-2.ensures.value ∙ (λ j. (pos (c.height.ensures.value j / 2) +ℤ floor_over (pos (c.focal-3.ensures.value j) *ℤ (high ∙ ap (λ (t : Triple). t.1) place) j) deep) -ℤ pos (side / 2)) in
    let side_is : side ≡ (if i.side == 0 then camera.dot else max 1 (camera.focal * i.side / deep)) =
    c.square_side-side.ensures.value ∙ (λ j. if i.side == 0 then c.dot.ensures.value j else max 1 (c.focal.ensures.value j * i.side / deep)) in
    let key_is : deep * 16777216 % 18446744073709551616 + c.from-2.result ≡ deep * 2 ^ 24 + i.rgb = omega (arith, same, c.place-right.ensures.forward_small, c.from-2.ensures) in
    let near_is : camera.near ≤ deep = omega (arith, same, is_deep.1, c.near.ensures.value) in
    subst (λ (item : ItemValue). Some record { left = left; top = top; side = side; key = deep * 16777216 % 18446744073709551616 + c.from-2.result } ≡ spot camera item) c.item.view_is
    (drawn_spot camera i deep left top side _ at near_is side_is left_is top_is key_is)
