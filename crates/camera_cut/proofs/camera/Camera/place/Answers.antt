use Rattle.std.proofs.Common.{◌≡◌, ◌∙◌, ap, to_z, of_z, w32, w64, arith}
use Rattle.std.proofs.lemmas.Int.{to_z-of_z}
use Rattle.picture_model.specs.Cameras.{CameraValue, Triple, along, seen_at}
use Rattle.camera_cut.specs.Kept.{camera_value, triple_of}
use Rattle.camera_cut.proofs.Sizes.{kept}
use Rattle.camera_cut.proofs.camera.Camera.place.Goals as goal

pub returns-clause-place : goal.returns-clause-place
returns-clause-place c =
    let a : to_z w64 (of_z w64 c.along.result) ≡ c.along.result = kept c.along.result (omega (arith, c.along.ensures.small)) in
    let b : to_z w64 (of_z w64 c.along-2.result) ≡ c.along-2.result = kept c.along-2.result (omega (arith, c.along-2.ensures.small)) in
    let d : to_z w64 (of_z w64 c.along-3.result) ≡ c.along-3.result = kept c.along-3.result (omega (arith, c.along-3.ensures.small)) in
    let at : Triple = (c.args.x, c.args.y, c.args.z) in
    let raw : Triple = (to_z w32 (of_z w32 c.args.x), to_z w32 (of_z w32 c.args.y), to_z w32 (of_z w32 c.args.z)) in
    let first : to_z w32 (of_z w32 c.args.x) ≡ c.args.x = to_z-of_z w32 c.args.x c.ranges.x in
    let second : to_z w32 (of_z w32 c.args.y) ≡ c.args.y = to_z-of_z w32 c.args.y c.ranges.y in
    let third : to_z w32 (of_z w32 c.args.z) ≡ c.args.z = to_z-of_z w32 c.args.z c.ranges.z in
    let there : raw ≡ at = λ i. (first i, second i, third i) in
    let eye : Triple = triple_of c.self.inside.eye in
    let x : c.along.result ≡ along eye (triple_of c.self.inside.right) at = c.along.ensures.value ∙ ap (along eye (triple_of c.self.inside.right)) there in
    let y : c.along-2.result ≡ along eye (triple_of c.self.inside.down) at = c.along-2.ensures.value ∙ ap (along eye (triple_of c.self.inside.down)) there in
    let z : c.along-3.result ≡ along eye (triple_of c.self.inside.forward) at = c.along-3.ensures.value ∙ ap (along eye (triple_of c.self.inside.forward)) there in
    let whole : Triple = (c.along.result, c.along-2.result, c.along-3.result) in
    let same : whole ≡ seen_at (camera_value c.self.inside) at = λ i. (x i, y i, z i) in
    rw (a, b, d) (same ∙ ap (λ (v : CameraValue). seen_at v at) c.self.view_is)
