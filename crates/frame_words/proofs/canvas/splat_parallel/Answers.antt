use Rattle.std.proofs.Common.{◌≡◌, IfOk, subst, rules}
use Rattle.picture_model.specs.Frames.{frame}
use Rattle.splat_ppm.proofs.SameItems.{same_frame}
use Rattle.frame_words.proofs.canvas.splat_parallel.Goals as goal

pub returns-clause-bag : goal.returns-clause-bag
returns-clause-bag g c others same =
    let first : IfOk c.frame.result (λ f. f ≡ frame c.args.camera.now c.args.items.now) = search rules in
    subst (λ v. IfOk c.frame.result (λ f. f ≡ v)) (same_frame c.args.camera.now c.args.items.now others same) first
