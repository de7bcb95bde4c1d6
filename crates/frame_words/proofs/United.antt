-- What two seats have drawn that were cut from one and are made one again.
use Rattle.std.proofs.Common.{◌≡◌, ℕ, List, [], ◌++◌, length, ◌∙◌, sym, subst, arith}
use Rattle.atomic_table.specs.Seated.{TableId}
use Rattle.picture_model.specs.Cameras.{CameraValue}
use Rattle.picture_model.specs.Items.{ItemValue}
use Rattle.frame_words.specs.Hands.{Sat, HasDrawn, IsPainter, giver, taker, united}
use Rattle.frame_words.proofs.Adding.{adds_both, capped_lesser}
use Rattle.frame_words.proofs.Kept.{length-lesser}

module _ (camera : CameraValue) (pixels : ℕ) (xs ys : List ItemValue) where
  both_drawn : (table : TableId) (t t' u v o p : TableId) (m n w : Sat) → IsPainter camera pixels m.0.shares table t m → v ≡ t
      → HasDrawn camera pixels xs t' (giver m.0, m.1) u n → HasDrawn camera pixels ys o (taker m.0, []) p w
      → HasDrawn camera pixels (xs ++ ys) t m v (united n.0 w.0, n.1)
  both_drawn table t t' u v o p m n w painter same front back = record {
    table_is = same;
    brush = record {
      long = length-lesser n.0.keys w.0.keys ∙ front.brush.long;
      shares_are = omega (arith, front.brush.shares_are, back.brush.shares_are);
      bare = front.brush.bare;
    };
    capped = capped_lesser n.0.keys w.0.keys front.capped;
    drawn = adds_both camera (length m.0.keys) xs ys m.0.keys n.0.keys w.0.keys (painter.brush.long
        ∙ painter.canvas.pixels_are) front.capped back.capped front.drawn back.drawn;
  }

  pub united_drawn : (table : TableId) (t t' u v o p : TableId) (m m' n w q r : Sat) → IsPainter camera pixels m.0.shares table t m → v ≡ t
      → m' ≡ (giver m.0, m.1) → q ≡ (taker m.0, []) → r ≡ (united n.0 w.0, n.1)
      → HasDrawn camera pixels xs t' m' u n → HasDrawn camera pixels ys o q p w → HasDrawn camera pixels (xs ++ ys) t m v r
  united_drawn table t t' u v o p m m' n w q r painter same cut given made front back =
      subst (HasDrawn camera pixels (xs ++ ys) t m v) (sym made)
      (both_drawn table t t' u v o p m n w painter same (subst (λ x. HasDrawn camera pixels xs t' x u n) cut front) (subst (λ x. HasDrawn camera
      pixels ys o x p w) given back))
