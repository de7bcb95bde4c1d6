use Rattle.std.proofs.Common.{◌<◌, ◌∙◌, sym, subst, arith}
use Rattle.frame_words.specs.Hands.{IsBrush}
use Rattle.frame_words.proofs.Kept.{draws}
use Rattle.frame_words.proofs.words.lower_pixel.Goals as goal

pub fetch_min-requires : goal.fetch_min-requires
fetch_min-requires c =
    let s = c.args.desk.now.shared in let kept = c.look.ensures.kept c.if-look-key.true in
    let brush = subst (IsBrush s.key c.args.seat.now.me.0.shares) (sym kept) c.requires.brush in (
      c.look.ensures.table ∙ c.requires.table,
      omega (arith, c.requires.sized, c.requires.pixel),
      draws s.key s.table_id.slots c.look.new.seat.id c.look.new.seat.me c.args.seat.now.me.0.shares brush c.args.pixel c.args.key c.requires.pixel
          (subst (λ m. 0 < m.0.shares) (sym kept) c.requires.some),
    )
