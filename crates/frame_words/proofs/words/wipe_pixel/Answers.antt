use Rattle.std.proofs.Common.{arith}
use Rattle.frame_words.proofs.Kept.{wipes}
use Rattle.frame_words.proofs.words.wipe_pixel.Goals as goal

pub store-requires : goal.store-requires
store-requires c =
    let s = c.args.desk.now.shared in (
      c.requires.table,
      omega (arith, c.requires.sized, c.requires.pixel),
      wipes s.key s.table_id.slots c.args.seat.now.id c.args.seat.now.me 16
          c.requires.whole c.args.pixel c.requires.pixel c.requires.whole.shares_are,
    )
