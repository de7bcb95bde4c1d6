use Rattle.std.proofs.Common.{arith}
use Rattle.frame_words.proofs.Kept.{reads}
use Rattle.frame_words.proofs.words.read_pixel.Goals as goal

pub load-requires : goal.load-requires
load-requires c =
    let s = c.args.desk.now.shared in (
      c.requires.table,
      omega (arith, c.requires.sized, c.requires.pixel),
      reads s.key s.table_id.slots c.args.seat.now.id c.args.seat.now.me 16
          c.requires.whole c.args.pixel c.requires.pixel,
    )
