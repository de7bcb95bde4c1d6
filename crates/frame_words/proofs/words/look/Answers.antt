use Rattle.std.proofs.Common.{arith}
use Rattle.frame_words.proofs.Kept.{looks}
use Rattle.frame_words.proofs.words.look.Goals as goal

pub load-requires : goal.load-requires
load-requires g c =
    let s = c.args.desk.now.shared in let n = c.requires.pixel in (
      c.requires.table,
      omega (arith, c.requires.sized),
      looks s.key s.table_id.slots c.args.seat.now.id c.args.seat.now.me
          c.args.seat.now.me.0.shares c.requires.brush c.args.pixel g.K.Key.key n c.requires.some,
    )
