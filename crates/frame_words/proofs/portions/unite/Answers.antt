use Rattle.frame_words.proofs.Kept.{joins}
use Rattle.frame_words.proofs.portions.unite.Goals as goal

pub join_seat-requires : goal.join_seat-requires
join_seat-requires c =
    let s = c.args.desk.now.shared in (
      c.requires.table,
      c.requires.other.0,
      c.requires.other.1,
      c.requires.some,
      joins s.key c.args.seat.now.id c.args.other.id c.args.seat.now.me.0
          c.args.other.me.0 c.requires.long,
    )
