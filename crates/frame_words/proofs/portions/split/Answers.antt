use Rattle.frame_words.proofs.Kept.{splits}
use Rattle.frame_words.proofs.portions.split.Goals as goal

pub split_seat-requires : goal.split_seat-requires
split_seat-requires c =
    let s = c.args.desk.now.shared in
    (c.requires.table, c.requires.some, splits s.key c.args.seat.now.id c.args.seat.now.me.0)
