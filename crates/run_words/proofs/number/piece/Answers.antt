use Rattle.std.proofs.Common.{lit<}
use Rattle.std.proofs.lemmas.Iterator.Consumers.{nth_from_yields_List}
use Rattle.std.proofs.lemmas.Iterator.Splits.{YieldsList-from_str_split}
use Rattle.run_words.proofs.Pieces.{unwrapped}
use Rattle.run_words.proofs.number.piece.Goals as goal

pub returns : goal.returns
returns c =
    let nth = nth_from_yields_List c.nth.result _ c.args.place c.nth.ensures.ran (YieldsList-from_str_split 44 c.args.text.now (lit< tt) c.split.ensures.text c.split.ensures.has_more c.split.ensures.pattern) in
    rw c.unwrap_or.ensures (unwrapped c.nth.result _ _ c.args.place nth)
