use Rattle.frame_words.proofs.Adding.{capped_lowered}
use Rattle.frame_words.proofs.brush.draw_item.Goals as goal

pub returns-in-Some-clause-capped : goal.returns-in-Some-clause-capped
returns-in-Some-clause-capped c = capped_lowered _ _ _ _ c.lower_square.ensures.lowered c.requires.capped
