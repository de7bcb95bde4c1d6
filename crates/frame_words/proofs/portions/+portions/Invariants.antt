use Rattle.frame_words.proofs.portions.+portions.Given as goal
use Rattle.std.proofs.Common.{◌+◌, ◌-◌, ◌*◌}

abbrev pub decreases-draw_portion : goal.decreases-draw_portion
decreases-draw_portion g l = 4 * l.workers

abbrev pub decreases-draw_both : goal.decreases-draw_both
decreases-draw_both g l = 4 * (l.rest + l.half) - 1

abbrev pub decreases-draw_both-front : goal.decreases-draw_both-front
decreases-draw_both-front g l = 4 * l.rest + 1

abbrev pub decreases-draw_both-back : goal.decreases-draw_both-back
decreases-draw_both-back g l = 4 * l.half + 1
