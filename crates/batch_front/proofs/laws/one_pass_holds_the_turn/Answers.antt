-- Who holds the turn has the ticket that is served.
use Rattle.batch_front.proofs.Meeting.{one_holds}
use Rattle.batch_front.proofs.laws.one_pass_holds_the_turn.Goals as goal

pub returns : goal.returns
returns g c = λ front s j h n m t x v u kept at at'. one_holds g.V.Chronicle.record g.V.Chronicle.site front.site front.passes s kept j h v u at at' t x
