use Rattle.std.proofs.Common.{ap, ◌∙◌}
use Rattle.batch_front.proofs.Passing.{pass_away}
use Rattle.batch_front.proofs.front.Front.enter.Goals as goal

pub take-value-requires-clause-away : goal.take-value-requires-clause-away
take-value-requires-clause-away g c =
    let p = c.pass.inside in
    pass_away (g.V.Chronicle.site p.opening.value.value.value) p.number p.known p.seat.me c.pass.invariant (ap (λ v. v.turn) c.pass.view_is ∙ c.requires.away)
