use Rattle.std.proofs.Common.{◌∙◌}
use Rattle.list_filers.proofs.Walking.{still_walked, claim_grows}
use Rattle.list_filers.proofs.ways.Ways.claim.Goals as goal

pub invariant_of-self : goal.invariant_of-self
invariant_of-self g c = (
  c.claim.ensures.name ∙ c.self.invariant.0,
  still_walked c.self.inside.lists.value.lists c.self.inside.lists.value.chunks c.self.inside.walked c.self.inside.seat.guest c.claim.new.seat.guest c.self.inside.cursors.items
      (claim_grows c.self.inside.seat.guest c.claim.new.seat.guest c.args.list _ c.claim.ensures.claimed) c.self.invariant.1,
)
