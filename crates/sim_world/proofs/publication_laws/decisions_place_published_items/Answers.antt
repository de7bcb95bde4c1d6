use Rattle.sim_world.proofs.DecisionLaws.{published_placed}
use Rattle.sim_world.proofs.publication_laws.decisions_place_published_items.Goals as goal

pub returns : goal.returns
returns c job w b seat late x p is = published_placed job w b is seat late x p
