use Rattle.octree_model.proofs.LeafLaws.{cubes_are}
use Rattle.octree_model.proofs.laws.paths_lead_to_cubes.Goals as goal

pub returns : goal.returns
returns c = cubes_are
