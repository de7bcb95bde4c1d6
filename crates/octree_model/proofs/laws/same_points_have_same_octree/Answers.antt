use Rattle.std.proofs.Common.{[], ap, ◌-◌}
use Rattle.octree_model.specs.Facts.{FactsAt}
use Rattle.octree_model.proofs.SameBagLaws.{same_facts}
use Rattle.octree_model.proofs.laws.same_points_have_same_octree.Goals as goal

pub returns : goal.returns
returns c = λ leaf cube first second same. ap (λ (f : FactsAt). f []) (same_facts leaf (cube.bits - 7) cube first second same)
