use Rattle.std.proofs.Common.{◌≡◌, ◌++◌, map, vec_items}
use Rattle.octree_model.specs.Bags.{joined}
use Rattle.simlod_app.proofs.clouds.join.Given as goal

abbrev pub invariant-loop-cloud : goal.invariant-loop-cloud
invariant-loop-cloud l = l.points.items ++ joined (map vec_items l.cloud-iterator.rest.items) ≡ joined (map vec_items l.fn.clouds.items)
