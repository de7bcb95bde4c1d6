use Rattle.std.proofs.Common.{subst}
use Rattle.cube_math.specs.Cubes.{CubeValue, FitsSpace}
use Rattle.octree_model.specs.Shapes.{IsOctree}
use Rattle.octree_plain.proofs.SummaryLaws.{HasSmallTotals, totals_fit}
use Rattle.octree_plain.proofs.summary.demo_text.Goals as goal

abbrev Fits : CubeValue → Type 0
Fits v = FitsSpace v.ox v.oy v.oz v.bits

pub totals_of-totals-requires-clause-leaves : goal.totals_of-totals-requires-clause-leaves
totals_of-totals-requires-clause-leaves c =
    let octree : IsOctree c.args.tree.now = record { cube = c.args.cube.now; fits = subst Fits c.cube.view_is c.cube.invariant; octree = c.requires } in
    (totals_fit c.args.tree.now octree).leaves

pub totals_of-totals-requires-clause-inner : goal.totals_of-totals-requires-clause-inner
totals_of-totals-requires-clause-inner c =
    let octree : IsOctree c.args.tree.now = record { cube = c.args.cube.now; fits = subst Fits c.cube.view_is c.cube.invariant; octree = c.requires } in
    (totals_fit c.args.tree.now octree).inner

pub totals_of-totals-requires-clause-voxels : goal.totals_of-totals-requires-clause-voxels
totals_of-totals-requires-clause-voxels c =
    let octree : IsOctree c.args.tree.now = record { cube = c.args.cube.now; fits = subst Fits c.cube.view_is c.cube.invariant; octree = c.requires } in
    (totals_fit c.args.tree.now octree).voxels
