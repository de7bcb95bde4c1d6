use Rattle.std.proofs.Common.{length, ap, arith, subst}
use Rattle.cube_math.specs.Cubes.{CubeValue, FitsSpace}
use Rattle.octree_plain.proofs.listing.nodes_text.Goals as goal

abbrev Fits : CubeValue → Type 0
Fits v = FitsSpace v.ox v.oy v.oz v.bits

pub write_lines-requires : goal.write_lines-requires
write_lines-requires c =
    let fits : Fits c.args.cube.now = subst Fits c.cube.view_is c.cube.invariant in
    record {
      cube = c.args.cube.now;
      octree = c.requires;
      room = omega (arith, ap length c.root.ensures, fits.bits_high);
    }

pub node_count-nodes-requires : goal.node_count-nodes-requires
node_count-nodes-requires c = record { cube = c.args.cube.now; fits = subst Fits c.cube.view_is c.cube.invariant; octree = c.requires }

pub point_count-points-requires : goal.point_count-points-requires
point_count-points-requires c = record { cube = c.args.cube.now; fits = subst Fits c.cube.view_is c.cube.invariant; octree = c.requires }
