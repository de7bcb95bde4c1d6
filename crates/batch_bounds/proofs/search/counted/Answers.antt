use Rattle.batch_bounds.proofs.search.counted.Goals as goal

pub node_count-count-requires : goal.node_count-count-requires
node_count-count-requires c = record {
  cube = record { ox = c.cube.inside.ox; oy = c.cube.inside.oy; oz = c.cube.inside.oz; bits = c.cube.inside.bits };
  fits = c.cube.invariant;
  octree = record { leaf = c.args.leaf; points = c.args.points.now; few = c.requires.few; is = c.in_ok-tree.ensures };
}
