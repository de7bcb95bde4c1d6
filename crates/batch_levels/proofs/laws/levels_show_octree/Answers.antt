use Rattle.batch_levels.proofs.ShownLaws.{shown_of}
use Rattle.batch_levels.proofs.laws.levels_show_octree.Goals as goal

pub returns : goal.returns
returns c = shown_of c.args.leaf c.args.cube.now c.args.points.now
