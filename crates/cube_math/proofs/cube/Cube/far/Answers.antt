use Rattle.std.proofs.Common.{rules}
use Rattle.cube_math.specs.Cubes.{far}
use Rattle.cube_math.proofs.Axes.{on_y, on_z}
use Rattle.cube_math.proofs.cube.Cube.far.Goals as goal

pub away_from_middle-y-requires-clause-contained : goal.away_from_middle-y-requires-clause-contained
away_from_middle-y-requires-clause-contained c = search (rules, on_y c.args.self.now c.args.p.now c.requires.contained)

pub away_from_middle-z-requires-clause-contained : goal.away_from_middle-z-requires-clause-contained
away_from_middle-z-requires-clause-contained c = search (rules, on_z c.args.self.now c.args.p.now c.requires.contained)

pub returns-clause-value : goal.returns-clause-value
unfolding far
returns-clause-value c = search rules
