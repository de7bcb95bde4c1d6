use Rattle.std.proofs.Common.{sym, subst, List, ℕ}
use Rattle.std.specs.Prelude.{IfOk}
use Rattle.cube_math.specs.Cubes.{CubeValue, FitsSpace}
use Rattle.leaf_counts.specs.Growing.{IsGrowing, IsGrown}
use Rattle.leaf_counts.proofs.growing.grow_all.Goals as goal

pub returns-clause-fits : goal.returns-clause-fits
returns-clause-fits c = subst (λ (cube : CubeValue). FitsSpace cube.ox cube.oy cube.oz cube.bits) c.cube.view_is c.cube.invariant

pub returns-clause-grown : goal.returns-clause-grown
returns-clause-grown c =
    λ root before batch growing.
    subst (λ (path : List ℕ). IfOk c.grow.result (λ growth. IsGrown before batch c.args.leaf path c.args.cube c.args.counts.now c.args.progress.now c.grow.new.progress growth)) c.root.ensures
    (c.grow.ensures root before batch
    (subst (λ (path : List ℕ). IsGrowing root before batch c.args.leaf path c.args.cube c.args.counts.now c.args.points.now c.args.spills.now c.args.progress.now.used) (sym c.root.ensures) growing))
