use Rattle.std.proofs.Common.{sym, arith, ◌∙◌, ap, not}
use Rattle.std.specs.List.{position}
use Rattle.cube_math.specs.Cubes.{contains}
use Rattle.cube_math.proofs.Firsts.{all_pass}
use Rattle.cube_math.proofs.batch.Batch.new.Goals as goal

pub invariant_of-result : goal.invariant_of-result
invariant_of-result c = record { some = grind arith; few = omega arith; contained = all_pass (contains c.args.cube.now) c.args.points.items (ap (position (λ p. not (contains c.args.cube.now p))) (sym c.as_slice.ensures.value) ∙ sym c.in-None.ensures) }
