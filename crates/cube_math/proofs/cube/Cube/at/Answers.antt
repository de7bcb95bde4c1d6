use Rattle.std.proofs.Common.{◌≡◌, ◌-◌, ◌∙◌, ap, arith}
use Rattle.cube_math.specs.Cubes.{CubeValue}
use Rattle.cube_math.proofs.Ways.{one_step}
use Rattle.cube_math.proofs.cube.Cube.at.Goals as goal

pub loop-step-preserved : goal.loop-step-preserved
loop-step-preserved c =
    let bits : c.child-cube.result.bits ≡ c.loop-step.cube.bits - 1 = ap (λ (k : CubeValue). k.bits) c.child-cube.ensures in
    record {
      leads = one_step c.loop-step.cube c.child-cube.result c.args.path.now c.loop-step.step c.octant.result c.octant.ensures.value c.child-cube.ensures ∙ c.loop-step.invariant.leads;
      room = omega (arith, bits, c.loop-step.invariant.room);
    }
