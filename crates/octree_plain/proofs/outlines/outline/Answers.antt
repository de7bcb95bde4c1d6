use Rattle.std.proofs.Common.{◌≡◌, length, ap, arith}
use Rattle.cube_math.specs.Cubes.{CubeValue}
use Rattle.octree_plain.proofs.outlines.outline.Goals as goal

pub add_outline-requires-clause-room : goal.add_outline-requires-clause-room
add_outline-requires-clause-room c =
    let bits : c.cube.inside.bits ≡ c.args.cube.now.bits = ap (λ (v : CubeValue). v.bits) c.cube.view_is in
    omega (arith, bits, ap length c.root.ensures, c.cube.invariant.bits_high)
