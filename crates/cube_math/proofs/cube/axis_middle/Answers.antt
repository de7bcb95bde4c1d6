use Rattle.std.proofs.Common.{arith}
use Rattle.std.proofs.lemmas.Int.{ints}
use Rattle.cube_math.proofs.Axes.{half_side, HalfSide}
use Rattle.cube_math.proofs.cube.axis_middle.Goals as goal

pub overflow_add-result : goal.overflow_add-result
overflow_add-result c =
    let h : HalfSide c.args.bits = half_side c.args.bits c.requires.low c.requires.high in
    rw h.shifted (omega (arith, ints))

pub returns-clause-value : goal.returns-clause-value
returns-clause-value c =
    let h : HalfSide c.args.bits = half_side c.args.bits c.requires.low c.requires.high in
    rw h.shifted (omega (arith, ints))

pub returns-clause-end : goal.returns-clause-end
returns-clause-end c =
    let h : HalfSide c.args.bits = half_side c.args.bits c.requires.low c.requires.high in
    rw h.shifted (omega (arith, ints))
