use Rattle.std.proofs.Common.{arith}
use Rattle.splat_ppm.proofs.CellMiddles.{off_small, off_kept, off_fits}
use Rattle.splat_ppm.proofs.items.off_of_cell.Goals as goal

pub overflow_add-result : goal.overflow_add-result
overflow_add-result c =
    omega (arith, off_kept c.args.bits c.args.index c.requires.low c.requires.high c.requires.index, off_fits c.args.bits c.args.index c.requires.low c.requires.high c.requires.index)

pub returns-clause-value : goal.returns-clause-value
returns-clause-value c = off_kept c.args.bits c.args.index c.requires.low c.requires.high c.requires.index

pub returns-clause-small : goal.returns-clause-small
returns-clause-small c =
    omega (arith, off_kept c.args.bits c.args.index c.requires.low c.requires.high c.requires.index, off_small c.args.bits c.args.index c.requires.low c.requires.high c.requires.index)
