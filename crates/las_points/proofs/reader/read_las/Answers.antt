use Rattle.std.proofs.lemmas.Result.{err_from_is_err_and}
use Rattle.las_points.proofs.ReadingLaws.{IsFault-refused, las-accepted}
use Rattle.las_points.proofs.reader.read_las.Goals as goal

pub returns-in_err-table-clause-fault : goal.returns-in_err-table-clause-fault
returns-in_err-table-clause-fault c =
    let same = err_from_is_err_and c.from_residual.result c.from_residual.ensures.1 in
    rw (same.1, same.2) (IsFault-refused c.args.rgb c.args.bytes.now _ c.in_err-table.ensures.fault)

pub returns-clause-cloud : goal.returns-clause-cloud
returns-clause-cloud c = rw c.read_frame.ensures (las-accepted c.args.rgb c.args.bytes.now _ _ c.in_ok-table.ensures.accepted c.in_ok-table.ensures.table.count c.in-Ok.ensures)
