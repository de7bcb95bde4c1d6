use Rattle.simlod_app.proofs.Files.{not_read, parsed}
use Rattle.simlod_app.proofs.reading.read_cloud.Goals as goal

pub returns-in-Err-clause-gives : goal.returns-in-Err-clause-gives
returns-in-Err-clause-gives g c =
    let due = not_read _ _ _ c.args.name.now c.args.how _ _ _ _ c.in-Err.fault c.read_fault.result c.in-Err.ensures.told c.in-Err.ensures.opened c.in-Err.ensures.causes c.read_fault.ensures.kind in
    (due.file, due.opened, due.read, due.due)

pub returns-clause-gives : goal.returns-clause-gives
returns-clause-gives g c =
    let due = parsed _ c.args.name.now c.args.how _ _ c.in-Ok.bytes.items c.as_slice.result.now c.parse.result _ _ c.in-Ok.ensures.opened.0 c.in-Ok.ensures.opened.1 c.as_slice.ensures.value c.in-Ok.ensures.told c.parse.ensures.gives in
    (due.file, due.opened, due.read, due.due)
