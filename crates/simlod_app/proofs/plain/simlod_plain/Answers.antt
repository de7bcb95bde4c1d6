use Rattle.std.proofs.Common.{map, refl}
use Rattle.std.specs.Prelude.{string_bytes}
use Rattle.simlod_app.proofs.Endings.{run_cut, run_refused, run_written}
use Rattle.simlod_app.proofs.plain.simlod_plain.Goals as goal

pub returns-in-Err-clause-run : goal.returns-in-Err-clause-run
returns-in-Err-clause-run g c = run_refused _ (map string_bytes c.args.words.now) _ _ c.in-Err.fault c.refuse.result c.in-Err.ensures.gives refl c.refuse.ensures

pub returns-in-Ok-write_all-clause-run : goal.returns-in-Ok-write_all-clause-run
returns-in-Ok-write_all-clause-run g c =
    run_written _ (map string_bytes c.args.words.now) _ _ c.in-Ok.text.items c.as_slice.result.now c.in-Ok.ensures.gives c.as_slice.ensures.value c.in-Ok-write_all.ensures.appends refl

pub returns-clause-run : goal.returns-clause-run
returns-clause-run g c =
    run_cut _ (map string_bytes c.args.words.now) _ _ c.in-Ok.text.items c.as_slice.result.now c.output_fault_line.result.now c.in-Ok.ensures.gives c.as_slice.ensures.value
    c.in-Err-write_all.ensures.appends c.in-Err-write_all.ensures.cause.failed c.output_fault_line.ensures c.tell.ensures
