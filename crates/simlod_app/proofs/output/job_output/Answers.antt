use Rattle.std.proofs.Common.{◌∙◌, ap, map, string_bytes, vec_items}
use Rattle.std.proofs.lemmas.Result.{err_from_is_err_and}
use Rattle.cloud_io.specs.Counts.{Rose}
use Rattle.run_words.specs.Values.{JobValue}
use Rattle.simlod_app.proofs.Jobs.{clouds_refused, clouds_shown}
use Rattle.simlod_app.proofs.output.job_output.Goals as goal

pub returns-in_err-clouds-clause-gives : goal.returns-in_err-clouds-clause-gives
returns-in_err-clouds-clause-gives g c =
    let p = err_from_is_err_and c.from_residual.result c.from_residual.ensures.1 in
    rw (p.1, p.2)
    (clouds_refused (g.I.Inputs.files c.args.inputs.now) c.args.job.now (map string_bytes c.as_slice.result.now) c.reading_of.result _ _ (Rose (g.I.Inputs.faults c.args.inputs.now) (g.I.Inputs.faults c.read_clouds.new.inputs))
    (Rose (g.I.Inputs.missing c.args.inputs.now) (g.I.Inputs.missing c.read_clouds.new.inputs)) c.in_err-clouds.field-0.0 (ap (map string_bytes) c.as_slice.ensures.value ∙ ap (λ (j : JobValue). j.files) c.job.view_is) c.reading_of.ensures c.in_err-clouds.ensures.gives)

pub returns-clause-gives : goal.returns-clause-gives
returns-clause-gives g c =
    clouds_shown (g.I.Inputs.files c.args.inputs.now) c.args.job.now (map string_bytes c.as_slice.result.now) c.reading_of.result _ _ (Rose (g.I.Inputs.faults c.args.inputs.now) (g.I.Inputs.faults c.read_clouds.new.inputs))
    (Rose (g.I.Inputs.missing c.args.inputs.now) (g.I.Inputs.missing c.read_clouds.new.inputs)) (map vec_items c.in_ok-clouds.clouds.items) c.clouds_output.result (ap (map string_bytes) c.as_slice.ensures.value ∙ ap (λ (j : JobValue). j.files) c.job.view_is) c.reading_of.ensures c.in_ok-clouds.ensures.gives
    c.clouds_output.ensures.gives
