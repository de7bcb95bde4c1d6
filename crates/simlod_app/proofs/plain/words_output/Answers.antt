use Rattle.std.proofs.Common.{map}
use Rattle.std.specs.Prelude.{string_bytes}
use Rattle.std.proofs.lemmas.Result.{err_from_is_err_and}
use Rattle.cloud_io.specs.Counts.{Rose}
use Rattle.simlod_app.proofs.Jobs.{answer_of_job, refused_words}
use Rattle.simlod_app.proofs.plain.words_output.Goals as goal

pub returns-in_err-job-clause-gives : goal.returns-in_err-job-clause-gives
returns-in_err-job-clause-gives g c =
    let p = err_from_is_err_and c.from_residual.result c.from_residual.ensures.1 in
    rw (p.1, p.2) (refused_words (g.I.Inputs.files c.args.inputs.now) (map string_bytes c.args.words.now) _ (Rose (g.I.Inputs.faults c.args.inputs.now) (g.I.Inputs.faults c.args.inputs.now))
    (Rose (g.I.Inputs.missing c.args.inputs.now) (g.I.Inputs.missing c.args.inputs.now)) c.in_err-job.field-0.0 c.in_err-job.ensures.gives)

pub returns-clause-gives : goal.returns-clause-gives
returns-clause-gives g c =
    answer_of_job (g.I.Inputs.files c.args.inputs.now) (map string_bytes c.args.words.now) c.in_ok-job.job _ _ (Rose (g.I.Inputs.faults c.args.inputs.now) (g.I.Inputs.faults c.job_output.new.inputs))
    (Rose (g.I.Inputs.missing c.args.inputs.now) (g.I.Inputs.missing c.job_output.new.inputs)) c.job_output.result c.in_ok-job.ensures.gives c.job_output.ensures.gives
