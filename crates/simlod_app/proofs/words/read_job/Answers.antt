use Rattle.simlod_app.proofs.Jobs.{a_job, no_job}
use Rattle.simlod_app.proofs.words.read_job.Goals as goal

pub returns-in-Ok-clause-gives : goal.returns-in-Ok-clause-gives
returns-in-Ok-clause-gives c = a_job _ c.in-Ok.job c.run_here.result c.in-Ok.ensures.accepted c.run_here.ensures.gives

pub returns-in-Err-clause-gives : goal.returns-in-Err-clause-gives
returns-in-Err-clause-gives c = no_job _ c.in-Err.fault c.words_fault.result c.in-Err.ensures.refused c.words_fault.ensures.kind
