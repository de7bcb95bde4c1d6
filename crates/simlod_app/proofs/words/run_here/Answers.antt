use Rattle.std.proofs.Common.{sym, ap}
use Rattle.run_words.specs.Values.{JobValue}
use Rattle.simlod_app.proofs.Jobs.{other_command, runs_here}
use Rattle.simlod_app.proofs.words.run_here.Goals as goal

pub returns-then-not-is_run-clause-gives : goal.returns-then-not-is_run-clause-gives
returns-then-not-is_run-clause-gives c =
    other_command c.args.job c.job.inside.command c.is_run.result (sym (ap (λ (j : JobValue). j.command) c.job.view_is)) c.is_run.ensures c.if-not-is_run.true

pub returns-clause-gives : goal.returns-clause-gives
returns-clause-gives c =
    runs_here c.args.job c.job.inside.command c.is_run.result (sym (ap (λ (j : JobValue). j.command) c.job.view_is)) c.is_run.ensures c.if-not-is_run.false
