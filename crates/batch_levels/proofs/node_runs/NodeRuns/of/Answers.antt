use Rattle.batch_levels.proofs.NodeRunLaws.{first_run}
use Rattle.batch_levels.proofs.node_runs.NodeRuns.of.Goals as goal

pub returns : goal.returns
returns c = first_run (λ run. run.value) c.new-runs.result.items c.push.new.self.items c.in_ok-share.share c.args.run c.new-runs.ensures.items c.in_ok-push.ensures.items c.in_ok-share.ensures.ok
