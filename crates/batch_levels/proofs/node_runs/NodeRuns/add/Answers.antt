use Rattle.batch_levels.proofs.NodeRunLaws.{next_run, all_joined}
use Rattle.batch_levels.proofs.node_runs.NodeRuns.add.Goals as goal

pub returns-else-is_join_due : goal.returns-else-is_join_due
returns-else-is_join_due c =
    next_run (λ run. run.value) c.self.inside.runs.items c.push.new.self.items c.in_ok-share.share c.args.run c.args.self.now c.in_ok-push.ensures.items c.in_ok-share.ensures.ok c.self.view_is

pub returns-in_ok-push-2 : goal.returns-in_ok-push-2
returns-in_ok-push-2 c =
    all_joined (λ run. run.value) c.push.new.self.items c.deref-then-is_join_due.result.now c.clear.new.self.items c.push-then-is_join_due.new.self.items c.in_ok-joined.joined c.in_ok-join.field-0 _
    c.deref-then-is_join_due.ensures.value c.in_ok-join.ensures.run c.in_ok-joined.ensures.ok c.clear.ensures.items c.in_ok-push-2.ensures.items
    (next_run (λ run. run.value) c.self.inside.runs.items c.push.new.self.items c.in_ok-share.share c.args.run c.args.self.now c.in_ok-push.ensures.items c.in_ok-share.ensures.ok c.self.view_is)
