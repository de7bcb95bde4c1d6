use Rattle.std.proofs.Common.{◌*◌, ◌∙◌}
use Rattle.chunk_lists.specs.Knives.{lists_of}
use Rattle.worked_lists.proofs.Laid.{few_seats, lists_with_reader, plots_with_reader}
use Rattle.worked_lists.proofs.tests.hiring.hired.Goals as goal

pub new-requires-clause-seats : goal.new-requires-clause-seats
new-requires-clause-seats c =
    let crew = c.args.crew in
    few_seats (lists_of c.hire.new.knife) crew.lists c.args.chunks (crew.workers * crew.places) crew.workers (c.in_ok-workers.ensures.laid_out c.args.chunks c.in_ok-lists.ensures.laid_out) c.requires.room.2

pub returns-clause-rows : goal.returns-clause-rows
returns-clause-rows c =
    let crew = c.args.crew in
    lists_with_reader (lists_of c.hire.new.knife) crew.lists c.args.chunks (crew.workers * crew.places) crew.workers (c.in_ok-workers.ensures.laid_out c.args.chunks c.in_ok-lists.ensures.laid_out) (lists_of c.in_ok-owner.owner.knife) c.in_ok-owner.ensures.knife

pub returns-clause-plots : goal.returns-clause-plots
returns-clause-plots c =
    let crew = c.args.crew in
    plots_with_reader (lists_of c.hire.new.knife) crew.lists c.args.chunks (crew.workers * crew.places) crew.workers (c.in_ok-workers.ensures.laid_out c.args.chunks c.in_ok-lists.ensures.laid_out) (lists_of c.in_ok-owner.owner.knife) c.in_ok-owner.ensures.knife

pub returns-clause-workers : goal.returns-clause-workers
returns-clause-workers c k d lt = c.in_ok-workers.ensures.names k d lt ∙ c.in_ok-lists.ensures.name
