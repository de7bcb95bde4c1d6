use Rattle.sim_world.specs.Steps.{run}
use Rattle.sim_world.proofs.AnswerLaws.{run_answered, none_lost}
use Rattle.sim_world.proofs.laws.loaders_answer_their_batches.Goals as goal

pub returns : goal.returns
returns c = record {
  answered = run_answered;
  kept = λ job schedule k place b. none_lost job (run job schedule) k place b (run_answered job schedule);
}
