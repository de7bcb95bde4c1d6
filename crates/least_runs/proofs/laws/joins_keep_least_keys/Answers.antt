use Rattle.least_runs.proofs.RunLaws.{joined_first, any_order}
use Rattle.least_runs.proofs.laws.joins_keep_least_keys.Goals as goal

pub returns : goal.returns
returns c = record {
  joined = λ some others. joined_first some others;
  order = λ runs others moved. any_order runs others moved;
}
