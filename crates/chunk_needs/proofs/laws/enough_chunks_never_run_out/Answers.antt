use Rattle.chunk_needs.proofs.TakenLaws.{taken_adds, taken_enough}
use Rattle.chunk_needs.proofs.laws.enough_chunks_never_run_out.Goals as goal

pub returns : goal.returns
returns c = record { sum = taken_adds; most = taken_enough }
