use Rattle.sim_world.proofs.ChunkLaws.{least_is_free}
use Rattle.sim_world.proofs.filing_laws.least_chunks_are_free.Goals as goal

pub returns : goal.returns
returns c = record {
  free = λ chunks s some. (least_is_free chunks s some).0;
  below = λ chunks s some. (least_is_free chunks s some).1;
}
