use Rattle.chunk_needs.proofs.NeedLaws.{look_live}
use Rattle.chunk_needs.proofs.laws.looks_need_nothing.Goals as goal

pub returns-clause-live : goal.returns-clause-live
returns-clause-live c = look_live
