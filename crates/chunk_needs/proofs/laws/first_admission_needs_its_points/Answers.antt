use Rattle.std.proofs.Common.{refl}
use Rattle.chunk_needs.proofs.NeedLaws.{first_need, nothing_live}
use Rattle.chunk_needs.proofs.laws.first_admission_needs_its_points.Goals as goal

pub returns : goal.returns
returns c = record { full = refl; more = refl; none = nothing_live; first = first_need }
