-- Each has seen a beginning of the record.
use Rattle.batch_front.proofs.Meeting.{seen_one}
use Rattle.batch_front.proofs.laws.passes_see_one_record.Goals as goal

pub returns : goal.returns
returns g c = λ front s j h n m v u kept at at'. seen_one g.V.Chronicle.record g.V.Chronicle.site front.site front.passes s kept j h v u at at'
