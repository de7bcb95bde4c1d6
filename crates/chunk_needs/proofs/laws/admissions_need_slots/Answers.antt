use Rattle.chunk_needs.proofs.NeedLaws.{live_after_admission, need_of_admission}
use Rattle.chunk_needs.proofs.laws.admissions_need_slots.Goals as goal

pub returns : goal.returns
returns c = record { need = need_of_admission; live = live_after_admission }
