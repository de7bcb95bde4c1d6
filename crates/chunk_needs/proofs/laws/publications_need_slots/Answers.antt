use Rattle.chunk_needs.proofs.NeedLaws.{live_after_publication, made_leaf_owns, split_is_overfull}
use Rattle.chunk_needs.proofs.laws.publications_need_slots.Goals as goal

pub returns : goal.returns
returns c = record { live = live_after_publication; owns = made_leaf_owns; split = split_is_overfull }
