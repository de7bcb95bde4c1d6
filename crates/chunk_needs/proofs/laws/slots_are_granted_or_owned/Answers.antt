use Rattle.std.proofs.Common.{[], ◌∷◌, ◌++◌}
use Rattle.record_model.specs.Admissions.{admissions}
use Rattle.record_model.specs.declared.event.Event.TheVariants.{Look, Publication}
use Rattle.record_model.proofs.RecordLaws.{admissions-look, admissions-publication}
use Rattle.chunk_needs.proofs.NeedLaws.{admitted_at_leaf, admitted_elsewhere, slots_stay}
use Rattle.chunk_needs.proofs.TakenLaws.{granted_or_owned}
use Rattle.chunk_needs.proofs.laws.slots_are_granted_or_owned.Goals as goal

pub returns : goal.returns
returns c = record {
  all = λ config events path. granted_or_owned config path (admissions events);
  leaf = admitted_at_leaf;
  elsewhere = admitted_elsewhere;
  publication = λ config events input loader points path. slots_stay config events (events ++ (Publication input points, loader) ∷ []) path (admissions-publication events input loader points);
  look = λ config events pass path. slots_stay config events (events ++ (Look, pass) ∷ []) path (admissions-look events pass);
}
