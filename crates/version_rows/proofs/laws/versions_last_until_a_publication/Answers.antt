use Rattle.std.proofs.Common.{List, [], ◌∷◌, ◌++◌, ap, sym, ◌∙◌, refl}
use Rattle.std.proofs.lemmas.List.{append-nil}
use Rattle.std.specs.List.{flat_map}
use Rattle.record_model.specs.Admissions.{AdmissionValue, admitted_points}
use Rattle.record_model.specs.declared.event.Event.TheVariants.{Admission, Look}
use Rattle.record_model.proofs.RecordLaws.{admissions-look, admitted_points-admission}
use Rattle.version_rows.proofs.StayLaws.{stays, no_longer}
use Rattle.version_rows.proofs.laws.versions_last_until_a_publication.Goals as goal

pub returns : goal.returns
returns c = record {
  admission = λ config events v input loader points is.
      stays config events v (Admission input points, loader) points refl refl (admitted_points-admission events input loader points) is;
  look = λ config events v pass is.
      stays config events v (Look, pass) [] refl refl
      (ap (λ (l : List AdmissionValue). flat_map (λ (a : AdmissionValue). a.points) l) (admissions-look events pass)
      ∙ sym (append-nil (admitted_points events))) is;
  publication = no_longer;
}
