use Rattle.record_model.proofs.RecordLaws.{admissions-append, admissions-admission, admissions-publication, admissions-look, admitted_points-admission, admitted-items}
use Rattle.record_model.proofs.laws.admissions_go_on.Goals as goal

pub returns : goal.returns
returns c = record {
  more = admissions-append;
  admission = admissions-admission;
  publication = admissions-publication;
  look = admissions-look;
  items = admitted_points-admission;
  count = admitted-items;
}
