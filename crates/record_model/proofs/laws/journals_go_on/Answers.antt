use Rattle.std.proofs.Common.{ap, ◌∙◌, sym}
use Rattle.record_model.specs.Records.{journal}
use Rattle.record_model.proofs.RecordLaws.{journal-append, published-append}
use Rattle.record_model.proofs.laws.journals_go_on.Goals as goal

pub returns : goal.returns
returns c = record {
  entries = journal-append;
  points = published-append;
  prefix = λ seen events begins. (begins.0, sym (journal-append seen begins.0) ∙ ap journal begins.1);
}
