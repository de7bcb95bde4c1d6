use Rattle.std.proofs.Common.{refl}
use Rattle.record_model.specs.Admissions.{admitted}
use Rattle.record_model.specs.declared.event.Event.TheVariants.{Look, Publication}
use Rattle.record_book.specs.KeptBatches.{kept_as}
use Rattle.record_book.proofs.BookLaws.{kept_more, kept_same}
use Rattle.record_book.proofs.KeptLaws.{admitted_kept}
use Rattle.record_book.proofs.laws.admissions_add_kept_batches.Goals as goal

pub returns : goal.returns
returns c = record {
  admission = λ events batch loader. kept_more events (kept_as batch loader (admitted events)) (admitted_kept events);
  publication = λ events input loader points. kept_same events (Publication input points, loader) (λ n. refl);
  look = λ events pass. kept_same events (Look, pass) (λ n. refl);
}
