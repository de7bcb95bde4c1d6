use Rattle.std.proofs.Common.{[], ◌∷◌, refl}
use Rattle.record_model.specs.declared.event.Event.TheVariants.{Admission, Look}
use Rattle.version_rows.proofs.VersionLaws.{ends_there, ends_before}
use Rattle.version_rows.proofs.laws.publications_fix_what_was_admitted.Goals as goal

pub returns : goal.returns
returns c = record {
  publication = ends_there;
  admission = λ events input loader points. ends_before events ((Admission input points, loader) ∷ []) refl refl;
  look = λ events pass. ends_before events ((Look, pass) ∷ []) refl refl;
}
