use Rattle.std.proofs.Common.{◌≡◌, sym, ap, subst}
use Rattle.list_machine.specs.declared.views.Guest.{Guest}
use Rattle.list_filers.specs.Filers.{AreShown}
use Rattle.list_filers.proofs.filers.Filer.into_seat.Goals as goal

pub returns-clause-shown : goal.returns-clause-shown
returns-clause-shown c =
    let guest : c.into_seat.result.guest ≡ c.self.inside.ways.guest = ap (λ s. s.guest) c.into_seat.ensures in
    subst (λ xs. AreShown c.into_seat.result.guest xs) (ap (λ f. f.filing.answers) c.self.view_is) (subst (λ (v : Guest). AreShown v c.self.inside.answers.items) (sym guest) c.self.invariant.shown)
