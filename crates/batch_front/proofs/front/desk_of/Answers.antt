use Rattle.std.proofs.Common.{ap, sym, ◌∙◌, ◌∷◌, [], ◌++◌, List, subst}
use Rattle.std.specs.Prelude.{Option, Some}
use Rattle.atomic_table.specs.Table.{opening}
use Rattle.batch_front.specs.Turns.{first_view, Kept}
use Rattle.batch_front.proofs.Opening.{opens}
use Rattle.batch_front.proofs.front.desk_of.Goals as goal

pub new-requires : goal.new-requires
new-requires g c =
    let V = g.row.V.Denot in let record_of = g.V.Chronicle.record in let site_of = g.V.Chronicle.site in
    let x = c.args.value in let n = c.args.opening.now.passes in
    let items = c.in_ok-push.ensures.items ∙ ap (λ (xs : List (Option V)). xs ++ Some x ∷ []) c.new-values.ensures.items in
    let made = opens record_of site_of x n c.requires.few c.requires.empty in
    let sited = subst (λ (o : V). Kept record_of site_of (site_of o) n (opening (0 ∷ 0 ∷ 0 ∷ []) (Some x ∷ []) (first_view (site_of o) n))) (sym c.requires.value) made in
    subst (λ (xs : List (Option V)). Kept record_of site_of (site_of c.args.opening.now.value.value) n (opening (0 ∷ 0 ∷ 0 ∷ []) xs (first_view (site_of c.args.opening.now.value.value) n))) (sym items) sited
