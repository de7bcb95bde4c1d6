use Rattle.std.proofs.Common.{List, ◌∷◌, ◌++◌, [], sym, ap, ◌∙◌, arith}
use Rattle.std.proofs.lemmas.List.FromFn.{map-range_with_len_more}
use Rattle.list_machine.specs.declared.views.Grant.{Grant}
use Rattle.worked_lists.specs.Layouts.{grant_of}
use Rattle.worked_lists.proofs.grants.even_grants.Goals as goal

pub loop-list-preserved : goal.loop-list-preserved
loop-list-preserved c =
    let p = c.args.places in let n = c.loop-list.list in
    c.in_ok-push.ensures.items ∙ (ap (λ (gs : List Grant). gs ++ grant_of p n ∷ []) c.loop-list.invariant ∙ sym (map-range_with_len_more (grant_of p) 0 n n (omega arith)))
