use Rattle.std.proofs.Common.{◌+◌, ◌*◌, List, sym, subst, ◌∙◌}
use Rattle.list_machine.specs.declared.views.Grant.{Grant}
use Rattle.list_words.specs.Store.{MayAdmit, Store, admitted, with_filer_room}
use Rattle.worked_lists.specs.Layouts.{IsLaidOut}
use Rattle.worked_lists.proofs.Evens.{laid_after, may_admit}
use Rattle.chunk_lists.specs.Knives.{lists_of}
use Rattle.worked_lists.proofs.grants.admit_even.Goals as goal

pub admit-requires : goal.admit-requires
admit-requires c =
    let a = c.args in let l = c.requires.laid_out in
    subst {A = Store × List Grant} (λ z. MayAdmit z.0 z.1) (λ i. (sym c.in_ok-reserve_filer.ensures.ok i, sym c.requires.grants i))
    (may_admit (lists_of a.knife.now) a.lists l.0 l.1 l.2 a.places l.3 l.4)

pub returns-clause-laid_out : goal.returns-clause-laid_out
returns-clause-laid_out c chunks granted seats laid =
    let a = c.args in let s = lists_of a.knife.now in let r = with_filer_room s a.lists (a.lists * a.places) in
    subst (λ (t : Store). IsLaidOut t a.lists chunks (granted + a.places) (seats + 1))
    (sym (c.admit.ensures.store ∙ (λ i. admitted (c.in_ok-reserve_filer.ensures.ok i) (c.requires.grants i))))
    (laid_after s a.lists chunks granted seats a.places laid r.grants_room r.items_room)
