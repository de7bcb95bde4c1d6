use Rattle.std.proofs.Common.{ℕ, List, sym, subst, ap}
use Rattle.list_machine.specs.declared.views.Grant.{Grant}
use Rattle.list_words.specs.Filing.{Filing}
use Rattle.worked_lists.specs.Workers.{AreLeft}
use Rattle.worked_lists.proofs.Left.{even_left}
use Rattle.worked_lists.proofs.crowd.hire_one.Goals as goal

pub new-requires : goal.new-requires
new-requires c =
    let items = c.in_ok-left.ensures.items_if_clones_equal (λ y e. e) in
    subst {A = List ℕ × List Grant} (λ z. AreLeft z.0 z.1) (λ i. (sym items i, sym (ap (λ (f : Filing). f.left) c.in_ok-filer.ensures.filer) i))
    (even_left c.args.crew.lists c.args.crew.places)
