use Rattle.std.proofs.Common.{ℕ, length, ap, sym, subst}
use Rattle.list_machine.specs.declared.views.Owner.{Owner}
use Rattle.world_lists.specs.ListsKept.{AreKept}
use Rattle.world_lists.proofs.KeptLaws.{kept-new}
use Rattle.world_lists.proofs.lists.Lists.new.Goals as goal

pub invariant_of-result : goal.invariant_of-result
invariant_of-result c =
    subst (λ (n : ℕ). AreKept c.in_ok-words.words c.in_ok-book.book n) (sym (ap length c.new-3.ensures.items))
    (kept-new c.in_ok-words.words c.in_ok-book.book c.args.lists c.in_ok-words.ensures.lists (ap (λ (o : Owner). o.book.leaves) c.in_ok-book.ensures) (ap (λ (o : Owner). o.out) c.in_ok-book.ensures))
