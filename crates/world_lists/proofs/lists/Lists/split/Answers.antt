use Rattle.std.proofs.Common.{◌≡◌, suc, ◌≤◌, ◌++◌, ◌∷◌, [], length, ap, sym, subst, ◌∙◌, arith}
use Rattle.std.proofs.lemmas.List.{length-append}
use Rattle.std.specs.Prelude.{slice_index}
use Rattle.list_machine.specs.declared.views.Owner.{Owner}
use Rattle.world_lists.specs.ListsKept.{AreKept}
use Rattle.world_lists.proofs.KeptLaws.{few-split, kept-split}
use Rattle.world_lists.proofs.lists.Lists.split.Goals as goal

pub invariant_of-self-2 : goal.invariant_of-self-2
invariant_of-self-2 c =
    let more : length c.push.new.self.items ≡ suc (length c.self.inside.seats.items) = ap length c.in_ok-push.ensures.items ∙ (let e : length (c.self.inside.seats.items ++ c.new.result ∷ []) ≡ suc (length c.self.inside.seats.items) = omega (arith, length-append c.self.inside.seats.items (c.new.result ∷ [])) in e) in
    subst (AreKept c.self.inside.words c.admit.new.self) (sym more)
    (kept-split c.self.inside.words c.self.inside.book c.admit.new.self (length c.self.inside.seats.items) c.args.grants.now c.self.invariant (ap (λ (o : Owner). o.book.leaves) c.admit.ensures)
    (λ b. subst (λ (o : Owner). slice_index o.out b ≤ suc (length c.self.inside.seats.items)) (sym c.admit.ensures) (few-split c.self.inside.book.out (length c.self.inside.seats.items) (length c.self.inside.book.book.order) c.self.invariant.few b)))
