use Rattle.std.proofs.Common.{◌≡◌, ◌<◌, ◌≤◌, length, refl, ap, sym, subst, ◌∙◌, arith}
use Rattle.std.specs.Prelude.{slice_index}
use Rattle.list_machine.specs.Steps.{with_owned}
use Rattle.list_machine.specs.declared.views.Owner.{Owner}
use Rattle.world_words.specs.WordRows.{made_count}
use Rattle.world_book.specs.Owners.{leaf_at}
use Rattle.world_lists.specs.Lists.{ListsValue}
use Rattle.world_lists.proofs.KeptLaws.{kept-leaf, made-owned}
use Rattle.world_lists.proofs.lists.Lists.adopt.Goals as goal

pub invariant_of-self-2 : goal.invariant_of-self-2
invariant_of-self-2 c =
    let same : c.self.inside.book ≡ c.args.self.now.owner = ap (λ (v : ListsValue). v.owner) c.self.view_is ∙ c.in_ok-make.ensures.owner in
    let low : c.args.list < length c.self.inside.book.book.leaves = subst (λ (o : Owner). c.args.list < length o.book.leaves) (sym same) c.requires.list in
    let small : c.args.chunk < made_count c.self.inside.words = subst (λ (v : ListsValue). c.args.chunk < made_count v.words) (sym c.self.view_is) c.in_ok-make.ensures.made in
    kept-leaf c.self.inside.words c.self.inside.words c.self.inside.book c.adopt.new.self (length c.self.inside.seats.items) (length c.self.inside.seats.items) c.args.list (with_owned (leaf_at c.self.inside.book c.args.list) c.args.chunk) c.self.invariant low refl (omega arith)
    (ap (λ (o : Owner). o.book.leaves) c.in_ok-adopt.ensures.ok)
    (λ b. subst (λ (o : Owner). slice_index o.out b ≤ length c.self.inside.seats.items) (sym c.in_ok-adopt.ensures.ok) (c.self.invariant.few b))
    (made-owned (made_count c.self.inside.words) (leaf_at c.self.inside.book c.args.list) c.args.chunk small (c.self.invariant.made c.args.list))
