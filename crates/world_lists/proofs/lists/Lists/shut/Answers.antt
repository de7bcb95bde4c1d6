use Rattle.std.proofs.Common.{◌≡◌, ℕ, ◌<◌, ◌≤◌, length, refl, ap, sym, subst, arith}
use Rattle.std.specs.Prelude.{slice_index}
use Rattle.list_machine.specs.Steps.{with_stage}
use Rattle.list_machine.specs.declared.views.Owner.{Owner}
use Rattle.list_machine.specs.declared.views.Stage.TheVariants.{Swept}
use Rattle.world_words.specs.WordRows.{made_count}
use Rattle.world_book.specs.Owners.{leaf_at}
use Rattle.world_lists.specs.Lists.{ListsValue}
use Rattle.world_lists.specs.ListsKept.{IsMade}
use Rattle.world_lists.proofs.KeptLaws.{few-shut, kept-leaf, made-same}
use Rattle.world_lists.proofs.lists.Lists.shut.Goals as goal

pub invariant_of-self-2 : goal.invariant_of-self-2
invariant_of-self-2 c =
    let low : c.args.list < length c.self.inside.book.book.leaves = subst (λ (v : ListsValue). c.args.list < length v.owner.book.leaves) (sym c.self.view_is) c.requires in
    let made : made_count c.shut-2.new.self ≡ made_count c.self.inside.words = c.shut-2.ensures.words.chunks in
    kept-leaf c.self.inside.words c.shut-2.new.self c.self.inside.book c.shut.new.self (length c.self.inside.seats.items) (length c.self.inside.seats.items) c.args.list
    (with_stage (leaf_at c.self.inside.book c.args.list) (Swept (length c.self.inside.book.book.order) c.claims-found.result 0)) c.self.invariant low c.shut-2.ensures.words.lists (omega (arith, made))
    (ap (λ (o : Owner). o.book.leaves) c.in_ok-shut.ensures.ok)
    (λ b. subst (λ (o : Owner). slice_index o.out b ≤ length c.self.inside.seats.items) (sym c.in_ok-shut.ensures.ok) (few-shut c.self.inside.book.out (length c.self.inside.seats.items) c.self.invariant.few b))
    (made-same (made_count c.shut-2.new.self) (leaf_at c.self.inside.book c.args.list) (with_stage (leaf_at c.self.inside.book c.args.list) (Swept (length c.self.inside.book.book.order) c.claims-found.result 0)) refl refl (subst (λ (m : ℕ). IsMade m (leaf_at c.self.inside.book c.args.list)) (sym made) (c.self.invariant.made c.args.list)))
