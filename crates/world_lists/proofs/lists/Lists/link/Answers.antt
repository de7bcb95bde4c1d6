use Rattle.std.proofs.Common.{◌≡◌, ℕ, ◌<◌, ◌≤◌, length, ap, sym, subst, ◌∙◌, arith}
use Rattle.std.specs.Prelude.{slice_index}
use Rattle.list_machine.specs.Steps.{with_claimed}
use Rattle.list_machine.specs.declared.views.Leaf.{Leaf}
use Rattle.list_machine.specs.declared.views.Owner.{Owner}
use Rattle.world_words.specs.WordRows.{HasLink, list_count, made_count}
use Rattle.world_book.specs.Owners.{last_chunk, leaf_at}
use Rattle.world_lists.specs.Lists.{ListsValue}
use Rattle.world_lists.specs.ListsKept.{IsMade}
use Rattle.world_lists.proofs.KeptLaws.{has_last, kept-leaf, made-claimed}
use Rattle.world_lists.proofs.lists.Lists.link.Goals as goal

pub link_to-requires-clause-link : goal.link_to-requires-clause-link
link_to-requires-clause-link c =
    let same : c.self.inside.book ≡ c.args.self.now.owner = ap (λ (v : ListsValue). v.owner) c.self.view_is ∙ c.in_ok-make.ensures.owner in
    let low : c.args.list < length c.self.inside.book.book.leaves = subst (λ (o : Owner). c.args.list < length o.book.leaves) (sym same) c.requires.list in
    let within : c.args.list < list_count c.self.inside.words = omega (arith, low, c.self.invariant.lists) in
    let last : c.last_claimed-last.result ≡ last_chunk (leaf_at c.self.inside.book c.args.list).claimed (length (leaf_at c.self.inside.book c.args.list).claimed) =
    c.last_claimed-last.ensures ∙ ap (λ (a : Leaf). last_chunk a.claimed (length a.claimed)) c.row-row.ensures in
    subst (HasLink c.self.inside.words c.args.list) (sym last)
    (has_last c.self.inside.words c.args.list (length (leaf_at c.self.inside.book c.args.list).claimed) (leaf_at c.self.inside.book c.args.list) within (c.self.invariant.made c.args.list) (omega arith))

pub invariant_of-self-2 : goal.invariant_of-self-2
invariant_of-self-2 c =
    let same : c.self.inside.book ≡ c.args.self.now.owner = ap (λ (v : ListsValue). v.owner) c.self.view_is ∙ c.in_ok-make.ensures.owner in
    let low : c.args.list < length c.self.inside.book.book.leaves = subst (λ (o : Owner). c.args.list < length o.book.leaves) (sym same) c.requires.list in
    let made : made_count c.link_to.new.self ≡ made_count c.self.inside.words = c.link_to.ensures.chunks in
    let small : c.args.chunk < made_count c.link_to.new.self = omega (arith, made, (let s : c.args.chunk < made_count c.self.inside.words = subst (λ (v : ListsValue). c.args.chunk < made_count v.words) (sym c.self.view_is) c.in_ok-make.ensures.made in s)) in
    kept-leaf c.self.inside.words c.link_to.new.self c.self.inside.book c.link.new.self (length c.self.inside.seats.items) (length c.self.inside.seats.items) c.args.list (with_claimed (leaf_at c.self.inside.book c.args.list) c.args.chunk) c.self.invariant low c.link_to.ensures.lists (omega (arith, made))
    (ap (λ (o : Owner). o.book.leaves) c.in_ok-link.ensures.ok)
    (λ b. subst (λ (o : Owner). slice_index o.out b ≤ length c.self.inside.seats.items) (sym c.in_ok-link.ensures.ok) (c.self.invariant.few b))
    (made-claimed (made_count c.link_to.new.self) (leaf_at c.self.inside.book c.args.list) c.args.chunk small (subst (λ (m : ℕ). IsMade m (leaf_at c.self.inside.book c.args.list)) (sym made) (c.self.invariant.made c.args.list)))
