use Rattle.std.proofs.Common.{◌≡◌, ℕ, ◌*◌, ◌/◌, ◌<◌, ◌≤◌, length, refl, ap, sym, subst, arith}
use Rattle.std.specs.Prelude.{slice_index}
use Rattle.list_machine.specs.Facts.{owned_chain}
use Rattle.list_machine.specs.Steps.{with_one_used}
use Rattle.list_machine.specs.declared.views.Leaf.{Leaf}
use Rattle.list_machine.specs.declared.views.Owner.{Owner}
use Rattle.world_words.specs.WordRows.{made_count}
use Rattle.world_book.specs.Owners.{leaf_at}
use Rattle.world_lists.specs.Lists.{ListsValue}
use Rattle.world_lists.specs.ListsKept.{IsMade}
use Rattle.world_lists.proofs.KeptLaws.{kept-leaf, made-at, made-same}
use Rattle.world_lists.proofs.lists.Lists.place.Goals as goal

pub place-requires-clause-chunk : goal.place-requires-clause-chunk
place-requires-clause-chunk c =
    let a : Leaf = leaf_at c.self.inside.book c.args.list in
    let room : a.used < 256 * length a.owned = subst (λ (v : ListsValue). (leaf_at v.owner c.args.list).used < 256 * length (leaf_at v.owner c.args.list).owned) (sym c.self.view_is) c.requires.room in
    subst (λ (n : ℕ). n < made_count c.self.inside.words) (sym c.use_slot-chunk.ensures.chunk)
    (made-at (made_count c.self.inside.words) (leaf_at c.self.inside.book c.args.list) owned_chain ((leaf_at c.self.inside.book c.args.list).used / 256) (c.self.invariant.made c.args.list) (omega (arith, room)))

pub invariant_of-self : goal.invariant_of-self
invariant_of-self c =
    let low : c.args.list < length c.self.inside.book.book.leaves = subst (λ (v : ListsValue). c.args.list < length v.owner.book.leaves) (sym c.self.view_is) c.requires.list in
    let made : made_count c.place.new.self ≡ made_count c.self.inside.words = c.place.ensures.chunks in
    kept-leaf c.self.inside.words c.place.new.self c.self.inside.book c.use_slot-chunk.new.self (length c.self.inside.seats.items) (length c.self.inside.seats.items) c.args.list (with_one_used (leaf_at c.self.inside.book c.args.list)) c.self.invariant low c.place.ensures.lists (omega (arith, made))
    (ap (λ (o : Owner). o.book.leaves) c.use_slot-chunk.ensures.book)
    (λ b. subst (λ (o : Owner). slice_index o.out b ≤ length c.self.inside.seats.items) (sym c.use_slot-chunk.ensures.book) (c.self.invariant.few b))
    (made-same (made_count c.place.new.self) (leaf_at c.self.inside.book c.args.list) (with_one_used (leaf_at c.self.inside.book c.args.list)) refl refl (subst (λ (m : ℕ). IsMade m (leaf_at c.self.inside.book c.args.list)) (sym made) (c.self.invariant.made c.args.list)))
