use Rattle.std.proofs.Common.{◌≡◌, ℕ, suc, ◌<◌, ◌≤◌, length, refl, ap, sym, subst, ◌∙◌, arith}
use Rattle.std.specs.Prelude.{slice_index}
use Rattle.list_machine.specs.Words.{item_in, raised}
use Rattle.list_machine.specs.State.{put_slot}
use Rattle.list_machine.specs.Moves.{leaf_in, marked_by, next_mark}
use Rattle.list_machine.specs.Steps.{with_leaf, with_stage}
use Rattle.list_machine.specs.declared.views.Leaf.{Leaf}
use Rattle.list_machine.specs.declared.views.Owner.{Owner}
use Rattle.list_machine.specs.declared.views.Stage.{Stage}
use Rattle.list_machine.specs.declared.views.Stage.TheVariants.{Swept}
use Rattle.world_words.specs.WordRows.{made_count, words_in}
use Rattle.world_book.specs.Owners.{HasMark, leaf_at}
use Rattle.world_lists.specs.Lists.{ListsValue, Shows, item_at}
use Rattle.world_lists.specs.ListsKept.{IsMade, lists_of}
use Rattle.world_lists.proofs.KeptLaws.{kept-leaf, made-same}
use Rattle.world_lists.proofs.MarkLaws.{mark_slot}
use Rattle.world_lists.proofs.lists.Lists.mark.Goals as goal

pub mark-requires-clause-chunk : goal.mark-requires-clause-chunk
mark-requires-clause-chunk c =
    let mark : HasMark (leaf_at c.self.inside.book c.args.list) = subst (λ (v : ListsValue). HasMark (leaf_at v.owner c.args.list)) (sym c.self.view_is) c.requires.mark in
    subst (λ (n : ℕ). n < made_count c.self.inside.words) (sym (c.mark_next-chunk.ensures.chunk mark.place mark.found mark.marks mark.swept)) (mark_slot (made_count c.self.inside.words) (leaf_at c.self.inside.book c.args.list) mark (c.self.invariant.made c.args.list)).chunk

pub mark-requires-clause-slot : goal.mark-requires-clause-slot
mark-requires-clause-slot c =
    let mark : HasMark (leaf_at c.self.inside.book c.args.list) = subst (λ (v : ListsValue). HasMark (leaf_at v.owner c.args.list)) (sym c.self.view_is) c.requires.mark in
    subst (λ (n : ℕ). n < 256) (sym (c.mark_next-chunk.ensures.slot mark.place mark.found mark.marks mark.swept)) (mark_slot (made_count c.self.inside.words) (leaf_at c.self.inside.book c.args.list) mark (c.self.invariant.made c.args.list)).slot

pub invariant_of-self : goal.invariant_of-self
invariant_of-self c =
    let mark : HasMark (leaf_at c.self.inside.book c.args.list) = subst (λ (v : ListsValue). HasMark (leaf_at v.owner c.args.list)) (sym c.self.view_is) c.requires.mark in
    let low : c.args.list < length c.self.inside.book.book.leaves = subst (λ (v : ListsValue). c.args.list < length v.owner.book.leaves) (sym c.self.view_is) c.requires.list in
    let made : made_count c.mark.new.self ≡ made_count c.self.inside.words = c.mark.ensures.words.chunks in
    let book : c.mark_next-chunk.new.self ≡ with_leaf c.self.inside.book c.args.list (with_stage (leaf_at c.self.inside.book c.args.list) (Swept mark.place mark.found (suc mark.marks))) = c.mark_next-chunk.ensures.book mark.place mark.found mark.marks mark.swept in
    kept-leaf c.self.inside.words c.mark.new.self c.self.inside.book c.mark_next-chunk.new.self (length c.self.inside.seats.items) (length c.self.inside.seats.items) c.args.list
    (with_stage (leaf_at c.self.inside.book c.args.list) (Swept mark.place mark.found (suc mark.marks))) c.self.invariant low c.mark.ensures.words.lists (omega (arith, made))
    (ap (λ (o : Owner). o.book.leaves) book)
    (λ b. subst (λ (o : Owner). slice_index o.out b ≤ length c.self.inside.seats.items) (sym book) (c.self.invariant.few b))
    (made-same (made_count c.mark.new.self) (leaf_at c.self.inside.book c.args.list) (with_stage (leaf_at c.self.inside.book c.args.list) (Swept mark.place mark.found (suc mark.marks))) refl refl (subst (λ (m : ℕ). IsMade m (leaf_at c.self.inside.book c.args.list)) (sym made) (c.self.invariant.made c.args.list)))

pub returns-clause-lists : goal.returns-clause-lists
returns-clause-lists c s shown =
    let l : ℕ = c.args.list in
    let h : Shows (lists_of c.self.inside) s = subst (λ (v : ListsValue). Shows v s) (sym c.self.view_is) shown in
    let mark : HasMark (leaf_at c.self.inside.book c.args.list) = subst (λ (v : ListsValue). HasMark (leaf_at v.owner c.args.list)) (sym c.self.view_is) c.requires.mark in
    let leaf : leaf_at c.self.inside.book c.args.list ≡ leaf_in s c.args.list = ap (λ (o : Owner). leaf_at o c.args.list) h.owner in
    let stage : (leaf_in s c.args.list).stage ≡ Swept mark.place mark.found mark.marks = ap (λ (a : Leaf). a.stage) (sym leaf) ∙ mark.swept in
    let chunk : c.mark_next-chunk.result.0 ≡ (next_mark (leaf_in s c.args.list) mark.found mark.marks).0 = c.mark_next-chunk.ensures.chunk mark.place mark.found mark.marks mark.swept ∙ ap (λ (a : Leaf). (next_mark a mark.found mark.marks).0) leaf in
    let slot : c.mark_next-chunk.result.1 ≡ (next_mark (leaf_in s c.args.list) mark.found mark.marks).1 = c.mark_next-chunk.ensures.slot mark.place mark.found mark.marks mark.swept ∙ ap (λ (a : Leaf). (next_mark a mark.found mark.marks).1) leaf in
    let P : Stage → Type 0 = λ (t : Stage). Shows (record { words = c.mark.new.self; owner = c.mark_next-chunk.new.self; seats = c.self.inside.seats.items }) (marked_by s c.args.list t) in
    subst P (sym stage) (record {
      words = c.mark.ensures.words.words ∙ (λ i. put_slot (h.words i) (chunk i) (slot i) (raised ((h.words i).slot (chunk i) (slot i))));
      owner = c.mark_next-chunk.ensures.book mark.place mark.found mark.marks mark.swept ∙ ap (λ (o : Owner). with_leaf o c.args.list (with_stage (leaf_at o c.args.list) (Swept mark.place mark.found (suc mark.marks)))) h.owner;
      guests = h.guests;
    })

pub returns-clause-item : goal.returns-clause-item
returns-clause-item c p f m swept =
    let stage : (leaf_at c.self.inside.book c.args.list).stage ≡ Swept p f m = ap (λ (v : ListsValue). (leaf_at v.owner c.args.list).stage) c.self.view_is ∙ swept in
    let chunk : c.mark_next-chunk.result.0 ≡ (next_mark (leaf_at c.self.inside.book c.args.list) f m).0 = c.mark_next-chunk.ensures.chunk p f m stage in
    let slot : c.mark_next-chunk.result.1 ≡ (next_mark (leaf_at c.self.inside.book c.args.list) f m).1 = c.mark_next-chunk.ensures.slot p f m stage in
    c.mark.ensures.item
    ∙ (λ i. item_in ((words_in c.self.inside.words).slot (chunk i) (slot i)))
    ∙ ap (λ (v : ListsValue). item_at v (next_mark (leaf_at v.owner c.args.list) f m)) c.self.view_is
