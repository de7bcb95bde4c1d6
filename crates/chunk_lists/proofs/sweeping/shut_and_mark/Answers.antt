use Rattle.std.proofs.Common.{◌≡◌, ℕ, suc, ◌+◌, ◌++◌, length, length-set, refl, sym, ap, ◌∙◌, subst, arith, append_assoc}
use Rattle.list_machine.specs.Facts.{IsAt}
use Rattle.list_machine.specs.Steps.{with_stage}
use Rattle.list_machine.specs.declared.views.Fact.TheVariants.{Item}
use Rattle.list_machine.specs.declared.views.Stage.TheVariants.{Swept}
use Rattle.list_machine.specs.declared.views.Leaf.{Leaf}
use Rattle.list_table.specs.Ledgers.{leaf_of, notes_of}
use Rattle.list_table.specs.OwnerMoves.{ledger_after_shut}
use Rattle.list_table.specs.declared.views.Ledger.{Ledger}
use Rattle.list_table.proofs.Frames.{leaf_at, notes_at, open_notes}
use Rattle.chunk_lists.specs.Sweeps.{AreSwept, items_in}
use Rattle.chunk_lists.proofs.Marking.{leaf_shut, leaf_now, notes_now, swept_both, item_noted, noted_is_found}
use Rattle.chunk_lists.proofs.sweeping.shut_and_mark.Goals as goal

pub sweep_claimed-requires-clause-shut : goal.sweep_claimed-requires-clause-shut
sweep_claimed-requires-clause-shut c =
    let g = c.args.seat.now.ledger in let l = c.args.list in let f = c.shut-found.result in
    (length g.owner.book.order, ap (λ (h : Ledger). (leaf_of h l).stage) c.shut-found.ensures.ledger ∙ ap (λ (a : Leaf). a.stage) (leaf_shut g l f c.args.lists.now.lists c.requires.leaves c.requires.list))

pub sweep_claimed-requires-clause-none : goal.sweep_claimed-requires-clause-none
sweep_claimed-requires-clause-none c =
    let g = c.args.seat.now.ledger in let l = c.args.list in let n = c.args.lists.now.lists in let kept = c.notes_are_kept.ensures in
    ap (λ (h : Ledger). (notes_of h l).marked) c.shut-found.ensures.ledger
    ∙ (open_notes g.owner.facts l (leaf_of g l) (notes_of g l) c.requires.takes (kept.noted l (leaf_of g l) (notes_of g l) (leaf_at g n l c.requires.leaves c.requires.list) (notes_at g n l kept c.requires.leaves c.requires.list))).1

pub sweep_owned-requires-clause-room : goal.sweep_owned-requires-clause-room
sweep_owned-requires-clause-room c =
    let room = c.requires.room in let used = c.requires.used.1 in let few = c.shut-found.ensures.few in let granted = c.requires.granted in
    let len = c.sweep_claimed.ensures.len in let cap = c.sweep_claimed.ensures.capacity in omega (arith, room, used, few, granted, len, cap)

pub returns-clause-swept : goal.returns-clause-swept
returns-clause-swept c =
    let g = c.args.seat.now.ledger in let l = c.args.list in let f = c.shut-found.result in let n = c.args.lists.now.lists in
    let s = ledger_after_shut g l f in
    let h = c.sweep_claimed.new.seat.ledger in
    let k = c.sweep_owned.new.seat.ledger in
    let a = c.sweep_claimed.ensures.swept in
    let p = a.0 in let marked = a.1 in
    let first : AreSwept s h l p f f marked = subst (λ (o : Ledger). AreSwept o h l p f f marked) c.shut-found.ensures.ledger a.2 in
    let b = c.sweep_owned.ensures.swept in
    let lt = c.requires.list in
    let shut_leaf : Leaf = with_stage (leaf_of g l) (Swept (length g.owner.book.order) f 0) in
    let long : length s.owner.book.leaves ≡ n = length-set g.owner.book.leaves l shut_leaf ∙ c.requires.leaves in
    let q = b.0 in
    let m : ℕ = f + c.args.used in
    let both : AreSwept s k l q f m marked = swept_both s h k l p q f f m marked first b.1 n long c.requires.notes lt in
    let notes = notes_now s h l p f f marked first n long c.requires.notes lt in
    let placed = (notes_of g l).placed in
    let last : Leaf = with_stage (leaf_of s l) (Swept q f m) in
    let leaf = leaf_now s k l q f m marked both n long c.requires.notes lt in
    let long_now : length k.owner.book.leaves ≡ n = ap (λ x. length x.leaves) both.book_is ∙ (length-set s.owner.book.leaves l last ∙ long) in
    let used : (leaf_of s l).used ≡ c.args.used = ap (λ (e : Leaf). e.used) (leaf_shut g l f n c.requires.leaves lt) ∙ sym c.requires.used.0 in (
      f,
      q,
      marked,
      both,
      a.3,
      c.shut-found.ensures.few,
      c.sweep_owned.ensures.found ∙ ((λ j. a.4 j ++ (notes j).placed) ∙ append_assoc c.args.out.now.items (items_in marked) placed),
      λ d e x known.
          let was = both.known (Item l d e x) (suc known.0, known.1) in
          noted_is_found last (record { placed = placed; marked = marked }) d e x (item_noted k l q f m n d e x last (record { placed = placed; marked = marked }) leaf (notes_now s k l q f m marked both n long c.requires.notes lt) refl (omega (arith, used)) c.notes_are_kept-2.ensures long_now lt
          (λ o v d i y z u w. c.facts_agree.ensures.one o v d i y z u w) (λ o v d i y u w. c.facts_agree.ensures.none o v d i y u w)
          (c.items_are_swept.ensures l d e x q f m last was (subst (λ (r : Leaf). IsAt k.owner.book.leaves l r) leaf (leaf_at k n l long_now lt)) refl) was),
    )
