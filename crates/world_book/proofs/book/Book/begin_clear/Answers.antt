use Rattle.std.proofs.Common.{◌≡◌, true, Some, length, set, ap, sym, ◌∙◌, arith}
use Rattle.std.proofs.lemmas.List.{length-set}
use Rattle.std.proofs.lemmas.Option.{slice_get-get_or}
use Rattle.std.specs.Prelude.{slice_get}
use Rattle.list_machine.specs.Moves.{may_begin}
use Rattle.list_machine.specs.declared.views.Owner.{Owner}
use Rattle.world_book.specs.BookKept.{owner_of}
use Rattle.world_book.specs.Owners.{state_of}
use Rattle.world_book.proofs.BirthLaws.{begun_next}
use Rattle.world_book.proofs.book.Book.begin_clear.Goals as goal

pub index_mut-row-requires : goal.index_mut-row-requires
index_mut-row-requires c =
    let may : may_begin (state_of (owner_of c.self.inside)) ≡ true = ap (λ (o : Owner). may_begin (state_of o)) c.self.view_is ∙ c.requires in
    let next = begun_next c.self.inside.order.items c.self.inside.out.items c.self.inside.cleared c.self.invariant.past c.self.invariant.births may in
    let at : slice_get c.self.inside.order.items c.self.inside.cleared ≡ Some c.index-list.result.now =
    slice_get-get_or c.self.inside.order.items c.self.inside.cleared c.index-list.result.now next.0 ∙ ap (λ l. Some l) (sym c.index-list.ensures) in
    omega (arith, c.self.invariant.listed c.self.inside.cleared c.index-list.result.now at, c.self.inside.rows.ok.0)

pub invariant_of-self : goal.invariant_of-self
invariant_of-self c =
    let may : may_begin (state_of (owner_of c.self.inside)) ≡ true = ap (λ (o : Owner). may_begin (state_of o)) c.self.view_is ∙ c.requires in
    let next = begun_next c.self.inside.order.items c.self.inside.out.items c.self.inside.cleared c.self.invariant.past c.self.invariant.births may in
    let long : length (set c.self.inside.rows.items c.index-list.result.now c.begin_clear.new.self) ≡ length c.self.inside.rows.items = length-set c.self.inside.rows.items c.index-list.result.now c.begin_clear.new.self in
    record {
      births = c.self.invariant.births;
      begun = omega (arith, next.0);
      past = next.1;
      listed = λ p l at. omega (arith, c.self.invariant.listed p l at, long);
    }
