use Rattle.std.proofs.Common.{◌<◌, length, ap, sym, ◌∙◌, arith, eqb}
use Rattle.std.proofs.lemmas.Grind.{get_or_default_zero}
use Rattle.list_machine.specs.Moves.{may_begin}
use Rattle.list_machine.specs.declared.views.Owner.{Owner}
use Rattle.world_book.specs.Owners.{state_of}
use Rattle.world_book.proofs.BirthLaws.{may_begin_is}
use Rattle.world_book.proofs.book.Book.may_begin.Goals as goal

pub returns-then-self-len : goal.returns-then-self-len
returns-then-self-len c =
    let order = c.self.inside.order.items in
    let out = c.self.inside.out.items in
    let more : c.self.inside.cleared < length c.self.inside.order.items = omega (arith, c.if-self-len.true, c.len.ensures, c.self.inside.order.ok.0) in
    let low : c.self.inside.cleared < length c.self.inside.out.items = omega (arith, more, c.self.invariant.births) in
    ap (λ n. eqb n 0) (c.index.ensures ∙ get_or_default_zero c.self.inside.out.items c.self.inside.cleared c.index.result.now low)
    ∙ sym (may_begin_is c.self.inside.order.items c.self.inside.out.items c.self.inside.cleared c.self.invariant.past more low)
    ∙ ap (λ (o : Owner). may_begin (state_of o)) c.self.view_is
