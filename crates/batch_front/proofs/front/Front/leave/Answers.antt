use Rattle.std.proofs.Common.{arith, ap, sym, ◌∙◌}
use Rattle.batch_front.proofs.Turning.{leaves_holding}
use Rattle.batch_front.proofs.Passing.{pass_holding}
use Rattle.batch_front.proofs.front.Front.leave.Goals as goal

pub fetch_add-served-requires : goal.fetch_add-served-requires
fetch_add-served-requires g c =
    let s = c.self.inside.desk.shared in let n = c.self.invariant.0.words in let p = c.pass.inside in let e = c.exchange.ensures in
    let table = ap (λ v. v.front.table) c.pass.view_is ∙ (ap (λ v. v.table) c.requires.front ∙ sym (ap (λ f. f.table) c.self.view_is)) in
    let site = ap (λ f. f.site) c.self.view_is in (
      e.0 ∙ table,
      (omega (arith, n)),
      leaves_holding g.V.Chronicle.record g.V.Chronicle.site (g.V.Chronicle.site s.key.value.value) s.key.passes s.table_id.slots c.exchange.new.seat.id c.exchange.new.seat.me p.seat.me c.args.turn.value
          (pass_holding (g.V.Chronicle.site p.opening.value.value.value) p.number p.known p.seat.me c.pass.invariant c.args.turn.pen.turn (ap (λ v. v.turn) c.pass.view_is ∙ c.requires.pen.1))
          e.3 (c.requires.value ∙ sym (ap (λ v. v.seen) c.pass.view_is)) (c.requires.site ∙ (sym site ∙ ap (λ o. g.V.Chronicle.site o.value.value) (sym c.self.invariant.1))),
    )
