use Rattle.std.proofs.Common.{arith, ap, sym, ◌∙◌}
use Rattle.batch_front.proofs.Telling.{tells_seen}
use Rattle.batch_front.proofs.Passing.{own_card}
use Rattle.batch_front.proofs.front.Front.tell.Goals as goal

pub split_seat-requires : goal.split_seat-requires
split_seat-requires g c =
    let s = c.self.inside.desk.shared in let n = c.self.invariant.0.words in let p = c.pass.inside in
    let table = ap (λ v. v.front.table) c.pass.view_is ∙ (ap (λ v. v.table) c.requires ∙ sym (ap (λ f. f.table) c.self.view_is)) in (
      table,
      (omega (arith, n)),
      tells_seen g.V.Chronicle.record g.V.Chronicle.site (g.V.Chronicle.site s.key.value.value) s.key.passes p.seat.id p.seat.me.0
          (own_card (g.V.Chronicle.site p.opening.value.value.value) p.number p.known p.seat.me c.pass.invariant) c.pass.invariant.view_is,
    )
