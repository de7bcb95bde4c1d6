use Rattle.std.proofs.Common.{arith, ap, sym, ◌∙◌}
use Rattle.batch_front.proofs.Telling.{gathers_home}
use Rattle.batch_front.proofs.Passing.{pass_away}
use Rattle.batch_front.proofs.front.Front.gather.Goals as goal

pub join_seat-requires : goal.join_seat-requires
join_seat-requires g c =
    let s = c.self.inside.desk.shared in let n = c.self.invariant.0.words in let p = c.pass.inside in
    let here = sym (ap (λ f. f.table) c.self.view_is) in
    let away = pass_away (g.V.Chronicle.site p.opening.value.value.value) p.number p.known p.seat.me c.pass.invariant (ap (λ v. v.turn) c.pass.view_is ∙ c.requires.home.1) in (
      c.requires.table ∙ here,
      ap (λ v. v.front.table) c.pass.view_is ∙ (ap (λ v. v.table) c.requires.home.0 ∙ here),
      ap (λ m. m.1) away.1,
      (omega (arith, n)),
      gathers_home g.V.Chronicle.record g.V.Chronicle.site (g.V.Chronicle.site s.key.value.value) s.key.passes c.args.all.now.id c.args.all.now.me c.args.all.now.me.0.cards p.seat.id p.seat.me c.requires.gathers away,
    )
