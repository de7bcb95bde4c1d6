use Rattle.std.proofs.Common.{arith, ap, sym, ◌∙◌}
use Rattle.batch_front.proofs.Telling.{hears_news, compares_heard}
use Rattle.batch_front.proofs.Passing.{own_card, heard_pass}
use Rattle.batch_front.proofs.front.Front.hear.Goals as goal

pub join_seat-requires : goal.join_seat-requires
join_seat-requires g c =
    let s = c.self.inside.desk.shared in let n = c.self.invariant.0.words in let p = c.pass.inside in let q = c.news.inside in
    let here = sym (ap (λ f. f.table) c.self.view_is) in (
      ap (λ v. v.front.table) c.pass.view_is ∙ (ap (λ v. v.table) c.requires.pass ∙ here),
      ap (λ v. v.front.table) c.news.view_is ∙ (ap (λ v. v.table) c.requires.news ∙ here),
      c.news.invariant.taken_is,
      (omega (arith, n)),
      hears_news g.V.Chronicle.record g.V.Chronicle.site (g.V.Chronicle.site s.key.value.value) s.key.passes p.seat.id p.seat.me.0
          (own_card (g.V.Chronicle.site p.opening.value.value.value) p.number p.known p.seat.me c.pass.invariant) q.seat.id q.seat.me.0 c.pass.invariant.view_is c.news.invariant.view_is,
    )

pub load-requires : goal.load-requires
load-requires g c =
    let s = c.self.inside.desk.shared in let n = c.self.invariant.0.words in let p = c.pass.inside in let q = c.news.inside in let e = c.join_seat.ensures in
    let here = sym (ap (λ f. f.table) c.self.view_is) in (
      e.0 ∙ (ap (λ v. v.front.table) c.pass.view_is ∙ (ap (λ v. v.table) c.requires.pass ∙ here)),
      (omega (arith, n)),
      compares_heard g.V.Chronicle.record g.V.Chronicle.site (g.V.Chronicle.site s.key.value.value) s.key.passes s.table_id.slots c.join_seat.new.seat.id c.join_seat.new.seat.me p.seat.me
          (own_card (g.V.Chronicle.site p.opening.value.value.value) p.number p.known p.seat.me c.pass.invariant) q.seat.me.0 c.pass.invariant.view_is e.2,
    )

pub invariant_of-pass : goal.invariant_of-pass
invariant_of-pass g c =
    let p = c.pass.inside in let q = c.news.inside in let b = c.load.ensures.2 in
    heard_pass (g.V.Chronicle.site p.opening.value.value.value) p.number p.known p.seat.me c.pass.invariant q.known q.seat.me c.join_seat.new.seat.me c.load.new.seat.me c.news.invariant c.join_seat.ensures.2 b.0 b.1 _ c.max-most.ensures
