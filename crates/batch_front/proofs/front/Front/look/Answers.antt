use Rattle.std.proofs.Common.{arith, ap, sym, ◌∙◌}
use Rattle.batch_front.proofs.Turning.{looks_waiting}
use Rattle.batch_front.proofs.front.Front.look.Goals as goal

pub load-requires : goal.load-requires
load-requires g c =
    let s = c.self.inside.desk.shared in let n = c.self.invariant.0.words in
    (c.requires.table ∙ sym (ap (λ f. f.table) c.self.view_is), (omega (arith, n)), looks_waiting g.V.Chronicle.record g.V.Chronicle.site (g.V.Chronicle.site s.key.value.value) s.key.passes s.table_id.slots c.args.seat.now.id c.args.seat.now.me c.args.ticket c.requires.waits)
