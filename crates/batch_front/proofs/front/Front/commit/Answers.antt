use Rattle.std.proofs.Common.{arith, ap, sym, ◌∙◌}
use Rattle.batch_front.proofs.Turning.{commits_holding}
use Rattle.batch_front.proofs.front.Front.commit.Goals as goal

pub fetch_add-requires : goal.fetch_add-requires
fetch_add-requires g c =
    let s = c.self.inside.desk.shared in let n = c.self.invariant.0.words in
    (c.requires.table ∙ sym (ap (λ f. f.table) c.self.view_is), (omega (arith, n)), commits_holding g.V.Chronicle.record g.V.Chronicle.site (g.V.Chronicle.site s.key.value.value) s.key.passes s.table_id.slots c.args.seat.now.id c.args.seat.now.me g.E.Told.event c.requires.holding)
