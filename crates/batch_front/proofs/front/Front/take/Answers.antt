use Rattle.std.proofs.Common.{arith, ap, sym, ◌∙◌, ◌∷◌, List, ℕ}
use Rattle.std.specs.Prelude.{Option, Some}
use Rattle.atomic_table.specs.Table.{rest}
use Rattle.batch_front.specs.Turns.{Sat, placed}
use Rattle.batch_front.specs.declared.rule.Place.TheVariants.{Waits}
use Rattle.batch_front.proofs.Turning.{draws_away}
use Rattle.batch_front.proofs.front.Front.take.Goals as goal

pub fetch_add-ticket-requires : goal.fetch_add-ticket-requires
fetch_add-ticket-requires g c =
    let s = c.self.inside.desk.shared in let n = c.self.invariant.0.words in
    (c.requires.table ∙ sym (ap (λ f. f.table) c.self.view_is), (omega (arith, n)), draws_away g.V.Chronicle.record g.V.Chronicle.site (g.V.Chronicle.site s.key.value.value) s.key.passes s.table_id.slots c.args.seat.now.id c.args.seat.now.me c.requires.away)

pub wait-requires-clause-waits : goal.wait-requires-clause-waits
wait-requires-clause-waits g c =
    let w = c.requires.away in let e = c.fetch_add-ticket.ensures.2 in let S = g.row.V-Site.Denot in let V = g.row.V.Denot in
    (w.0, e.0, e.1, e.2 ∙ ap (λ (m : Sat S V). (placed m.0 (Waits e.0), m.1)) w.1)

pub exchange-requires : goal.exchange-requires
exchange-requires g c =
    let w = c.wait.ensures in let x = w.found in let S = g.row.V-Site.Denot in let V = g.row.V.Denot in
    let has = ap (λ (m : Sat S V). m.1) x.3 in
    (w.table ∙ (c.fetch_add-ticket.ensures.0 ∙ (c.requires.table ∙ sym (ap (λ f. f.table) c.self.view_is))), (Some x.0, has ∙ ap (λ (xs : List (ℕ × Option V)). (0, Some x.0) ∷ rest xs) (sym has)))
