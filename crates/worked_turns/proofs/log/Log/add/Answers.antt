use Rattle.std.proofs.Common.{◌≡◌, length, map, ap, sym, ◌∙◌, List, arith}
use Rattle.record_model.specs.Records.{Record, journal}
use Rattle.worked_turns.specs.declared.log.Row.{Row}
use Rattle.worked_turns.specs.Logs.{event_of_row}
use Rattle.worked_turns.proofs.Rows.{event_more, events_more}
use Rattle.worked_turns.proofs.log.Log.add.Goals as goal

pub overflow_add-self : goal.overflow_add-self
overflow_add-self c =
    let more = event_more c.args.self.now.events c.args.act c.args.batch c.args.pass c.requires.batch in
    let same : length (journal c.args.self.now.events) ≡ c.self.inside.published = ap (λ v. length (journal v.events)) (sym c.self.view_is) ∙ c.self.invariant in
    omega (arith, c.requires.few, c.publications.ensures)

pub invariant_of-self : goal.invariant_of-self
invariant_of-self c =
    let rows = c.self.inside.rows.items in
    let row : Row = record { act = c.args.act; batch = c.args.batch; pass = c.args.pass } in
    let items = ap (λ (l : List _). length (journal (map event_of_row l))) c.in-Ok.ensures.items in
    let events = ap (λ (l : Record). length (journal l)) (events_more rows row) in
    let more = event_more (map event_of_row rows) c.args.act c.args.batch c.args.pass c.requires.batch in
    omega (arith, c.self.invariant, c.publications.ensures)
