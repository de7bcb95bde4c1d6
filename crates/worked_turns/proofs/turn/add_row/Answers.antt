use Rattle.std.proofs.Common.{ap, sym, ◌∙◌}
use Rattle.worked_turns.proofs.Rows.{few_more}
use Rattle.worked_turns.proofs.turn.add_row.Goals as goal

pub append-requires-clause-room : goal.append-requires-clause-room
append-requires-clause-room c =
    let few = c.reserve.ensures.few c.if-not-reserve.false in
    let fits = few_more c.args.turn.now.value.events c.args.act c.args.batch c.args.pass.now.number c.requires.batch few in
    rw (sym c.requires.value, c.as_ref.ensures.value) fits

pub add-requires-clause-few : goal.add-requires-clause-few
add-requires-clause-few c =
    let events = ap (λ v. v.events) c.append.ensures.value ∙ c.reserve.ensures.events in
    let few = c.reserve.ensures.few c.if-not-reserve.false in
    let fits = few_more c.args.turn.now.value.events c.args.act c.args.batch c.number.result c.requires.batch few in
    rw events fits
