use Rattle.std.proofs.Common.{ℕ, ◌+◌, ◌<◌, ◌∷◌, [], ◌++◌, length, sym, arith}
use Rattle.cube_math.specs.Batches.{BatchValue}
use Rattle.record_model.specs.Records.{Record, journal}
use Rattle.record_model.specs.declared.event.Event.TheVariants.{Publication}
use Rattle.record_model.proofs.RecordLaws.{length-journal}
use Rattle.worked_turns.proofs.turn.publish_row.Goals as goal

-- there is room for a publication more
room_for : (events : Record) (b : BatchValue) (pass : ℕ) → length (journal events) + 1 < 4294967296 → length (journal (events ++ (Publication b.input b.points, pass) ∷ [])) < 4294967296
room_for events b pass few = let all = length-journal events ((Publication b.input b.points, pass) ∷ []) in omega arith

pub add-requires-clause-few : goal.add-requires-clause-few
add-requires-clause-few c =
    let few = c.reserve.ensures.few c.if-not-reserve.false in
    rw c.reserve.ensures.events (room_for c.args.turn.now.value.events c.args.batch c.number.result few)

pub append_told-requires-clause-room : goal.append_told-requires-clause-room
append_told-requires-clause-room c =
    let few = c.reserve.ensures.few c.if-not-reserve.false in
    rw (sym c.requires.value, c.of-told.ensures) (room_for c.args.turn.now.value.events c.args.batch c.args.pass.now.number few)
