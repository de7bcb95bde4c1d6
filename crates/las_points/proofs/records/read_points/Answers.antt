use Rattle.std.proofs.Common.{◌≡◌, ◌+◌, ◌*◌, length, arith}
use Rattle.las_points.specs.Fields.{points_start, record_length}
use Rattle.las_points.proofs.RecordLaws.{AreBytes, record_held, colour_place-below, record_point-places, first_points-more}
use Rattle.las_points.proofs.records.read_points.Goals as goal

pub record_point-requires : goal.record_point-requires
record_point-requires c =
    let table = c.args.table.now in
    let held = record_held table.start table.length c.loop-i._i table.count (length c.args.bytes.now) c.loop-i-test.true c.requires.held in
    let red = colour_place-below c.args.rgb table.rgb 0 (omega arith) in
    let green = colour_place-below c.args.rgb table.rgb 1 (omega arith) in
    let blue = colour_place-below c.args.rgb table.rgb 2 (omega arith) in
    record { coordinates = omega arith; red = omega arith; green = omega arith; blue = omega arith }

pub overflow_add-place : goal.overflow_add-place
overflow_add-place c =
    let table = c.args.table.now in
    let held = record_held table.start table.length c.loop-i._i table.count (length c.args.bytes.now) c.loop-i-test.true c.requires.held in
    grind (arith, held)

pub loop-i-preserved : goal.loop-i-preserved
loop-i-preserved c =
    let table = c.args.table.now in
    let bytes = c.args.bytes.now in
    let range : AreBytes bytes = λ k. omega (arith, c.type_inv.bytes k) in
    let placed : c.loop-i.place ≡ points_start bytes + c.loop-i._i * record_length bytes = rw (← c.requires.start, ← c.requires.length_is) c.loop-i.invariant.placed in
    let point = record_point-places c.args.rgb bytes c.loop-i.place _ _ _ _ range
    (rw (← c.requires.rgb) c.new-colour.ensures.red)
    (rw (← c.requires.rgb) c.new-colour.ensures.green)
    (rw (← c.requires.rgb) c.new-colour.ensures.blue)
    c.record_point.ensures in
    record {
      placed = grind arith;
      pointed = first_points-more c.args.rgb bytes c.loop-i._i c.loop-i.place _ _ _ placed c.loop-i.invariant.pointed point c.in_ok-push.ensures.items;
    }
