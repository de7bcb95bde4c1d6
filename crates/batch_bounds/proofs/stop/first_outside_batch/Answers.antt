use Rattle.std.proofs.Common.{◌≡◌, ◌-◌, ◌∙◌, List, Some, ap, sym, arith}
use Rattle.cube_math.specs.Points.{PointValue}
use Rattle.cube_math.specs.Refusals.{first_outside}
use Rattle.octree_model.specs.Bags.{joined}
use Rattle.batch_bounds.specs.Stops.{IsCut}
use Rattle.batch_bounds.proofs.Cuts.{end_of}
use Rattle.batch_bounds.proofs.StopLaws.{IsAbove, above_found, start_is, place_there, no_outside_stop, outside_stop, lies_in_batch}
use Rattle.batch_bounds.proofs.stop.first_outside_batch.Goals as goal

pub unreachable-requires : goal.unreachable-requires
unreachable-requires c =
    let bs : List (List PointValue) = c.requires.cut.batches in
    let cut : IsCut c.args.points.now c.args.ends.now bs = c.requires.cut.is in
    let found : first_outside c.args.cube.now (joined bs) ≡ Some c.in-Some.at = ap (first_outside c.args.cube.now) (sym cut.joined_is) ∙ sym c.first_outside.ensures ∙ c.in-Some.is in
    lies_in_batch c.args.ends.now bs c.in-Some.at cut.ends_are (place_there c.args.cube.now bs c.in-Some.at found) (sym c.first_above.ensures ∙ c.in-None-first_above.is)

pub overflow_sub-result : goal.overflow_sub-result
overflow_sub-result c =
    let bs : List (List PointValue) = c.requires.cut.batches in
    let cut : IsCut c.args.points.now c.args.ends.now bs = c.requires.cut.is in
    let is : IsAbove bs c.in-Some.at c.in-Some-first_above.batch = above_found c.args.ends.now bs c.in-Some.at c.in-Some-first_above.batch cut.ends_are (sym c.first_above.ensures ∙ c.in-Some-first_above.is) in
    omega (arith, is.start, c.start_of.ensures, start_is c.args.ends.now bs c.in-Some-first_above.batch cut.ends_are is.within)

pub returns-in-None : goal.returns-in-None
returns-in-None c bs cut = no_outside_stop c.args.cube.now bs (ap (first_outside c.args.cube.now) (sym cut.joined_is) ∙ sym c.first_outside.ensures ∙ c.in-None.is)

pub returns-in-Some-first_above : goal.returns-in-Some-first_above
returns-in-Some-first_above c bs cut =
    let found : first_outside c.args.cube.now (joined bs) ≡ Some c.in-Some.at = ap (first_outside c.args.cube.now) (sym cut.joined_is) ∙ sym c.first_outside.ensures ∙ c.in-Some.is in
    let is : IsAbove bs c.in-Some.at c.in-Some-first_above.batch = above_found c.args.ends.now bs c.in-Some.at c.in-Some-first_above.batch cut.ends_are (sym c.first_above.ensures ∙ c.in-Some-first_above.is) in
    let start : c.start_of.result ≡ end_of bs c.in-Some-first_above.batch = c.start_of.ensures ∙ start_is c.args.ends.now bs c.in-Some-first_above.batch cut.ends_are is.within in
    outside_stop c.args.cube.now bs c.in-Some.at c.in-Some-first_above.batch (c.in-Some.at - c.start_of.result) found is (ap (λ n. c.in-Some.at - n) start)
