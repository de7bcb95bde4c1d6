use Rattle.std.proofs.Common.{◌≡◌, ◌+◌, ◌-◌, ◌<◌, ◌^◌, ◌∙◌, List, length, get_or, ap, sym, arith, rules}
use Rattle.cube_math.specs.Points.{PointValue}
use Rattle.batch_bounds.specs.Stops.{IsCut}
use Rattle.batch_bounds.proofs.Cuts.{batch_at, end_of, end_more, ends_within}
use Rattle.batch_bounds.proofs.StopLaws.{IsAbove, above_found, end_is, start_is, no_points_stop, points_stop}
use Rattle.batch_bounds.proofs.stop.first_too_many.Goals as goal

pub overflow_cast-result-in-Some-2 : goal.overflow_cast-result-in-Some-2
overflow_cast-result-in-Some-2 c =
    let bs : List (List PointValue) = c.requires.cut.1.batches in
    let cut : IsCut c.requires.cut.0 c.args.ends.now bs = c.requires.cut.1.is in
    let is : IsAbove bs c.args.most c.in-Some.batch = above_found c.args.ends.now bs c.args.most c.in-Some.batch cut.ends_are (sym c.first_above.ensures ∙ c.in-Some.is) in
    let start : c.start_of-admitted.result ≡ end_of bs c.in-Some.batch = c.start_of-admitted.ensures ∙ start_is c.args.ends.now bs c.in-Some.batch cut.ends_are is.within in
    let small : c.start_of-admitted.result < 2 ^ 32 = omega (arith, start, is.start, c.ranges.most.fits) in
    search rules

pub overflow_sub-result : goal.overflow_sub-result
overflow_sub-result c =
    let bs : List (List PointValue) = c.requires.cut.1.batches in
    let cut : IsCut c.requires.cut.0 c.args.ends.now bs = c.requires.cut.1.is in
    let is : IsAbove bs c.args.most c.in-Some.batch = above_found c.args.ends.now bs c.args.most c.in-Some.batch cut.ends_are (sym c.first_above.ensures ∙ c.in-Some.is) in
    let start : c.start_of-admitted.result ≡ end_of bs c.in-Some.batch = c.start_of-admitted.ensures ∙ start_is c.args.ends.now bs c.in-Some.batch cut.ends_are is.within in
    omega (arith, start, is.start, is.above, end_is c.args.ends.now bs c.in-Some.batch cut.ends_are is.within)

pub overflow_cast-result-in-Some-3 : goal.overflow_cast-result-in-Some-3
overflow_cast-result-in-Some-3 c =
    let bs : List (List PointValue) = c.requires.cut.1.batches in
    let cut : IsCut c.requires.cut.0 c.args.ends.now bs = c.requires.cut.1.is in
    let is : IsAbove bs c.args.most c.in-Some.batch = above_found c.args.ends.now bs c.args.most c.in-Some.batch cut.ends_are (sym c.first_above.ensures ∙ c.in-Some.is) in
    let small : get_or c.args.ends.now c.in-Some.batch 0 < 2 ^ 32 =
    omega (arith, end_is c.args.ends.now bs c.in-Some.batch cut.ends_are is.within, ends_within bs (c.in-Some.batch + 1), ap length cut.joined_is, c.requires.cut.2) in
    search rules

pub returns-in-None : goal.returns-in-None
returns-in-None c points bs cut = no_points_stop c.args.most c.args.ends.now bs cut.ends_are (sym c.first_above.ensures ∙ c.in-None.is)

pub returns-in-Some : goal.returns-in-Some
returns-in-Some c points bs cut =
    let is : IsAbove bs c.args.most c.in-Some.batch = above_found c.args.ends.now bs c.args.most c.in-Some.batch cut.ends_are (sym c.first_above.ensures ∙ c.in-Some.is) in
    let start : c.start_of-admitted.result ≡ end_of bs c.in-Some.batch = c.start_of-admitted.ensures ∙ start_is c.args.ends.now bs c.in-Some.batch cut.ends_are is.within in
    let many : get_or c.args.ends.now c.in-Some.batch 0 - c.start_of-admitted.result ≡ length (batch_at bs c.in-Some.batch) =
    omega (arith, start, end_is c.args.ends.now bs c.in-Some.batch cut.ends_are is.within, end_more bs c.in-Some.batch is.within) in
    points_stop c.args.most c.start_of-admitted.result (get_or c.args.ends.now c.in-Some.batch 0 - c.start_of-admitted.result) bs c.in-Some.batch is start many
