use Rattle.std.proofs.Common.{◌≡◌, ◌∙◌, ℕ, List, length, take, ap, sym, subst, arith, None, Some, IsTrue}
use Rattle.std.specs.List.{All}
use Rattle.std.proofs.lemmas.List.{length-take-le}
use Rattle.cube_math.specs.Points.{PointValue}
use Rattle.cube_math.specs.Cubes.{contains}
use Rattle.batch_bounds.specs.Stops.{IsCut, IsFirst, early_at, nodes_at}
use Rattle.batch_bounds.specs.declared.stop.Stop.{Stop}
use Rattle.batch_bounds.proofs.AdmissionLaws.{contained_before, cut_prefix, early_due, nodes_due, same_nodes}
use Rattle.batch_bounds.proofs.Cuts.{end_of, length-ends, ends_within}
use Rattle.batch_bounds.proofs.SearchLaws.{no_nodes_stop}
use Rattle.batch_bounds.proofs.StopLaws.{start_is}
use Rattle.batch_bounds.proofs.admission.first_before.Goals as goal

pub start_of-requires : goal.start_of-requires
start_of-requires c =
    let bs : List (List PointValue) = c.requires.cut.batches in
    let cut : IsCut c.args.points.now c.args.ends.now bs = c.requires.cut.is in
    omega (arith, (c.requires.stop bs cut).0, ap length cut.ends_are, length-ends 0 bs)

pub slice_bounds-admitted-end : goal.slice_bounds-admitted-end
slice_bounds-admitted-end c =
    let bs : List (List PointValue) = c.requires.cut.batches in
    let cut : IsCut c.args.points.now c.args.ends.now bs = c.requires.cut.is in
    let start : c.start_of.result ≡ end_of bs c.args.stop.batch = c.start_of.ensures ∙ start_is c.args.ends.now bs c.args.stop.batch cut.ends_are (c.requires.stop bs cut).0 in
    sym (length-take-le c.start_of.result c.args.points.now (omega (arith, start, ends_within bs c.args.stop.batch, ap length cut.joined_is)))

pub nodes_of-requires-clause-contained : goal.nodes_of-requires-clause-contained
nodes_of-requires-clause-contained c =
    let bs : List (List PointValue) = c.requires.cut.batches in
    let cut : IsCut c.args.points.now c.args.ends.now bs = c.requires.cut.is in
    let start : c.start_of.result ≡ end_of bs c.args.stop.batch = c.start_of.ensures ∙ start_is c.args.ends.now bs c.args.stop.batch cut.ends_are (c.requires.stop bs cut).0 in
    subst (All (λ p. IsTrue (contains c.args.cube.now p))) (sym ((λ i. take (start i) c.args.points.now) ∙ (cut_prefix c.args.points.now c.args.ends.now bs c.args.stop.batch cut).joined_is))
    (contained_before c.args.cube.now c.args.limits.now.points bs c.args.stop (c.requires.stop bs cut))

pub returns-then-need-from : goal.returns-then-need-from
returns-then-need-from c bs cut =
    let m : ℕ = c.args.stop.batch in
    let start : c.start_of.result ≡ end_of bs m = c.start_of.ensures ∙ start_is c.args.ends.now bs m cut.ends_are (c.requires.stop bs cut).0 in
    let prefix : IsCut (take c.start_of.result c.args.points.now) (take m c.args.ends.now) (take m bs) =
    subst (λ n. IsCut (take n c.args.points.now) (take m c.args.ends.now) (take m bs)) (sym start) (cut_prefix c.args.points.now c.args.ends.now bs m cut) in
    let many : length (take m bs) ≡ m = length-take-le m bs (omega (arith, (c.requires.stop bs cut).0)) in
    let few : IsFirst (nodes_at c.args.cube.now c.args.limits.now.leaf c.args.limits.now.nodes (take m bs)) (length (take m bs)) None =
    no_nodes_stop c.args.limits.now.leaf c.args.limits.now.nodes c.args.cube.now (take c.start_of.result c.args.points.now) (take m c.args.ends.now) (take m bs) prefix (omega (arith, c.in_ok-need.ensures, c.if-need-from.true, c.from.ensures)) in
    early_due c.args.cube.now c.args.limits.now bs c.args.stop (c.requires.stop bs cut)
    (λ k l. sym (same_nodes c.args.cube.now c.args.limits.now.leaf c.args.limits.now.nodes m bs k l) ∙ few k (omega (arith, many)))

pub slice_bounds-first_over-end : goal.slice_bounds-first_over-end
slice_bounds-first_over-end c =
    let bs : List (List PointValue) = c.requires.cut.batches in
    let cut : IsCut c.args.points.now c.args.ends.now bs = c.requires.cut.is in
    sym (length-take-le c.args.stop.batch c.args.ends.now (omega (arith, (c.requires.stop bs cut).0, ap length cut.ends_are, length-ends 0 bs)))

pub first_over-requires-clause-cut : goal.first_over-requires-clause-cut
first_over-requires-clause-cut c =
    let bs : List (List PointValue) = c.requires.cut.batches in
    let cut : IsCut c.args.points.now c.args.ends.now bs = c.requires.cut.is in
    let start : c.start_of.result ≡ end_of bs c.args.stop.batch = c.start_of.ensures ∙ start_is c.args.ends.now bs c.args.stop.batch cut.ends_are (c.requires.stop bs cut).0 in
    record {
      batches = take c.args.stop.batch bs;
      is = subst (λ n. IsCut (take n c.args.points.now) (take c.args.stop.batch c.args.ends.now) (take c.args.stop.batch bs)) (sym start) (cut_prefix c.args.points.now c.args.ends.now bs c.args.stop.batch cut);
    }

pub first_over-requires-clause-contained : goal.first_over-requires-clause-contained
first_over-requires-clause-contained c =
    let bs : List (List PointValue) = c.requires.cut.batches in
    let cut : IsCut c.args.points.now c.args.ends.now bs = c.requires.cut.is in
    let start : c.start_of.result ≡ end_of bs c.args.stop.batch = c.start_of.ensures ∙ start_is c.args.ends.now bs c.args.stop.batch cut.ends_are (c.requires.stop bs cut).0 in
    subst (All (λ p. IsTrue (contains c.args.cube.now p))) (sym ((λ i. take (start i) c.args.points.now) ∙ (cut_prefix c.args.points.now c.args.ends.now bs c.args.stop.batch cut).joined_is))
    (contained_before c.args.cube.now c.args.limits.now.points bs c.args.stop (c.requires.stop bs cut))

pub returns : goal.returns
returns c bs cut =
    let m : ℕ = c.args.stop.batch in
    let early : IsFirst (early_at c.args.cube.now c.args.limits.now.points bs) (length bs) (Some c.args.stop) = c.requires.stop bs cut in
    let start : c.start_of.result ≡ end_of bs m = c.start_of.ensures ∙ start_is c.args.ends.now bs m cut.ends_are early.0 in
    let prefix : IsCut (take c.start_of.result c.args.points.now) (take m c.args.ends.now) (take m bs) =
    subst (λ n. IsCut (take n c.args.points.now) (take m c.args.ends.now) (take m bs)) (sym start) (cut_prefix c.args.points.now c.args.ends.now bs m cut) in
    let many : length (take m bs) ≡ m = length-take-le m bs (omega (arith, early.0)) in
    let first : Stop = c.in_ok-first.first in
    let found : IsFirst (nodes_at c.args.cube.now c.args.limits.now.leaf c.args.limits.now.nodes (take m bs)) (length (take m bs)) (Some first) = c.in_ok-first.ensures (take m bs) prefix in
    nodes_due c.args.cube.now c.args.limits.now bs first m (omega (arith, early.0)) (omega (arith, found.0, many))
    (sym (same_nodes c.args.cube.now c.args.limits.now.leaf c.args.limits.now.nodes m bs first.batch (omega (arith, found.0, many))) ∙ found.1)
    (λ k l. sym (same_nodes c.args.cube.now c.args.limits.now.leaf c.args.limits.now.nodes m bs k (omega (arith, found.0, many))) ∙ found.2 k l)
    early.2
