use Rattle.std.proofs.Common.{◌≡◌, List, [], length, ap, sym, subst, arith, Some, IsTrue, inl, inr}
use Rattle.std.specs.List.{All}
use Rattle.std.proofs.lemmas.Bool.{cases_lt}
use Rattle.cube_math.specs.Points.{PointValue}
use Rattle.cube_math.specs.Cubes.{contains}
use Rattle.octree_model.specs.Counts.{nodes}
use Rattle.octree_model.specs.Octree.{octree}
use Rattle.batch_bounds.specs.Stops.{IsCut, IsFirst, nodes_at}
use Rattle.batch_bounds.specs.declared.stop.Stop.{Stop}
use Rattle.batch_bounds.proofs.AdmissionLaws.{all_contained, inside_early, nodes_due, none_due, due}
use Rattle.batch_bounds.proofs.Counts.{one_node}
use Rattle.batch_bounds.proofs.Cuts.{no_batches}
use Rattle.batch_bounds.proofs.SearchLaws.{no_nodes_stop}
use Rattle.batch_bounds.proofs.admission.build_all.Goals as goal

pub counted-requires-clause-contained : goal.counted-requires-clause-contained
counted-requires-clause-contained c =
    let bs : List (List PointValue) = c.requires.cut.batches in
    let cut : IsCut c.args.points.now c.args.ends.now bs = c.requires.cut.is in
    subst (All (λ p. IsTrue (contains c.args.cube.now p))) (sym cut.joined_is)
    (all_contained c.args.cube.now bs (λ k l. inside_early c.args.cube.now c.args.limits.now.points bs k (c.requires.none bs cut k l)))

pub first_over-requires-clause-some : goal.first_over-requires-clause-some
first_over-requires-clause-some c =
    let bs : List (List PointValue) = c.requires.cut.batches in
    let cut : IsCut c.args.points.now c.args.ends.now bs = c.requires.cut.is in
    elim (cases_lt 0 (length c.args.ends.now)) [
      | inl some ↦ some
      | inr none ↦
          let empty : c.args.points.now ≡ [] = no_batches c.args.points.now c.args.ends.now bs cut (omega arith) in
          absurd (omega (arith, c.requires.nodes, c.if-need-from.true, c.from.ensures, c.in_ok-tree.ensures.count, ap (λ (ps : List PointValue). nodes (octree c.args.limits.now.leaf c.args.cube.now ps)) empty, one_node c.args.limits.now.leaf c.args.cube.now))
    ]

pub first_over-requires-clause-contained : goal.first_over-requires-clause-contained
first_over-requires-clause-contained c =
    let bs : List (List PointValue) = c.requires.cut.batches in
    let cut : IsCut c.args.points.now c.args.ends.now bs = c.requires.cut.is in
    subst (All (λ p. IsTrue (contains c.args.cube.now p))) (sym cut.joined_is)
    (all_contained c.args.cube.now bs (λ k l. inside_early c.args.cube.now c.args.limits.now.points bs k (c.requires.none bs cut k l)))

pub returns-then-need-from-clause-refused : goal.returns-then-need-from-clause-refused
returns-then-need-from-clause-refused c bs cut =
    let stop : Stop = c.in_ok-stop.stop in
    let first : IsFirst (nodes_at c.args.cube.now c.args.limits.now.leaf c.args.limits.now.nodes bs) (length bs) (Some stop) = c.in_ok-stop.ensures bs cut in
    due c.args.cube.now c.args.limits.now bs stop (nodes_due c.args.cube.now c.args.limits.now bs stop (length bs) (omega arith) first.0 first.1 first.2 (c.requires.none bs cut))

pub returns-clause-admitted : goal.returns-clause-admitted
returns-clause-admitted c bs cut =
    none_due c.args.cube.now c.args.limits.now bs (c.requires.none bs cut) (no_nodes_stop c.args.limits.now.leaf c.args.limits.now.nodes c.args.cube.now c.args.points.now c.args.ends.now bs cut (omega (arith, c.in_ok-tree.ensures.count, c.if-need-from.false, c.from.ensures)))
