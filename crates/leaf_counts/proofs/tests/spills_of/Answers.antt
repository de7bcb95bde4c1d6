use Rattle.std.proofs.Common.{◌≡◌, ◌+◌, ◌∙◌, ◌++◌, ◌∷◌, [], ℕ, List, ap, sym, subst, map, take, count_by}
use Rattle.std.specs.List.{All}
use Rattle.std.proofs.lemmas.List.{map-append, take_more}
use Rattle.std.proofs.lemmas.List.Elements.{All-append, All-cons, All-nil}
use Rattle.cube_math.specs.Cubes.{CubeValue}
use Rattle.cube_math.specs.Points.{PointValue}
use Rattle.octree_model.specs.Bags.{IsSameBag}
use Rattle.octree_model.specs.Octree.{inside}
use Rattle.leaf_counts.specs.declared.plan.Spill.{Spill}
use Rattle.leaf_counts.specs.Nodes.{cube_at}
use Rattle.leaf_counts.proofs.tests.spills_of.Goals as goal

pub loop-path-preserved : goal.loop-path-preserved
loop-path-preserved c =
    let P : Spill → Type 0 = λ spill. IsSameBag spill.points.items (inside (cube_at c.args.cube spill.path) c.args.points.now) in
    let f : Spill → List ℕ = λ spill. spill.path in
    let spill : Spill = record { path = c.path-item.result; points = c.in_ok-points.points } in
    let bag : P spill = λ test. ap (count_by test) (c.in_ok-points.ensures ∙ ap (λ (k : CubeValue). inside k c.args.points.now) c.in-Some.ensures) in
    record {
      paths = ap (map f) c.in_ok-push.ensures.items ∙ map-append f c.loop-path.spills.items (spill ∷ []) ∙ ap (λ (l : List (List ℕ)). l ++ c.path-item.result ∷ []) c.loop-path.invariant.paths
          ∙ ap (λ (p : List ℕ). take c.loop-path.path-index c.args.paths.now ++ p ∷ []) c.path-item.is ∙ sym (take_more c.args.paths.now c.loop-path.path-index c.path-item.result c.loop-path-test.true);
      bags = subst (λ (l : List Spill). All P l) (sym c.in_ok-push.ensures.items) (All-append P c.loop-path.spills.items (spill ∷ []) c.loop-path.invariant.bags (All-cons P spill [] bag (All-nil P)));
    }
