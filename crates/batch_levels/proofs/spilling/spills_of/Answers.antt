use Rattle.std.proofs.Common.{◌∙◌, ◌++◌, ◌∷◌, [], ℕ, List, ap, sym, subst, map, take, count_by, IsTrue}
use Rattle.std.specs.List.{All}
use Rattle.std.proofs.lemmas.List.{map-append, take_more}
use Rattle.std.proofs.lemmas.List.Elements.{All-append, All-cons, All-nil, All-get_or}
use Rattle.octree_model.specs.Octree.{inside, octree}
use Rattle.octree_model.specs.Bags.{IsSameBag}
use Rattle.leaf_counts.specs.declared.plan.Spill.{Spill}
use Rattle.leaf_counts.specs.Nodes.{cube_at, counted, is_leaf_at}
use Rattle.batch_levels.proofs.spilling.spills_of.Goals as goal

pub loop-path-preserved : goal.loop-path-preserved
loop-path-preserved c =
    let f : Spill → List ℕ = λ spill. spill.path in
    let spill : Spill = record { path = c.path-item.result; points = c.in_ok-points.points } in
    record {
      paths = ap (map f) c.in_ok-push.ensures.items ∙ map-append f c.loop-path.spills.items (spill ∷ []) ∙ ap (λ (l : List (List ℕ)). l ++ c.path-item.result ∷ []) c.loop-path.invariant.paths
          ∙ ap (λ (p : List ℕ). take c.loop-path.path-index c.args.paths.now ++ p ∷ []) c.path-item.is ∙ sym (take_more c.args.paths.now c.loop-path.path-index c.path-item.result c.loop-path-test.true);
      bags = λ leaf cube points is ends.
          let P : Spill → Type 0 = λ spill. IsSameBag spill.points.items (inside (cube_at cube spill.path) points) in
          let E : List ℕ → Type 0 = λ path. IsTrue (is_leaf_at (counted (octree leaf cube points)) path) in
          let end : E c.path-item.result = subst E (sym c.path-item.is) (All-get_or E c.args.paths.now c.loop-path.path-index c.path-item.result c.loop-path-test.true ends) in
          let bag : P spill = λ test. ap (count_by test) (c.in_ok-points.ensures.items_if_clones_equal (λ x y e. e) ∙ c.points_below.ensures leaf cube points is end) in
          subst (λ (l : List Spill). All P l) (sym c.in_ok-push.ensures.items) (All-append P c.loop-path.spills.items (spill ∷ []) (c.loop-path.invariant.bags leaf cube points is ends) (All-cons P spill [] bag (All-nil P)));
    }
