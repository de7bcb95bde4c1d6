use Rattle.std.proofs.Common.{◌≡◌, ◌∙◌, ◌∷◌, ◌++◌, ◌+◌, ◌≤◌, [], Some, None, ap, arith, length, List, ℕ, sym, subst}
use Rattle.std.specs.Prelude.{All}
use Rattle.std.proofs.lemmas.List.Elements.{All-nil}
use Rattle.cube_math.specs.Cubes.{CubeValue}
use Rattle.leaf_shape.specs.declared.node.Node.{Node}
use Rattle.leaf_shape.specs.declared.opening.Opening.{Opening}
use Rattle.leaf_shape.specs.declared.place.Place.{Place}
use Rattle.leaf_shape.specs.Openings.{AreShared, blocks}
use Rattle.leaf_shape.proofs.OpeningLaws.{none_shared, placed_same}
use Rattle.leaf_shape.proofs.RootLaws.{root_placed}
use Rattle.leaf_shape.proofs.shape.LeafShape.new.Goals as goal

pub invariant_of-result : goal.invariant_of-result
invariant_of-result c =
    let root : Node = record { below = None; list = Some 0 } in
    let place : Place = record { cube = c.args.cube; node = 0 } in
    let nodes : c.push.new.self.items ≡ root ∷ [] = c.in_ok-push.ensures.items ∙ ap (λ (ns : List Node). ns ++ root ∷ []) c.in_ok-nodes.ensures.items in
    let paths : c.push-2.new.self.items ≡ [] ∷ [] =
    c.in_ok-push-2.ensures.items ∙ ap (λ (ps : List (List ℕ)). ps ++ c.root.result ∷ [])
    c.in_ok-paths.ensures.items ∙ ap (λ (q : List ℕ). q ∷ []) c.root.ensures in
    let places : c.push-3.new.self.items ≡ place ∷ [] = c.in_ok-push-3.ensures.items
    ∙ ap (λ (qs : List Place). qs ++ place ∷ []) c.in_ok-places.ensures.items in
    let none : c.new.result.items ≡ [] = c.new.ensures.items in
    let F : List Opening → Type 0 = λ os. All (λ (o : Opening). length o.path + 7 ≤ c.args.cube.bits) os in
    let zero : blocks c.new.result.items ≡ 0 = ap blocks none in
    record {
      placed = placed_same c.args.cube (root ∷ []) c.push.new.self.items ([] ∷ []) c.push-2.new.self.items
          (place ∷ []) c.push-3.new.self.items nodes paths places
          (root_placed c.args.cube (omega
          (arith, c.cube.invariant.bits_low, ap (λ (k : CubeValue). k.bits) c.cube.view_is)));
      fit = subst F (sym none) (All-nil (λ (o : Opening). length o.path + 7 ≤ c.args.cube.bits));
      shared = subst AreShared (sym none) none_shared;
      node_room = omega (arith, zero, c.in_ok-push.ensures.capacity);
      few_nodes = omega (arith, zero, c.in_ok-push.ensures.len, c.in_ok-nodes.ensures.len);
      path_room = omega (arith, c.new.ensures.len);
      place_room = omega (arith, c.new.ensures.len);
      few_lists = omega (arith, c.new.ensures.len, c.in_ok-push-2.ensures.len, c.in_ok-paths.ensures.len);
    }
