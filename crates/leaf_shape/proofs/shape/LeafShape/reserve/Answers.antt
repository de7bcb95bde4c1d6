use Rattle.std.proofs.Common.{◌≡◌, ◌∙◌, ◌+◌, ◌≤◌, ap, arith, length, subst, sym, List, ℕ}
use Rattle.std.specs.Prelude.{All}
use Rattle.std.proofs.lemmas.List.{length-map}
use Rattle.leaf_shape.specs.declared.opening.Opening.{Opening}
use Rattle.leaf_shape.specs.Openings.{blocks}
use Rattle.leaf_shape.specs.Shapes.{ShapeValue}
use Rattle.leaf_shape.proofs.OpeningLaws.{fit_from_paths, placed_same}
use Rattle.leaf_shape.proofs.shape.LeafShape.reserve.Goals as goal

pub invariant_of-self-2 : goal.invariant_of-self-2
invariant_of-self-2 c =
    let ready : List Opening = c.in_ok-ready.ready.items in
    let count : c.count_blocks.result ≡ blocks ready = c.count_blocks.ensures.value ∙ ap blocks c.deref.ensures.value in
    let long : length ready ≡ length c.args.paths.now = sym (length-map ready (λ (o : Opening). o.path)) ∙ ap length c.in_ok-ready.ensures.paths in
    let P : ShapeValue → Type 0 = λ s. All (λ (path : List ℕ). length path + 7 ≤ s.cube.bits) c.args.paths.now in
    record {
      placed = placed_same c.self.inside.cube c.self.inside.nodes.items c.reserve.new.self.items c.self.inside.paths.items c.reserve-2.new.self.items
          c.self.inside.places.items c.reserve-3.new.self.items c.in_ok-reserve.ensures.items
          c.in_ok-reserve-2.ensures.items c.in_ok-reserve-3.ensures.items c.self.invariant.placed;
      fit = fit_from_paths c.self.inside.cube c.args.paths.now ready c.in_ok-ready.ensures.paths (subst P (sym c.self.view_is) c.requires);
      shared = c.in_ok-ready.ensures.shared;
      node_room = omega (arith, count, c.in_ok-reserve.ensures.ok);
      few_nodes = omega (arith, count, c.in_ok-reserve.ensures.len, c.if-nodes-most.false, c.if-len-most-2.false);
      path_room = omega (arith, long, c.in_ok-ready.ready.ok.0, c.in_ok-reserve-2.ensures.ok);
      place_room = omega (arith, long, c.in_ok-ready.ready.ok.0, c.in_ok-reserve-3.ensures.ok);
      few_lists = omega (arith, long, c.in_ok-ready.ready.ok.0, c.in_ok-reserve-2.ensures.len, c.if-paths-most.false, c.if-len-most.false);
    }
