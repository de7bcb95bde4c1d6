use Rattle.std.proofs.Common.{◌≡◌, ◌∙◌, ◌++◌, ◌∷◌, [], List, ℕ, ap, sym, arith, append_assoc, length, refl, subst, take}
use Rattle.std.proofs.lemmas.List.{get_or-map, length-map, take_more}
use Rattle.leaf_shape.specs.declared.opening.Opening.{Opening}
use Rattle.leaf_shape.specs.declared.place.Place.{Place}
use Rattle.leaf_shape.specs.Kept.{ArePlaced}
use Rattle.leaf_shape.specs.Openings.{paths_of}
use Rattle.leaf_shape.specs.Shapes.{path_of}
use Rattle.leaf_shape.specs.Tables.{IsOpened, node_at}
use Rattle.leaf_shape.proofs.OpeningLaws.{before_next, fits_at, placed_more, placed_same, room_for}
use Rattle.leaf_shape.proofs.opens.open_all.Goals as goal

pub open_node-node-requires-clause-room : goal.open_node-node-requires-clause-room
open_node-node-requires-clause-room c =
    omega (
      arith,
      c.loop-opening.invariant.nodes,
      c.loop-opening.invariant.node_capacity,
      c.requires.node_room,
      room_for c.loop-opening.nodes.items c.args.ready.now c.loop-opening.opening-index c.opening-item.result
          c.requires.shared c.loop-opening-test.true c.opening-item.is c.loop-opening.invariant.before,
    )

pub open_node-node-requires-clause-few : goal.open_node-node-requires-clause-few
open_node-node-requires-clause-few c =
    omega (
      arith,
      c.loop-opening.invariant.nodes,
      c.requires.few_nodes,
      room_for c.loop-opening.nodes.items c.args.ready.now c.loop-opening.opening-index c.opening-item.result
          c.requires.shared c.loop-opening-test.true c.opening-item.is c.loop-opening.invariant.before,
    )

pub loop-opening-preserved : goal.loop-opening-preserved
loop-opening-preserved c =
    let o : Opening = c.opening-item.result in
    let k : ℕ = c.loop-opening.opening-index in
    let ready : List Opening = c.args.ready.now in
    let place : Place = record { cube = c.at.result; node = c.open_node-node.result } in
    let number : c.len.result ≡ length c.loop-opening.paths.items = omega (arith, c.len.ensures, c.loop-opening.paths.ok.0) in
    let P : ℕ → Type 0 = λ n. IsOpened c.loop-opening.nodes.items c.open_node-node.new.nodes.items o.path n c.open_node-node.result in
    let opened : IsOpened c.loop-opening.nodes.items c.open_node-node.new.nodes.items o.path
    (length c.loop-opening.paths.items) c.open_node-node.result =
    subst P number c.open_node-node.ensures.opened in
    let placed : ArePlaced c.args.cube.now c.open_node-node.new.nodes.items
    (c.loop-opening.paths.items ++ o.path ∷ []) (c.loop-opening.places.items ++ place ∷ []) =
    placed_more c.args.cube.now c.loop-opening.nodes.items c.open_node-node.new.nodes.items
    c.loop-opening.paths.items c.loop-opening.places.items o.path place c.open_node-node.result
    c.loop-opening.invariant.placed opened
    (fits_at c.args.cube.now ready k o c.requires.fit c.loop-opening-test.true c.opening-item.is) c.at.ensures
    refl in
    let at : path_of (paths_of ready) k ≡ o.path =
    get_or-map (λ (q : Opening). q.path) ready k o [] c.loop-opening-test.true
    ∙ ap (λ (q : Opening). q.path) (sym c.opening-item.is) in
    record {
      placed = placed_same c.args.cube.now c.open_node-node.new.nodes.items c.open_node-node.new.nodes.items
          (c.loop-opening.paths.items ++ o.path ∷ []) c.add_list.new.paths.items
          (c.loop-opening.places.items ++ place ∷ []) c.add_list.new.places.items refl c.add_list.ensures.path c.add_list.ensures.place placed;
      so_far = c.add_list.ensures.path ∙ ap (λ (ps : List (List ℕ)). ps ++ o.path ∷ []) c.loop-opening.invariant.so_far
          ∙ append_assoc c.args.paths.now.items (take k (paths_of ready)) (o.path ∷ [])
          ∙ ap (λ (ps : List (List ℕ)). c.args.paths.now.items ++ ps)
          (ap (λ (q : List ℕ). take k (paths_of ready) ++ q ∷ []) (sym at)
          ∙ sym (take_more (paths_of ready) k [] (omega (arith, c.loop-opening-test.true, length-map ready (λ (q : Opening). q.path)))));
      before = record {
        number = c.open_node-node.result;
        at = ap (node_at c.open_node-node.new.nodes.items 0) (before_next ready k o c.loop-opening-test.true c.opening-item.is) ∙ opened.here;
      };
      nodes = omega (
        arith,
        c.open_node-node.ensures.few,
        c.loop-opening.invariant.nodes,
        room_for c.loop-opening.nodes.items ready k o c.requires.shared c.loop-opening-test.true c.opening-item.is c.loop-opening.invariant.before,
      );
      node_capacity = omega (arith, c.loop-opening.invariant.node_capacity, c.open_node-node.ensures.capacity);
      paths = omega (arith, c.loop-opening.invariant.paths, c.add_list.ensures.paths_len);
      path_capacity = omega (arith, c.loop-opening.invariant.path_capacity, c.add_list.ensures.path_capacity);
      places = omega (arith, c.loop-opening.invariant.places, c.add_list.ensures.places_len);
      place_capacity = omega (arith, c.loop-opening.invariant.place_capacity, c.add_list.ensures.place_capacity);
    }
