use Rattle.std.proofs.Common.{◌≡◌, ◌+◌, ◌*◌, ◌≤◌, ◌<◌, ℕ, ap, sym, arith, drop, length, refl, subst, set, vec_len, Some}
use Rattle.leaf_shape.specs.declared.node.Node.{Node}
use Rattle.leaf_shape.specs.Tables.{HasChildren, missing}
use Rattle.leaf_shape.proofs.ChildrenLaws.{list_noted}
use Rattle.leaf_shape.proofs.OpenLaws.{IsReached, one_missing, opened_at_end, reached_next, reached_within, total_next}
use Rattle.leaf_shape.proofs.node.open_node.Goals as goal

pub child_at-node-requires-clause-within : goal.child_at-node-requires-clause-within
child_at-node-requires-clause-within c =
    omega (
      arith,
      c.loop-step.nodes.ok.0,
      reached_within c.args.nodes.now.items c.loop-step.nodes.items c.args.path.now c.loop-step.step
          c.loop-step.node c.loop-step.invariant.reached,
    )

pub child_at-node-requires-clause-room : goal.child_at-node-requires-clause-room
child_at-node-requires-clause-room c = λ none.
    omega (
      arith,
      one_missing c.loop-step.nodes.items c.loop-step.node c.octant.result c.args.path.now c.loop-step.step c.octant.ensures.value none,
      c.loop-step.invariant.total,
      c.loop-step.invariant.capacity,
      c.requires.room,
    )

pub child_at-node-requires-clause-few : goal.child_at-node-requires-clause-few
child_at-node-requires-clause-few c = λ none.
    omega (
      arith,
      one_missing c.loop-step.nodes.items c.loop-step.node c.octant.result c.args.path.now c.loop-step.step c.octant.ensures.value none,
      c.loop-step.invariant.total,
      c.requires.few,
    )

pub loop-step-preserved : goal.loop-step-preserved
loop-step-preserved c =
    let first : ℕ = c.child_at-node.ensures.child.0 in
    let has : HasChildren c.loop-step.nodes.items c.child_at-node.new.nodes.items c.loop-step.node first = c.child_at-node.ensures.child.1 in
    let is : c.child_at-node.result ≡ first + c.octant.result = c.child_at-node.ensures.child.2 in
    let P : ℕ → Type 0 = λ i. IsReached c.args.nodes.now.items c.child_at-node.new.nodes.items c.args.path.now (c.loop-step.step + 1) i in
    let rest : vec_len c.child_at-node.new.nodes + 8 * missing c.child_at-node.new.nodes.items
    (first + c.octant.result) (drop (c.loop-step.step + 1) c.args.path.now)
    ≤ vec_len c.loop-step.nodes + 8 * missing c.loop-step.nodes.items c.loop-step.node (drop c.loop-step.step c.args.path.now) =
    total_next c.loop-step.nodes.items c.child_at-node.new.nodes.items c.loop-step.node c.octant.result first
    c.args.path.now c.loop-step.step (vec_len c.loop-step.nodes)
    (vec_len c.child_at-node.new.nodes) c.loop-step.invariant.reached.tree has c.octant.ensures.below
    c.octant.ensures.value c.child_at-node.ensures.stays c.child_at-node.ensures.few in
    record {
      reached = subst P (sym is)
          (reached_next c.args.nodes.now.items c.loop-step.nodes.items c.args.path.now c.loop-step.step c.loop-step.node c.loop-step.invariant.reached
          c.child_at-node.new.nodes.items first c.octant.result has c.octant.ensures.below c.octant.ensures.value);
      total = omega (
        arith,
        rest,
        c.loop-step.invariant.total,
        ap (λ i. missing c.child_at-node.new.nodes.items i (drop (c.loop-step.step + 1) c.args.path.now)) is,
      );
      capacity = omega (arith, c.loop-step.invariant.capacity, c.child_at-node.ensures.capacity);
    }

pub index_mut-place-requires : goal.index_mut-place-requires
index_mut-place-requires c =
    omega (
      arith,
      c.loop-step.nodes.ok.0,
      reached_within c.args.nodes.now.items c.loop-step.nodes.items c.args.path.now c.loop-step.step
          c.loop-step.node c.loop-step.invariant.reached,
    )

pub returns-clause-opened : goal.returns-clause-opened
returns-clause-opened c =
    let low : c.loop-step.node < length c.loop-step.nodes.items =
    reached_within c.args.nodes.now.items c.loop-step.nodes.items c.args.path.now c.loop-step.step c.loop-step.node c.loop-step.invariant.reached in
    let noted : Node = record { below = c.index_mut-place.result.now.below; list = Some c.args.list } in
    opened_at_end c.args.nodes.now.items c.loop-step.nodes.items c.args.path.now c.loop-step.step c.loop-step.node c.loop-step.invariant.reached
    (set c.loop-step.nodes.items c.loop-step.node noted) c.args.list (omega (arith, c.loop-step-test.false, c.len-step-end.ensures.value))
    (list_noted c.loop-step.nodes.items (set c.loop-step.nodes.items c.loop-step.node noted) c.loop-step.node
    c.args.list c.index_mut-place.result.now noted low c.index_mut-place.ensures.value refl refl refl)
