use Rattle.std.proofs.Common.{◌≡◌, ◌<◌, ◌/◌, ◌-◌, length, get_or, rules, ◌∙◌, true}
use Rattle.octree_reader.specs.Heads.{u32_at}
use Rattle.octree_reader.proofs.FieldLaws.{from_place}
use Rattle.octree_reader.proofs.NodeLaws.{inner_read, leaf_read, no_node}
use Rattle.octree_reader.proofs.nodes.read_node.Goals as goal
use Rattle.octree_reader.proofs.nodes.read_node.Goals.{else-bytes-eq-INNER-via-then-bytes-eq-INNER+else-count-room, else-bytes-eq-INNER-via-else-bytes-eq-INNER, then-bytes-ne-LEAF-via-then-bytes-ne-LEAF, then-bytes-ne-LEAF-via-else-bytes-ne-LEAF+then-count-room-2}

pub returns-then-count-room-clause-node : goal.returns-then-count-room-clause-node
returns-then-count-room-clause-node c =
    let counted : c.u32_at-count.result ≡ u32_at c.args.bytes.now 1 = search rules in
    λ node rest is e. inner_read c.args.bytes.now c.u32_at-count.result c.args.points.now.items node rest c.if-bytes-eq-INNER.true counted is e

pub returns-then-bytes-ne-LEAF-clause-node : goal.returns-then-bytes-ne-LEAF-clause-node
returns-then-bytes-ne-LEAF-clause-node c =
    let counted : c.u32_at-count.result ≡ u32_at c.args.bytes.now 1 = search rules in
    let inner : get_or c.args.bytes.now 0 0 ≡ 1 → (length c.args.bytes.now - 5) / 8 < c.u32_at-count.result = λ first.
    elim c.else-bytes-eq-INNER.branch [
      | else-bytes-eq-INNER-via-then-bytes-eq-INNER+else-count-room w ↦ w.if-count-room.false
      | else-bytes-eq-INNER-via-else-bytes-eq-INNER w ↦ absurd (w.if-bytes-eq-INNER.false first)
    ] in
    let leaf : get_or c.args.bytes.now 0 0 ≡ 0 → (length c.args.bytes.now - 5) / 16 < c.u32_at-count.result = λ first.
    elim c.then-bytes-ne-LEAF.branch [
      | then-bytes-ne-LEAF-via-then-bytes-ne-LEAF w ↦ absurd (w.if-bytes-ne-LEAF.true first)
      | then-bytes-ne-LEAF-via-else-bytes-ne-LEAF+then-count-room-2 w ↦ w.if-count-room-2.true
    ] in
    λ node rest is e. no_node c.args.bytes.now c.u32_at-count.result node rest counted inner leaf is e

pub returns-then-branch-clause-node : goal.returns-then-branch-clause-node
returns-then-branch-clause-node c =
    let counted : c.u32_at-count.result ≡ u32_at c.args.bytes.now 1 = search rules in
    λ node rest is e.
    let read = leaf_read c.args.bytes.now c.u32_at-count.result c.args.points.now.items c.push_points.new.points.items c.in_ok-push_points.field-0 node rest
    c.if-bytes-ne-LEAF.false counted
    (λ more behind each long at. c.in_ok-push_points.ensures more behind each long (from_place c.args.bytes.now 5 ∙ at)) is e in
    (read.1, read.2)

pub returns-else-branch-clause-node : goal.returns-else-branch-clause-node
returns-else-branch-clause-node c =
    let counted : c.u32_at-count.result ≡ u32_at c.args.bytes.now 1 = search rules in
    λ node rest is e.
    let read = leaf_read c.args.bytes.now c.u32_at-count.result c.args.points.now.items c.push_points.new.points.items c.in_ok-push_points.field-0 node rest
    c.if-bytes-ne-LEAF.false counted
    (λ more behind each long at. c.in_ok-push_points.ensures more behind each long (from_place c.args.bytes.now 5 ∙ at)) is e in
    let done : c.in_ok-push_points.field-0 ≡ true = read.0 in
    let not_done = c.if-branch.false in
    absurd cc
