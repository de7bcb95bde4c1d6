use Rattle.std.proofs.Common.{rules, ◌∙◌}
use Rattle.octree_reader.proofs.FieldLaws.{from_place, none_told, some_told}
use Rattle.octree_reader.proofs.NodeLaws.{next_node, no_node_left}
use Rattle.octree_reader.proofs.nodes.read_points.Goals as goal

pub returns-in_default : goal.returns-in_default
returns-in_default c = λ nodes each is.
    let n = next_node _ _ _ _ (c.loop-at.invariant.left nodes each is) c.loop-at-test.true in
    none_told c.in_ok-taken.field-0 _ c.in_default.is
    (c.in_ok-taken.ensures.node n.node n.behind n.is (from_place c.args.bytes.now c.loop-at.at ∙ n.at))

pub loop-at-preserved : goal.loop-at-preserved
loop-at-preserved c = record {
  within = search rules;
  left = λ nodes each is.
      let n = next_node _ _ _ _ (c.loop-at.invariant.left nodes each is) c.loop-at-test.true in
      let told = some_told c.in_ok-taken.field-0 c.in-Some.taken _ c.in-Some.is
      (c.in_ok-taken.ensures.node n.node n.behind n.is (from_place c.args.bytes.now c.loop-at.at ∙ n.at)) in
      n.then c.in-Some.taken c.read_node.new.points.items told.0 told.1;
}

pub returns : goal.returns
returns c = λ nodes each is. no_node_left _ _ _ _ (c.loop-at.invariant.left nodes each is) c.loop-at-test.false
