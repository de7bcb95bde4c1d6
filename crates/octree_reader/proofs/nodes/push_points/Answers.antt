use Rattle.std.proofs.Common.{◌*◌, ◌≡◌, ◌++◌, ◌∷◌, [], List, sym, subst, ◌∙◌, rules, refl, ◌+◌}
use Rattle.cube_math.specs.Points.{PointValue}
use Rattle.octree_reader.proofs.FieldLaws.{from_place}
use Rattle.octree_reader.proofs.NodeLaws.{PointsLeft, next_point, no_point_left}
use Rattle.octree_reader.proofs.nodes.push_points.Goals as goal

pub returns-in_default : goal.returns-in_default
returns-in_default c = λ more rest each long is.
    let n = next_point _ _ _ _ _ _ (c.loop-k.invariant more rest each long is) c.loop-k-test.true in
    let some = c.in_default.ensures n.point n.behind n.is (from_place c.args.bytes.now (16 * c.loop-k.k) ∙ n.at) in
    absurd cc

pub loop-k-preserved : goal.loop-k-preserved
loop-k-preserved c = λ more rest each long is.
    let n = next_point _ _ _ _ _ _ (c.loop-k.invariant more rest each long is) c.loop-k-test.true in
    let some = c.in-Some.ensures n.point n.behind n.is (from_place c.args.bytes.now (16 * c.loop-k.k) ∙ n.at) in
    let same : n.point ≡ c.in-Some.p = cc in
    let pushed : c.push.new.self.items ≡ c.loop-k.points.items ++ n.point ∷ [] = search (rules, same) in
    subst (λ (ps : List PointValue). PointsLeft c.args.bytes.now (c.loop-k.k + 1) c.args.count ps (c.args.points.now.items ++ more) rest) (sym pushed) n.then

pub returns : goal.returns
returns c = λ more rest each long is. (refl, no_point_left _ _ _ _ _ _ (c.loop-k.invariant more rest each long is) c.loop-k-test.false)
