use Rattle.std.proofs.Common.{◌≡◌, take, IsTrue, arith, rules, subst}
use Rattle.std.specs.List.{All}
use Rattle.std.proofs.lemmas.List.{take_all}
use Rattle.cube_math.specs.Cubes.{contains}
use Rattle.octree_file.specs.Order.{IsPoint}
use Rattle.octree_reader.proofs.FieldLaws.{one_more}
use Rattle.octree_reader.proofs.opening.are_within.Goals as goal

pub loop-p-preserved : goal.loop-p-preserved
loop-p-preserved c =
    let inside : IsTrue (contains c.args.cube.now c.p-item.result) = search rules in
    record {
      points = one_more IsPoint c.args.points.now c.loop-p.p-index c.p-item.result c.loop-p-test.true c.p-item.is
          c.loop-p.invariant.points c.is_within.ensures.point;
      within = one_more (λ p. IsTrue (contains c.args.cube.now p)) c.args.points.now c.loop-p.p-index c.p-item.result c.loop-p-test.true c.p-item.is
          c.loop-p.invariant.within inside;
    }

pub returns-clause-points : goal.returns-clause-points
returns-clause-points c =
    let all : take c.loop-p.p-index c.args.points.now ≡ c.args.points.now = take_all c.loop-p.p-index c.args.points.now c.loop-p-test.false in
    λ _. record { each = subst (All IsPoint) all c.loop-p.invariant.points; few = omega (arith, c.if-points.false) }

pub returns-clause-within : goal.returns-clause-within
returns-clause-within c =
    let all : take c.loop-p.p-index c.args.points.now ≡ c.args.points.now = take_all c.loop-p.p-index c.args.points.now c.loop-p-test.false in
    λ _. subst (All (λ p. IsTrue (contains c.args.cube.now p))) all c.loop-p.invariant.within
