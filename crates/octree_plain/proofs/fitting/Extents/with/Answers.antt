use Rattle.std.proofs.Common.{ap, rules}
use Rattle.std.specs.Int.{int_min, int_max}
use Rattle.cube_math.specs.Points.{PointValue}
use Rattle.octree_plain.proofs.FittingLaws.{of_read}
use Rattle.octree_plain.proofs.fitting.Extents.with.Goals as goal

pub returns-clause-x : goal.returns-clause-x
returns-clause-x c =
    let same = ap (λ (v : PointValue). v.x) c.p.view_is in
    (of_read (int_min c.args.self.x.least) _ _ _ (search rules) same c.with.ensures.least, of_read (int_max c.args.self.x.greatest) _ _ _ (search rules) same c.with.ensures.greatest)

pub returns-clause-y : goal.returns-clause-y
returns-clause-y c =
    let same = ap (λ (v : PointValue). v.y) c.p.view_is in
    (of_read (int_min c.args.self.y.least) _ _ _ (search rules) same c.with-2.ensures.least, of_read (int_max c.args.self.y.greatest) _ _ _ (search rules) same c.with-2.ensures.greatest)

pub returns-clause-z : goal.returns-clause-z
returns-clause-z c =
    let same = ap (λ (v : PointValue). v.z) c.p.view_is in
    (of_read (int_min c.args.self.z.least) _ _ _ (search rules) same c.with-3.ensures.least, of_read (int_max c.args.self.z.greatest) _ _ _ (search rules) same c.with-3.ensures.greatest)
