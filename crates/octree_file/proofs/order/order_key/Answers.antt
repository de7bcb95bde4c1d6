use Rattle.std.proofs.Common.{◌≡◌, ap, ◌∙◌, arith, rules, w32, FitsSigned}
use Rattle.std.proofs.lemmas.Int.{to_z-of_z}
use Rattle.cube_math.specs.Points.{PointValue}
use Rattle.octree_file.specs.Order.{above_lowest}
use Rattle.octree_file.proofs.OrderLaws.{key_of_parts}
use Rattle.octree_file.proofs.order.order_key.Goals as goal

pub returns : goal.returns
returns c =
    let x : c.above_lowest.result ≡ above_lowest c.args.p.now.x = search rules in
    let y : c.above_lowest-2.result ≡ above_lowest c.args.p.now.y = search rules in
    let z : c.above_lowest-3.result ≡ above_lowest c.args.p.now.z = search rules in
    key_of_parts c.args.p.now c.from.result c.from-2.result c.from-3.result c.from-4.result
    (omega (arith, c.from.ensures, c.above_lowest.type_inv)) (omega (arith, c.from-2.ensures, c.above_lowest-2.type_inv))
    (omega (arith, c.from-3.ensures, c.above_lowest-3.type_inv))
    (c.from.ensures ∙ x) (c.from-2.ensures ∙ y) (c.from-3.ensures ∙ z) (c.from-4.ensures ∙ ap (λ (q : PointValue). q.rgb) c.p.view_is)
