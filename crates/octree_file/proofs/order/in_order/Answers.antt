use Rattle.std.proofs.Common.{◌≡◌, List, count_by, cond, ap, sym, subst, ◌∙◌, rules}
use Rattle.std.specs.List.{All}
use Rattle.std.specs.List.Sorted.{IsNonDecreasingBy, IsPermutation}
use Rattle.std.proofs.lemmas.List.{take_all}
use Rattle.std.proofs.lemmas.List.Sorted.{All-permutation, IsNonDecreasingBy-from_sort_by_key, sum_by-IsPermutation}
use Rattle.cube_math.specs.Points.{PointValue}
use Rattle.octree_file.specs.Order.{IsPoint, order_key}
use Rattle.octree_file.proofs.OrderLaws.{order_from_rising, order_is}
use Rattle.octree_file.proofs.order.in_order.Goals as goal

pub returns : goal.returns
returns c =
    let points : List PointValue = c.args.points.now in
    let before : List PointValue = c.loop-p.sorted.items in
    let after : List PointValue = c.sort_unstable_by_key.new.self.items in
    let copied : before ≡ points = c.loop-p.invariant.copied ∙ take_all c.loop-p.p-index points c.loop-p-test.false in
    let moved : IsPermutation before after = c.sort_unstable_by_key.ensures.permutation in
    let rising : IsNonDecreasingBy order_key after =
    IsNonDecreasingBy-from_sort_by_key (λ p. order_key p) _ c.sort_unstable_by_key.ensures.sorted (λ a r q k. search rules) in
    order_is points after (subst (All IsPoint) copied c.loop-p.invariant.each) (All-permutation IsPoint before after moved c.loop-p.invariant.each)
    (order_from_rising after rising)
    (λ t. sym (ap (count_by t) copied) ∙ sym (sum_by-IsPermutation (λ p. cond (t p) 1 0) before after moved))
