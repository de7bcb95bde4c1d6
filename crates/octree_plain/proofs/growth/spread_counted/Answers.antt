use Rattle.std.proofs.Common.{◌≡◌, ◌<◌, List, [], ◌∷◌, ◌++◌, length, arith, rules, ap, ◌∙◌, sym, vec_items}
use Rattle.std.proofs.lemmas.List.{map-set, length-map, get_or-map}
use Rattle.cube_math.specs.Points.{PointValue}
use Rattle.octree_plain.proofs.SpreadLaws.{spread_more}
use Rattle.octree_plain.proofs.growth.spread_counted.Goals as goal

pub loop-p-preserved : goal.loop-p-preserved
loop-p-preserved c =
    let g : c.from.result ≡ c.octant.result = c.from.ensures in
    let eight : length c.loop-p.lists.items ≡ 8 = sym (length-map c.loop-p.lists.items vec_items) ∙ ap length c.loop-p.invariant in
    let here : c.from.result < length c.loop-p.lists.items = omega (arith, c.octant.ensures.below) in
    map-set vec_items c.loop-p.lists.items c.from.result c.push.new.self
    ∙ spread_more c.args.cube.now c.args.points.now c.loop-p.p-index c.from.result c.p-item.result _ _ (omega arith) (omega arith) c.p-item.is
    (search rules) (c.from.ensures ∙ c.octant.ensures.value) (omega (arith, c.octant.ensures.below)) c.loop-p.invariant
    (c.in_ok-push.ensures.items ∙ ap (λ (l : List PointValue). l ++ c.p-item.result ∷ []) (ap vec_items c.index_mut-list.ensures.value ∙ sym (get_or-map vec_items c.loop-p.lists.items c.from.result c.index_mut-list.result.now [] here)))
