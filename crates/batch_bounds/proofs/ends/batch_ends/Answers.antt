use Rattle.std.proofs.Common.{◌≡◌, ◌+◌, ◌*◌, ◌++◌, ◌∷◌, ◌∙◌, ℕ, List, map, drop, length, min, vec_items, ap, sym, arith, rules, append_assoc, Global}
use Rattle.std.specs.Prelude.{Vec}
use Rattle.std.specs.Int.{div_ceil}
use Rattle.std.proofs.lemmas.List.{length-append}
use Rattle.cube_math.specs.Points.{PointValue}
use Rattle.octree_model.specs.Bags.{joined}
use Rattle.octree_model.specs.Numbers.{up_to}
use Rattle.batch_bounds.specs.Batches.{batches, ends_from}
use Rattle.batch_bounds.proofs.EndLaws.{cloud_ends, next_cloud}
use Rattle.batch_bounds.proofs.ends.batch_ends.Goals as goal

pub loop-cloud-preserved : goal.loop-cloud-preserved
loop-cloud-preserved c =
    let size : ℕ = c.args.size in
    let start : ℕ = c.loop-cloud.start in
    let cloud : Vec PointValue Global = c.cloud-item.result in
    let rest : List (Vec PointValue Global) = drop (c.loop-cloud.cloud-index + 1) c.args.clouds.now in
    let next : drop c.loop-cloud.cloud-index c.args.clouds.now ≡ cloud ∷ rest = next_cloud c.args.clouds.now c.loop-cloud.cloud-index cloud c.loop-cloud-test.true c.cloud-item.is in
    let first : c.len.result ≡ length cloud.items = search rules in
    let second : c.len-start.result ≡ length cloud.items = search rules in
    let others : List (List PointValue) = map vec_items rest in
    let pushed : c.push_ends.new.ends.items ≡ c.loop-cloud.ends.items ++ map (λ k. start + min ((k + 1) * size) (length cloud.items)) (up_to (div_ceil (length cloud.items) size)) =
    c.in_ok-push_ends.ensures ∙ ap (λ n. c.loop-cloud.ends.items ++ map (λ k. start + min ((k + 1) * size) n) (up_to (div_ceil n size))) first in
    record {
      ended = (λ i. pushed i ++ ends_from (start + second i) (batches size others))
          ∙ append_assoc c.loop-cloud.ends.items (map (λ k. start + min ((k + 1) * size) (length cloud.items)) (up_to (div_ceil (length cloud.items) size))) (ends_from (start + length cloud.items) (batches size others))
          ∙ ap (λ (l : List ℕ). c.loop-cloud.ends.items ++ l) (sym (cloud_ends start size cloud.items others (omega (arith, c.requires.size))))
          ∙ ap (λ (cs : List (Vec PointValue Global)). c.loop-cloud.ends.items ++ ends_from start (batches size (map vec_items cs))) (sym next)
          ∙ c.loop-cloud.invariant.ended;
      few = omega (arith, c.loop-cloud.invariant.few, second, ap (λ (cs : List (Vec PointValue Global)). length (joined (map vec_items cs))) next, length-append cloud.items (joined (map vec_items rest)));
    }
