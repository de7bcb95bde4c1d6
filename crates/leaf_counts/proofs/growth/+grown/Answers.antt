use Rattle.std.proofs.Common.{◌≡◌, ◌+◌, ◌<◌, ◌++◌, ◌∙◌, inl, inr, ap, sym, refl, arith, map, take, drop, sum, length}
use Rattle.leaf_counts.specs.declared.counts.Counts.{Inner}
use Rattle.leaf_counts.specs.Growths.{grown, grown_each}
use Rattle.leaf_counts.proofs.GrowthLaws.{grown-inner, size, size-Each, size_first, one_grown, all_grown}
use Rattle.leaf_counts.proofs.growth.+grown.Goals as goal
use Rattle.leaf_counts.proofs.growth.+grown.Goals.{then-loop-g-test+then-not-is_empty+else-not-is_empty-2, then-loop-g-test+else-not-is_empty, else-loop-g-test}

pub loop-g-init : goal.loop-g-init
loop-g-init t c =
    let large : size c.args.growth ≡ 1 + sum (map size c.in-Each.growths) = ap size c.in-Each.is ∙ size-Each c.in-Each.count c.in-Each.growths c.in-Each.places in
    record { smaller = omega (arith, large); done = refl }

pub grown-requires : goal.grown-requires
grown-requires t c =
    let first : sum (map size c.loop-g.growths) ≡ size c.remove-in-loop-g.result + sum (map size c.remove-in-loop-g.new.self) =
    size_first c.loop-g.growths c.remove-in-loop-g.new.self c.remove-in-loop-g.result c.remove-in-loop-g.ensures.item c.remove-in-loop-g.ensures.rest in
    let less : size c.remove-in-loop-g.result < size c.args.growth = omega (arith, first, c.loop-g.invariant.smaller) in
    (omega (arith, less), tt)

pub loop-g-preserved : goal.loop-g-preserved
loop-g-preserved t c =
    let first : sum (map size c.loop-g.growths) ≡ size c.remove-in-loop-g.result + sum (map size c.remove-in-loop-g.new.self) =
    size_first c.loop-g.growths c.remove-in-loop-g.new.self c.remove-in-loop-g.result c.remove-in-loop-g.ensures.item c.remove-in-loop-g.ensures.rest in
    let low : c.loop-g.g < length c.loop-g.places = omega (arith, c.loop-g-test.true, c.len.ensures) in
    record {
      smaller = omega (arith, first, c.loop-g.invariant.smaller);
      done = ap (λ l. take (c.loop-g.g + 1) l ++ grown_each (map grown c.remove-in-loop-g.new.self) c.remove.new.self (drop (c.loop-g.g + 1) l)) c.set.ensures
          ∙ one_grown c.loop-g.growths c.remove-in-loop-g.new.self c.loop-g.children c.remove.new.self c.loop-g.places c.loop-g.g c.remove-in-loop-g.result c.remove.result c.grown.result _ low
          c.remove-in-loop-g.ensures.item c.remove-in-loop-g.ensures.rest c.remove.ensures.item c.remove.ensures.rest c.grown.ensures c.loop-g.invariant.done;
    }

pub returns : goal.returns
returns t c =
    let all : c.loop-g.places ≡ grown_each (map grown c.in-Each.growths) c.in-Inner.children c.in-Each.places =
    all_grown c.loop-g.growths c.loop-g.children c.loop-g.places c.loop-g.g _ (elim c.loop-g-test.branch [
      | then-loop-g-test+then-not-is_empty+else-not-is_empty-2 w ↦ inr (inr (w.is_empty-then-not-is_empty.ensures.0 w.if-not-is_empty-2.false))
      | then-loop-g-test+else-not-is_empty w ↦ inr (inl (w.is_empty.ensures.0 w.if-not-is_empty.false))
      | else-loop-g-test w ↦ inl (omega (arith, w.loop-g-test.false, c.len.ensures))
    ]) c.loop-g.invariant.done in
    ap (Inner c.in-Each.count) all
    ∙ sym ((λ i. grown (c.in-Each.is i) (c.in-Inner.is i)) ∙ grown-inner c.in-Each.count c.in-Inner.field-0 c.in-Each.growths c.in-Inner.children c.in-Each.places)
