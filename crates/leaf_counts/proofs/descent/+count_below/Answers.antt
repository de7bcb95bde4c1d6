use Rattle.std.proofs.Common.{◌≡◌, arith, sym, ap, ◌∙◌, slice_get, Some, None}
use Rattle.std.specs.Option.{option_copied}
use Rattle.leaf_counts.proofs.WayLaws.{no_count_below_leaf, no_count_below, count_of_child}
use Rattle.leaf_counts.proofs.descent.+count_below.Goals as goal

pub returns-in-Leaf : goal.returns-in-Leaf
returns-in-Leaf t c = no_count_below_leaf c.args.counts.now c.in-Leaf.field-0 c.args.steps c.args.path.now c.in-Leaf.is (omega (arith, c.requires, c.len.ensures.value, c.if-steps-len.false))

pub returns-in-Some : goal.returns-in-Some
returns-in-Some t c =
    let at : slice_get c.in-Inner.children c.octant.result ≡ Some c.in-Some.below.now =
    ap (slice_get c.in-Inner.children) (sym c.from-octant.ensures) ∙ sym c.get.ensures.value ∙ ap option_copied c.in-Some.is in
    c.count_below.ensures ∙ count_of_child c.args.counts.now c.in-Inner.field-0 c.args.steps c.octant.result c.in-Inner.children c.args.path.now c.in-Some.below.now c.in-Inner.is c.octant.ensures.value at

pub returns-in-None : goal.returns-in-None
returns-in-None t c =
    let at : slice_get c.in-Inner.children c.octant.result ≡ None =
    ap (slice_get c.in-Inner.children) (sym c.from-octant.ensures) ∙ sym c.get.ensures.value ∙ ap option_copied c.in-None.is in
    no_count_below c.args.counts.now c.in-Inner.field-0 c.args.steps c.octant.result c.in-Inner.children c.args.path.now c.in-Inner.is c.octant.ensures.value at
