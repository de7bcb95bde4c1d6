use Rattle.std.proofs.Common.{◌≡◌, ◌-◌, ◌∙◌, Some, None, inl, inr, ap, arith, length, map, get_or, List, slice_get, subst, sym}
use Rattle.std.specs.Option.{option_copied}
use Rattle.std.proofs.lemmas.List.{length_push}
use Rattle.cube_math.specs.Cubes.{CubeValue}
use Rattle.leaf_counts.specs.declared.counts.Counts.{Counts}
use Rattle.leaf_counts.specs.Descent.{IsCountedIn}
use Rattle.leaf_counts.specs.Growths.{grown, grown_each}
use Rattle.leaf_counts.proofs.WayLaws.{IsGrownIn, grown_in, grown_child, placed_child, in_its_child, leaf_of_child}
use Rattle.leaf_counts.proofs.descent.+leaf_once_grown.Goals as goal

pub octant-octant-requires-clause-splits : goal.octant-octant-requires-clause-splits
octant-octant-requires-clause-splits t c =
    let node : IsGrownIn c.args.cube (grown c.args.growth.now c.args.counts.now) c.in-Each.growths c.in-Inner.children c.in-Each.places =
    grown_in c.args.cube c.args.growth.now c.args.counts.now c.in-Each.field-0 c.in-Inner.field-0 c.in-Each.growths c.in-Inner.children c.in-Each.places c.requires.counted c.in-Each.is c.in-Inner.is in
    node.inner.splits

pub bounds-as_slice-from : goal.bounds-as_slice-from
bounds-as_slice-from t c =
    let node : IsGrownIn c.args.cube (grown c.args.growth.now c.args.counts.now) c.in-Each.growths c.in-Inner.children c.in-Each.places =
    grown_in c.args.cube c.args.growth.now c.args.counts.now c.in-Each.field-0 c.in-Inner.field-0 c.in-Each.growths c.in-Inner.children c.in-Each.places c.requires.counted c.in-Each.is c.in-Inner.is in
    omega (arith, node.room, ap length c.as_slice.ensures, c.from.ensures, c.octant-octant.ensures.below)

pub child-further-requires-clause-room : goal.child-further-requires-clause-room
child-further-requires-clause-room t c =
    let node : IsGrownIn c.args.cube (grown c.args.growth.now c.args.counts.now) c.in-Each.growths c.in-Inner.children c.in-Each.places =
    grown_in c.args.cube c.args.growth.now c.args.counts.now c.in-Each.field-0 c.in-Inner.field-0 c.in-Each.growths c.in-Inner.children c.in-Each.places c.requires.counted c.in-Each.is c.in-Inner.is in
    omega (arith, node.inner.splits, c.requires.room)

pub child-smaller-requires-clause-splits : goal.child-smaller-requires-clause-splits
child-smaller-requires-clause-splits t c =
    let node : IsGrownIn c.args.cube (grown c.args.growth.now c.args.counts.now) c.in-Each.growths c.in-Inner.children c.in-Each.places =
    grown_in c.args.cube c.args.growth.now c.args.counts.now c.in-Each.field-0 c.in-Inner.field-0 c.in-Each.growths c.in-Inner.children c.in-Each.places c.requires.counted c.in-Each.is c.in-Inner.is in
    node.inner.splits

pub leaf_once_grown-requires : goal.leaf_once_grown-requires
leaf_once_grown-requires t c =
    let node : IsGrownIn c.args.cube (grown c.args.growth.now c.args.counts.now) c.in-Each.growths c.in-Inner.children c.in-Each.places =
    grown_in c.args.cube c.args.growth.now c.args.counts.now c.in-Each.field-0 c.in-Inner.field-0 c.in-Each.growths c.in-Inner.children c.in-Each.places c.requires.counted c.in-Each.is c.in-Inner.is in
    let bits : c.child-smaller.result.bits ≡ c.args.cube.bits - 1 = ap (λ (k : CubeValue). k.bits) c.child-smaller.ensures in
    let change : slice_get c.in-Each.growths c.octant-octant.result ≡ Some c.in-Some.change.now =
    ap (slice_get c.in-Each.growths) (sym c.from-in-Inner.ensures) ∙ sym c.get.ensures.value ∙ ap option_copied c.in-Some.is in
    let below : slice_get c.in-Inner.children c.octant-octant.result ≡ Some c.in-Some-get.below.now =
    ap (slice_get c.in-Inner.children) (sym c.from-in-Some.ensures) ∙ sym c.get-in-Some.ensures.value ∙ ap option_copied c.in-Some-get.is in
    let at : grown c.in-Some.change.now c.in-Some-get.below.now ≡ get_or (grown_each (map grown c.in-Each.growths) c.in-Inner.children c.in-Each.places) c.octant-octant.result (grown c.in-Some.change.now c.in-Some-get.below.now) =
    grown_child c.args.cube _ c.in-Each.growths c.in-Inner.children c.in-Each.places c.octant-octant.result c.in-Some.change.now c.in-Some-get.below.now node c.octant-octant.ensures.below change below in
    let P : CubeValue → Type 0 = λ k. IsCountedIn k (grown c.in-Some.change.now c.in-Some-get.below.now) in (
      omega (arith, bits, node.inner.splits),
      (
        subst P (sym c.child-smaller.ensures) (node.inner.below c.octant-octant.result (grown c.in-Some.change.now c.in-Some-get.below.now) c.octant-octant.ensures.below at),
        (
          omega (arith, ap length c.child-further.ensures, length_push c.args.path c.octant-octant.result, bits, node.inner.splits, c.requires.room),
          in_its_child c.args.cube c.child-smaller.result c.args.p.now c.octant-octant.result (omega (arith, node.inner.splits)) c.octant-octant.ensures.below c.requires.contained c.octant-octant.ensures.value c.child-smaller.ensures,
        ),
      ),
    )

pub leaf_below-requires-in-None-get-clause-counted : goal.leaf_below-requires-in-None-get-clause-counted
leaf_below-requires-in-None-get-clause-counted t c =
    let node : IsGrownIn c.args.cube (grown c.args.growth.now c.args.counts.now) c.in-Each.growths c.in-Inner.children c.in-Each.places =
    grown_in c.args.cube c.args.growth.now c.args.counts.now c.in-Each.field-0 c.in-Inner.field-0 c.in-Each.growths c.in-Inner.children c.in-Each.places c.requires.counted c.in-Each.is c.in-Inner.is in
    let at : c.index-as_slice-from.result ≡ get_or c.in-Each.places c.octant-octant.result c.index-as_slice-from.result =
    c.index-as_slice-from.is ∙ ap (λ (ts : List Counts). get_or ts c.from.result c.index-as_slice-from.result) c.as_slice.ensures ∙ ap (λ g. get_or c.in-Each.places g c.index-as_slice-from.result) c.from.ensures in
    let none : slice_get c.in-Inner.children c.octant-octant.result ≡ None =
    ap (slice_get c.in-Inner.children) (sym c.from-in-Some.ensures) ∙ sym c.get-in-Some.ensures.value ∙ ap option_copied c.in-None-get.is in
    let stands : c.index-as_slice-from.result ≡ get_or (grown_each (map grown c.in-Each.growths) c.in-Inner.children c.in-Each.places) c.octant-octant.result c.index-as_slice-from.result =
    placed_child c.args.cube _ c.in-Each.growths c.in-Inner.children c.in-Each.places c.octant-octant.result c.index-as_slice-from.result node c.octant-octant.ensures.below (inr none) at in
    subst (λ (k : CubeValue). IsCountedIn k c.index-as_slice-from.result) (sym c.child-smaller.ensures) (node.inner.below c.octant-octant.result c.index-as_slice-from.result c.octant-octant.ensures.below stands)

pub leaf_below-requires-in-None-get-clause-contained : goal.leaf_below-requires-in-None-get-clause-contained
leaf_below-requires-in-None-get-clause-contained t c =
    let node : IsGrownIn c.args.cube (grown c.args.growth.now c.args.counts.now) c.in-Each.growths c.in-Inner.children c.in-Each.places =
    grown_in c.args.cube c.args.growth.now c.args.counts.now c.in-Each.field-0 c.in-Inner.field-0 c.in-Each.growths c.in-Inner.children c.in-Each.places c.requires.counted c.in-Each.is c.in-Inner.is in
    in_its_child c.args.cube c.child-smaller.result c.args.p.now c.octant-octant.result (omega (arith, node.inner.splits)) c.octant-octant.ensures.below c.requires.contained c.octant-octant.ensures.value c.child-smaller.ensures

pub leaf_below-requires-in-None-clause-counted : goal.leaf_below-requires-in-None-clause-counted
leaf_below-requires-in-None-clause-counted t c =
    let node : IsGrownIn c.args.cube (grown c.args.growth.now c.args.counts.now) c.in-Each.growths c.in-Inner.children c.in-Each.places =
    grown_in c.args.cube c.args.growth.now c.args.counts.now c.in-Each.field-0 c.in-Inner.field-0 c.in-Each.growths c.in-Inner.children c.in-Each.places c.requires.counted c.in-Each.is c.in-Inner.is in
    let at : c.index-as_slice-from.result ≡ get_or c.in-Each.places c.octant-octant.result c.index-as_slice-from.result =
    c.index-as_slice-from.is ∙ ap (λ (ts : List Counts). get_or ts c.from.result c.index-as_slice-from.result) c.as_slice.ensures ∙ ap (λ g. get_or c.in-Each.places g c.index-as_slice-from.result) c.from.ensures in
    let none : slice_get c.in-Each.growths c.octant-octant.result ≡ None =
    ap (slice_get c.in-Each.growths) (sym c.from-in-Inner.ensures) ∙ sym c.get.ensures.value ∙ ap option_copied c.in-None.is in
    let stands : c.index-as_slice-from.result ≡ get_or (grown_each (map grown c.in-Each.growths) c.in-Inner.children c.in-Each.places) c.octant-octant.result c.index-as_slice-from.result =
    placed_child c.args.cube _ c.in-Each.growths c.in-Inner.children c.in-Each.places c.octant-octant.result c.index-as_slice-from.result node c.octant-octant.ensures.below (inl none) at in
    subst (λ (k : CubeValue). IsCountedIn k c.index-as_slice-from.result) (sym c.child-smaller.ensures) (node.inner.below c.octant-octant.result c.index-as_slice-from.result c.octant-octant.ensures.below stands)

pub leaf_below-requires-in-None-clause-contained : goal.leaf_below-requires-in-None-clause-contained
leaf_below-requires-in-None-clause-contained t c =
    let node : IsGrownIn c.args.cube (grown c.args.growth.now c.args.counts.now) c.in-Each.growths c.in-Inner.children c.in-Each.places =
    grown_in c.args.cube c.args.growth.now c.args.counts.now c.in-Each.field-0 c.in-Inner.field-0 c.in-Each.growths c.in-Inner.children c.in-Each.places c.requires.counted c.in-Each.is c.in-Inner.is in
    in_its_child c.args.cube c.child-smaller.result c.args.p.now c.octant-octant.result (omega (arith, node.inner.splits)) c.octant-octant.ensures.below c.requires.contained c.octant-octant.ensures.value c.child-smaller.ensures

pub returns-in-Some-get : goal.returns-in-Some-get
returns-in-Some-get t c =
    let node : IsGrownIn c.args.cube (grown c.args.growth.now c.args.counts.now) c.in-Each.growths c.in-Inner.children c.in-Each.places =
    grown_in c.args.cube c.args.growth.now c.args.counts.now c.in-Each.field-0 c.in-Inner.field-0 c.in-Each.growths c.in-Inner.children c.in-Each.places c.requires.counted c.in-Each.is c.in-Inner.is in
    let change : slice_get c.in-Each.growths c.octant-octant.result ≡ Some c.in-Some.change.now =
    ap (slice_get c.in-Each.growths) (sym c.from-in-Inner.ensures) ∙ sym c.get.ensures.value ∙ ap option_copied c.in-Some.is in
    let below : slice_get c.in-Inner.children c.octant-octant.result ≡ Some c.in-Some-get.below.now =
    ap (slice_get c.in-Inner.children) (sym c.from-in-Some.ensures) ∙ sym c.get-in-Some.ensures.value ∙ ap option_copied c.in-Some-get.is in
    let at : grown c.in-Some.change.now c.in-Some-get.below.now ≡ get_or (grown_each (map grown c.in-Each.growths) c.in-Inner.children c.in-Each.places) c.octant-octant.result (grown c.in-Some.change.now c.in-Some-get.below.now) =
    grown_child c.args.cube _ c.in-Each.growths c.in-Inner.children c.in-Each.places c.octant-octant.result c.in-Some.change.now c.in-Some-get.below.now node c.octant-octant.ensures.below change below in
    leaf_of_child _ node.count c.octant-octant.result _ _ _ _ _ _ _ _ node.is (omega (arith, node.inner.eight, c.octant-octant.ensures.below)) at c.child-further.ensures c.child-smaller.ensures c.leaf_once_grown.ensures

pub returns-in-None-get : goal.returns-in-None-get
returns-in-None-get t c =
    let node : IsGrownIn c.args.cube (grown c.args.growth.now c.args.counts.now) c.in-Each.growths c.in-Inner.children c.in-Each.places =
    grown_in c.args.cube c.args.growth.now c.args.counts.now c.in-Each.field-0 c.in-Inner.field-0 c.in-Each.growths c.in-Inner.children c.in-Each.places c.requires.counted c.in-Each.is c.in-Inner.is in
    let at : c.index-as_slice-from.result ≡ get_or c.in-Each.places c.octant-octant.result c.index-as_slice-from.result =
    c.index-as_slice-from.is ∙ ap (λ (ts : List Counts). get_or ts c.from.result c.index-as_slice-from.result) c.as_slice.ensures ∙ ap (λ g. get_or c.in-Each.places g c.index-as_slice-from.result) c.from.ensures in
    let none : slice_get c.in-Inner.children c.octant-octant.result ≡ None =
    ap (slice_get c.in-Inner.children) (sym c.from-in-Some.ensures) ∙ sym c.get-in-Some.ensures.value ∙ ap option_copied c.in-None-get.is in
    let stands : c.index-as_slice-from.result ≡ get_or (grown_each (map grown c.in-Each.growths) c.in-Inner.children c.in-Each.places) c.octant-octant.result c.index-as_slice-from.result =
    placed_child c.args.cube _ c.in-Each.growths c.in-Inner.children c.in-Each.places c.octant-octant.result c.index-as_slice-from.result node c.octant-octant.ensures.below (inr none) at in
    leaf_of_child _ node.count c.octant-octant.result _ _ _ _ _ _ _ _ node.is (omega (arith, node.inner.eight, c.octant-octant.ensures.below)) stands c.child-further.ensures c.child-smaller.ensures c.leaf_below-in-None-get.ensures

pub returns-in-None : goal.returns-in-None
returns-in-None t c =
    let node : IsGrownIn c.args.cube (grown c.args.growth.now c.args.counts.now) c.in-Each.growths c.in-Inner.children c.in-Each.places =
    grown_in c.args.cube c.args.growth.now c.args.counts.now c.in-Each.field-0 c.in-Inner.field-0 c.in-Each.growths c.in-Inner.children c.in-Each.places c.requires.counted c.in-Each.is c.in-Inner.is in
    let at : c.index-as_slice-from.result ≡ get_or c.in-Each.places c.octant-octant.result c.index-as_slice-from.result =
    c.index-as_slice-from.is ∙ ap (λ (ts : List Counts). get_or ts c.from.result c.index-as_slice-from.result) c.as_slice.ensures ∙ ap (λ g. get_or c.in-Each.places g c.index-as_slice-from.result) c.from.ensures in
    let none : slice_get c.in-Each.growths c.octant-octant.result ≡ None =
    ap (slice_get c.in-Each.growths) (sym c.from-in-Inner.ensures) ∙ sym c.get.ensures.value ∙ ap option_copied c.in-None.is in
    let stands : c.index-as_slice-from.result ≡ get_or (grown_each (map grown c.in-Each.growths) c.in-Inner.children c.in-Each.places) c.octant-octant.result c.index-as_slice-from.result =
    placed_child c.args.cube _ c.in-Each.growths c.in-Inner.children c.in-Each.places c.octant-octant.result c.index-as_slice-from.result node c.octant-octant.ensures.below (inl none) at in
    leaf_of_child _ node.count c.octant-octant.result _ _ _ _ _ _ _ _ node.is (omega (arith, node.inner.eight, c.octant-octant.ensures.below)) stands c.child-further.ensures c.child-smaller.ensures c.leaf_below-in-None.ensures
