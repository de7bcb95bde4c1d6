use Rattle.std.proofs.Common.{◌≡◌, ◌-◌, ◌∙◌, ap, arith, length, get_or, List, subst, sym}
use Rattle.std.proofs.lemmas.List.{length_push}
use Rattle.cube_math.specs.Cubes.{CubeValue}
use Rattle.leaf_counts.specs.Descent.{IsCountedIn}
use Rattle.leaf_counts.specs.declared.counts.Counts.{Counts}
use Rattle.leaf_counts.proofs.WayLaws.{IsInnerIn, inner_in, in_its_child, leaf_itself, leaf_of_child}
use Rattle.leaf_counts.proofs.descent.+leaf_below.Goals as goal

pub octant-octant-requires-clause-splits : goal.octant-octant-requires-clause-splits
octant-octant-requires-clause-splits t c = (inner_in _ _ _ _ c.requires.counted c.in-Inner.is).splits

pub bounds-as_slice-from : goal.bounds-as_slice-from
bounds-as_slice-from t c =
    let inner : IsInnerIn c.args.cube c.in-Inner.children = inner_in _ _ _ _ c.requires.counted c.in-Inner.is in
    omega (arith, inner.eight, ap length c.as_slice.ensures, c.from.ensures, c.octant-octant.ensures.below)

pub child-requires-clause-room : goal.child-requires-clause-room
child-requires-clause-room t c = omega (arith, (inner_in _ _ _ _ c.requires.counted c.in-Inner.is).splits, c.requires.room)

pub child-requires-in-Inner-clause-splits : goal.child-requires-in-Inner-clause-splits
child-requires-in-Inner-clause-splits t c = (inner_in _ _ _ _ c.requires.counted c.in-Inner.is).splits

pub leaf_below-requires : goal.leaf_below-requires
leaf_below-requires t c =
    let inner : IsInnerIn c.args.cube c.in-Inner.children = inner_in _ _ _ _ c.requires.counted c.in-Inner.is in
    let bits : c.child-in-Inner.result.bits ≡ c.args.cube.bits - 1 = ap (λ (k : CubeValue). k.bits) c.child-in-Inner.ensures in
    let at : c.index-as_slice-from.result ≡ get_or c.in-Inner.children c.octant-octant.result c.index-as_slice-from.result =
    c.index-as_slice-from.is ∙ ap (λ (ts : List Counts). get_or ts c.from.result c.index-as_slice-from.result) c.as_slice.ensures ∙ ap (λ g. get_or c.in-Inner.children g c.index-as_slice-from.result) c.from.ensures in
    let P : CubeValue → Type 0 = λ k. IsCountedIn k c.index-as_slice-from.result in (
      omega (arith, bits, inner.splits),
      (
        subst P (sym c.child-in-Inner.ensures) (inner.below c.octant-octant.result c.index-as_slice-from.result c.octant-octant.ensures.below at),
        (
          omega (arith, ap length c.child.ensures, length_push c.args.path c.octant-octant.result, bits, inner.splits, c.requires.room),
          in_its_child c.args.cube c.child-in-Inner.result c.args.p.now c.octant-octant.result (omega (arith, inner.splits)) c.octant-octant.ensures.below c.requires.contained c.octant-octant.ensures.value c.child-in-Inner.ensures,
        ),
      ),
    )

pub returns-in-Leaf : goal.returns-in-Leaf
returns-in-Leaf t c = leaf_itself _ _ _ _ _ c.in-Leaf.is c.requires.contained

pub returns-in-Inner : goal.returns-in-Inner
returns-in-Inner t c =
    let inner : IsInnerIn c.args.cube c.in-Inner.children = inner_in _ _ _ _ c.requires.counted c.in-Inner.is in
    let at : c.index-as_slice-from.result ≡ get_or c.in-Inner.children c.octant-octant.result c.index-as_slice-from.result =
    c.index-as_slice-from.is ∙ ap (λ (ts : List Counts). get_or ts c.from.result c.index-as_slice-from.result) c.as_slice.ensures ∙ ap (λ g. get_or c.in-Inner.children g c.index-as_slice-from.result) c.from.ensures in
    leaf_of_child _ _ c.octant-octant.result _ _ _ _ _ _ _ _ c.in-Inner.is (omega (arith, inner.eight, c.octant-octant.ensures.below)) at c.child.ensures c.child-in-Inner.ensures c.leaf_below.ensures
