use Rattle.std.proofs.Common.{◌≡◌, ◌<◌, ◌∙◌, ap, sym, arith, rules, length, get_or, List}
use Rattle.cube_math.specs.Cubes.{CubeValue}
use Rattle.octree_model.specs.Octree.{inside}
use Rattle.batch_levels.specs.declared.level.Level.{Level}
use Rattle.batch_levels.proofs.SpillLaws.{leaf_points_here, goes_on, eight_levels, over_below, level_below, ends_below, cube_below}
use Rattle.batch_levels.proofs.spilling.+points_below.Goals as goal

pub octant-requires : goal.octant-requires
octant-requires t c = goes_on c.requires.leaf.leaf c.requires.leaf.cube c.requires.leaf.points c.in-Inner.inner c.args.path.now c.args.steps (sym c.in-Inner.is ∙ c.requires.leaf.is) c.requires.leaf.ends c.requires.steps

pub bounds-as_slice-octant : goal.bounds-as_slice-octant
bounds-as_slice-octant t c =
    omega (arith, eight_levels c.requires.leaf.leaf c.requires.leaf.cube c.requires.leaf.points c.in-Inner.inner (sym c.in-Inner.is ∙ c.requires.leaf.is), ap length c.as_slice-in-Inner.ensures, c.from-octant.ensures, c.octant.ensures.below)

pub overflow_add-steps : goal.overflow_add-steps
overflow_add-steps t c =
    let on : c.args.steps < length c.args.path.now = goes_on c.requires.leaf.leaf c.requires.leaf.cube c.requires.leaf.points c.in-Inner.inner c.args.path.now c.args.steps (sym c.in-Inner.is ∙ c.requires.leaf.is) c.requires.leaf.ends c.requires.steps in
    search rules

pub points_below-requires : goal.points_below-requires
points_below-requires t c =
    let on : c.args.steps < length c.args.path.now = goes_on c.requires.leaf.leaf c.requires.leaf.cube c.requires.leaf.points c.in-Inner.inner c.args.path.now c.args.steps (sym c.in-Inner.is ∙ c.requires.leaf.is) c.requires.leaf.ends c.requires.steps in
    let at : c.index-as_slice-octant.result ≡ get_or c.in-Inner.inner.levels c.octant.result c.index-as_slice-octant.result =
    c.index-as_slice-octant.is ∙ ap (λ (ls : List Level). get_or ls c.from-octant.result c.index-as_slice-octant.result) c.as_slice-in-Inner.ensures ∙ ap (λ g. get_or c.in-Inner.inner.levels g c.index-as_slice-octant.result) c.from-octant.ensures in (
      omega (arith, on),
      (
        omega (arith, on),
        over_below c.args.level.now c.index-as_slice-octant.result c.in-Inner.inner c.args.path.now c.args.steps c.octant.result c.requires.leaf c.in-Inner.is c.octant.ensures.below c.octant.ensures.value at,
      ),
    )

pub returns-in-Leaf : goal.returns-in-Leaf
returns-in-Leaf t c = λ leaf cube points is ends. c.as_slice.ensures ∙ leaf_points_here leaf cube points c.in-Leaf.points _ (sym c.in-Leaf.is ∙ is) ends

pub returns-in-Inner : goal.returns-in-Inner
returns-in-Inner t c =
    λ leaf cube points is ends.
    let at : c.index-as_slice-octant.result ≡ get_or c.in-Inner.inner.levels c.octant.result c.index-as_slice-octant.result =
    c.index-as_slice-octant.is ∙ ap (λ (ls : List Level). get_or ls c.from-octant.result c.index-as_slice-octant.result) c.as_slice-in-Inner.ensures ∙ ap (λ g. get_or c.in-Inner.inner.levels g c.index-as_slice-octant.result) c.from-octant.ensures in
    c.points_below.ensures leaf _ points
    (level_below leaf cube points c.in-Inner.inner c.octant.result c.index-as_slice-octant.result (sym c.in-Inner.is ∙ is) c.octant.ensures.below at)
    (ends_below leaf cube points c.in-Inner.inner c.args.path.now c.args.steps c.octant.result (sym c.in-Inner.is ∙ is) c.octant.ensures.below c.octant.ensures.value ends)
    ∙ ap (λ (k : CubeValue). inside k points) (cube_below cube c.args.path.now c.args.steps c.octant.result c.octant.ensures.value)
