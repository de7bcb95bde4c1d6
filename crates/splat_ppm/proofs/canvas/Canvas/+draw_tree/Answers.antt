use Rattle.std.proofs.Common.{◌≡◌, true, ◌-◌, ◌<◌, ◌++◌, ◌∙◌, List, map, take, length, get_or, ap, arith, rules, subst, sym}
use Rattle.std.proofs.lemmas.List.{take_all}
use Rattle.cube_math.specs.Cubes.{CubeValue}
use Rattle.octree_model.specs.Shapes.{IsOctreeIn}
use Rattle.octree_model.specs.declared.tree.Tree.{Tree}
use Rattle.octree_model.proofs.ShapeLaws.{IsInnerIn, inner_in}
use Rattle.picture_model.specs.Cameras.{CameraValue, refines}
use Rattle.picture_model.specs.Items.{ItemValue}
use Rattle.camera_cut.specs.Descents.{children_seen, seen_in}
use Rattle.splat_ppm.specs.Canvases.{CanvasValue, drawn_keys}
use Rattle.splat_ppm.proofs.WalkLaws.{child_more, all_children}
use Rattle.splat_ppm.proofs.canvas.Canvas.+draw_tree.Goals as goal

pub overflow_cast-g : goal.overflow_cast-g
overflow_cast-g t c =
    let inner : IsInnerIn c.args.cube c.in-Inner.node = inner_in c.args.cube c.args.tree.now c.in-Inner.node c.requires c.in-Inner.is in
    let low : c.loop-g.g < 8 = omega (arith, inner.eight, ap length c.trees-t-items.ensures) in
    search rules

pub child-requires-clause-below : goal.child-requires-clause-below
child-requires-clause-below t c =
    let inner : IsInnerIn c.args.cube c.in-Inner.node = inner_in c.args.cube c.args.tree.now c.in-Inner.node c.requires c.in-Inner.is in
    omega (arith, inner.eight, ap length c.trees-t-items.ensures)

pub child-requires-clause-splits : goal.child-requires-clause-splits
child-requires-clause-splits t c =
    let inner : IsInnerIn c.args.cube c.in-Inner.node = inner_in c.args.cube c.args.tree.now c.in-Inner.node c.requires c.in-Inner.is in
    inner.splits

pub draw_voxels-requires : goal.draw_voxels-requires
draw_voxels-requires t c =
    let inner : IsInnerIn c.args.cube c.in-Inner.node = inner_in c.args.cube c.args.tree.now c.in-Inner.node c.requires c.in-Inner.is in
    record { splits = inner.splits }

pub draw_tree-requires : goal.draw_tree-requires
draw_tree-requires t c =
    let inner : IsInnerIn c.args.cube c.in-Inner.node = inner_in c.args.cube c.args.tree.now c.in-Inner.node c.requires c.in-Inner.is in
    let low : c.loop-g.g < 8 = omega (arith, inner.eight, ap length c.trees-t-items.ensures) in
    let at : c.t-item.result ≡ get_or c.in-Inner.node.trees c.loop-g.g c.t-item.result =
    c.t-item.is ∙ ap (λ (ts : List Tree). get_or ts c.loop-g.g c.t-item.result) c.trees-t-items.ensures in
    let bits : c.child.result.bits ≡ c.args.cube.bits - 1 = ap (λ (k : CubeValue). k.bits) c.child.ensures in (
      omega (arith, bits, inner.splits),
      subst (λ (cube : CubeValue). IsOctreeIn cube c.t-item.result) (sym c.child.ensures) (inner.below c.loop-g.g c.t-item.result low at),
    )

pub loop-g-preserved : goal.loop-g-preserved
loop-g-preserved t c =
    let camera : CameraValue = c.args.self.now.camera in
    let ts : List Tree = c.trees-t-items.result.now in
    let next : CameraValue = c.draw_tree.new.self.camera in
    record {
      camera = c.draw_tree.ensures.camera ∙ c.loop-g.invariant.camera;
      drawn = λ before shows.
          let done : List ItemValue = before ++ children_seen c.args.cube 0 (map (seen_in camera) (take c.loop-g.g ts)) in
          c.draw_tree.ensures.drawn done (c.loop-g.invariant.drawn before shows)
          ∙ (λ j. drawn_keys next (done ++ seen_in (c.loop-g.invariant.camera j) c.t-item.result (c.child.ensures j)))
          ∙ ap (drawn_keys next) (child_more camera c.args.cube before ts c.loop-g.g c.t-item.result c.loop-g-test.true c.t-item.is);
    }

pub returns-after-loop-g-clause-drawn : goal.returns-after-loop-g-clause-drawn
returns-after-loop-g-clause-drawn t c before shows =
    let camera : CameraValue = c.args.self.now.camera in
    let ts : List Tree = c.trees-t-items.result.now in
    let all : take c.loop-g.g ts ≡ c.in-Inner.node.trees = take_all c.loop-g.g ts c.loop-g-test.false ∙ c.trees-t-items.ensures in
    let refined : refines camera c.args.cube ≡ true = ap (λ (v : CanvasValue). refines v.camera c.args.cube) (sym c.self.view_is) ∙ sym c.refines.ensures ∙ c.if-refines.true in
    let seen : children_seen c.args.cube 0 (map (seen_in camera) (take c.loop-g.g ts)) ≡ seen_in camera c.args.tree.now c.args.cube =
    ap (λ (us : List Tree). children_seen c.args.cube 0 (map (seen_in camera) us)) all ∙ all_children camera c.args.cube c.in-Inner.node refined
    ∙ ap (λ (u : Tree). seen_in camera u c.args.cube) (sym c.in-Inner.is) in
    c.loop-g.invariant.drawn before shows ∙ ap (λ (items : List ItemValue). drawn_keys c.loop-g.self.camera (before ++ items)) seen
