use Rattle.std.proofs.Common.{◌≡◌, ◌∙◌, ◌∷◌, [], ap, sym, subst, take}
use Rattle.std.proofs.lemmas.List.{get_or_default}
use Rattle.leaf_shape.specs.declared.opening.Opening.{Opening}
use Rattle.leaf_shape.specs.Openings.{AreShared, paths_of}
use Rattle.leaf_shape.specs.Shapes.{path_of}
use Rattle.leaf_shape.proofs.OpeningLaws.{opening_more, paths_more, path_after}
use Rattle.leaf_shape.proofs.opening.openings.Goals as goal

pub loop-path-preserved : goal.loop-path-preserved
loop-path-preserved c =
    let o : Opening = record { path = c.path-item.result; shared = c.shared_octants.result } in
    let at : c.path-item.result ≡ path_of c.args.paths.now c.loop-path.path-index =
    c.path-item.is ∙ get_or_default c.args.paths.now c.loop-path.path-index c.path-item.result [] c.loop-path-test.true in
    let same : take o.shared (path_of ([] ∷ c.args.paths.now) c.loop-path.path-index) ≡ take o.shared o.path =
    ap (take o.shared) (sym c.loop-path.invariant.before) ∙ c.shared_octants.ensures in
    record {
      paths = ap paths_of c.in_ok-push.ensures.items
          ∙ paths_more c.args.paths.now c.loop-path.openings.items c.loop-path.path-index o c.loop-path.invariant.paths c.loop-path-test.true at;
      shared = subst AreShared (sym c.in_ok-push.ensures.items)
          (opening_more c.args.paths.now c.loop-path.openings.items c.loop-path.path-index o
          c.loop-path.invariant.shared c.loop-path.invariant.paths c.loop-path-test.true same);
      before = at ∙ sym (path_after c.args.paths.now c.loop-path.path-index);
    }
