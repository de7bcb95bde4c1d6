use Rattle.std.proofs.Common.{◌∙◌, ◌<◌, ◌∷◌, ◌++◌, [], ℕ, List, ap, get_or, length, subst, sym, take}
use Rattle.std.specs.List.{AllZip, Contains}
use Rattle.std.proofs.lemmas.List.{take_more}
use Rattle.std.proofs.lemmas.Slice.Zip.{all_zipped_more}
use Rattle.leaf_shape.specs.Shapes.{IsLatest}
use Rattle.leaf_shape.proofs.shape.LeafShape.lists_at.Goals as goal

pub unreachable-requires : goal.unreachable-requires
unreachable-requires c =
    let has : Contains c.args.self.now.paths (get_or c.args.paths.now c.loop-path.path-index c.path-item.result) =
    c.requires c.loop-path.path-index c.path-item.result c.loop-path-test.true in
    let some = c.in_default.ensures.found.1 (subst (Contains c.args.self.now.paths) (sym c.path-item.is) has) in
    cc

pub loop-path-preserved : goal.loop-path-preserved
loop-path-preserved c =
    let R : List ℕ → ℕ → Type 0 = IsLatest c.args.self.now.paths in
    let i = c.loop-path.path-index in
    let paths : List (List ℕ) = c.args.paths.now in
    subst (λ (l : List (List ℕ)). AllZip R l c.push.new.self.items)
    (ap (λ (x : List ℕ). take i paths ++ x ∷ []) c.path-item.is ∙ sym (take_more paths i c.path-item.result c.loop-path-test.true))
    (subst (λ (l : List ℕ). AllZip R (take i paths ++ c.path-item.result ∷ []) l) (sym c.in_ok-push.ensures.items)
    (all_zipped_more R (take i paths) c.loop-path.lists.items c.path-item.result c.in-Some.list c.loop-path.invariant c.in-Some.ensures.latest))
