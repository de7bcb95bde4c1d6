use Rattle.std.proofs.Common.{◌∷◌, ◌++◌, [], List, ℕ, All, ap, arith, not, subst, sym, take, ◌∙◌}
use Rattle.std.specs.Prelude.{Contains}
use Rattle.std.proofs.lemmas.List.{take_all, take_more}
use Rattle.std.proofs.lemmas.List.Elements.{All-push}
use Rattle.leaf_shape.proofs.tests.are_opened.Goals as goal

pub loop-path-preserved : goal.loop-path-preserved
loop-path-preserved c =
    let P : List ℕ → Type 0 = Contains c.args.shape.now.paths in
    let i = c.loop-path.path-index in
    let paths : List (List ℕ) = c.args.paths.now in
    let has : P c.path-item.result = c.list_at.ensures.found.0 (c.is_none.ensures ∙ ap not c.if-is_none.false) in
    subst (All P)
    (ap (λ (x : List ℕ). take i paths ++ x ∷ []) c.path-item.is ∙ sym (take_more paths i c.path-item.result c.loop-path-test.true))
    (All-push P (take i paths) c.path-item.result c.loop-path.invariant has)

pub returns : goal.returns
returns c = λ told. subst (All (Contains c.args.shape.now.paths)) (take_all c.loop-path.path-index c.args.paths.now (omega arith)) c.loop-path.invariant
