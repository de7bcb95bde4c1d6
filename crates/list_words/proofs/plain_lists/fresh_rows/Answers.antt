use Rattle.std.proofs.Common.{◌++◌, [], ◌∷◌, List, ap, sym, ◌∙◌}
use Rattle.std.specs.Prelude.{replicate}
use Rattle.std.proofs.lemmas.Grind.{replicate_next}
use Rattle.list_words.specs.PlainRows.{PlainList, no_list}
use Rattle.list_words.proofs.plain_lists.fresh_rows.Goals as goal

pub loop-preserved : goal.loop-preserved
loop-preserved c =
    c.in_ok-push.ensures.items
    ∙ ap (λ (xs : List PlainList). xs ++ c.new.result ∷ []) c.loop.invariant
    ∙ ap (λ (x : PlainList). replicate c.loop.counter no_list ++ x ∷ []) c.new.ensures
    ∙ sym (replicate_next c.loop.counter no_list)
