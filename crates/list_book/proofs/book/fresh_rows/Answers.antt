use Rattle.std.proofs.Common.{◌++◌, [], ◌∷◌, List, ap, sym, ◌∙◌}
use Rattle.std.specs.Prelude.{replicate}
use Rattle.std.proofs.lemmas.Grind.{replicate_next}
use Rattle.list_book.specs.Books.{BookRow, fresh_row}
use Rattle.list_book.proofs.book.fresh_rows.Goals as goal

pub loop-preserved : goal.loop-preserved
loop-preserved c =
    c.in_ok-push.ensures.items
    ∙ ap (λ (xs : List BookRow). xs ++ c.new.result ∷ []) c.loop.invariant
    ∙ ap (λ (x : BookRow). replicate c.loop.counter fresh_row ++ x ∷ []) c.new.ensures
    ∙ sym (replicate_next c.loop.counter fresh_row)
