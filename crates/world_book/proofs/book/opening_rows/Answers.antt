use Rattle.std.proofs.Common.{◌++◌, [], ◌∷◌, List, ap, sym, ◌∙◌}
use Rattle.std.specs.Prelude.{replicate}
use Rattle.std.proofs.lemmas.Grind.{replicate_next}
use Rattle.list_machine.specs.Steps.{opening_leaf}
use Rattle.list_machine.specs.declared.views.Leaf.{Leaf}
use Rattle.world_book.proofs.book.opening_rows.Goals as goal

pub loop-preserved : goal.loop-preserved
loop-preserved c =
    c.in_ok-push.ensures.items
    ∙ ap (λ (xs : List Leaf). xs ++ c.new.result ∷ []) c.loop.invariant
    ∙ ap (λ (x : Leaf). replicate c.loop.counter opening_leaf ++ x ∷ []) c.new.ensures
    ∙ sym (replicate_next c.loop.counter opening_leaf)
