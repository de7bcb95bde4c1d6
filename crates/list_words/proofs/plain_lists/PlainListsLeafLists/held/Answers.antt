use Rattle.std.proofs.Common.{ap, sym, ◌∙◌}
use Rattle.list_words.specs.Store.{held_of}
use Rattle.list_words.specs.Plain.{store_of}
use Rattle.list_words.proofs.ReclaimLaws.{held-map}
use Rattle.list_words.proofs.plain_lists.PlainListsLeafLists.held.Goals as goal

pub returns : goal.returns
returns c = c.self.invariant.summed.held ∙ sym (held-map c.self.inside.rows.items) ∙ ap (λ p. held_of (store_of p)) c.self.view_is
