use Rattle.std.proofs.Common.{sym, ap, ◌∙◌}
use Rattle.list_words.specs.Store.{Store}
use Rattle.worked_lists.proofs.tests.crowded.give_back.Goals as goal

pub dismiss-late-requires : goal.dismiss-late-requires
dismiss-late-requires c k d lt = c.requires.workers k d lt ∙ sym (ap (λ (s : Store). s.name) c.unpin.ensures.store)
