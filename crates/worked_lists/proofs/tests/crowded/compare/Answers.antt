use Rattle.std.proofs.Common.{drop, sym, ap, ◌∙◌}
use Rattle.list_table.specs.Tables.{GuestValue}
use Rattle.chunk_lists.specs.Keepers.{store_of}
use Rattle.chunk_lists.specs.Knives.{KnifeValue, full_name, lists_of}
use Rattle.worked_lists.proofs.tests.crowded.compare.Goals as goal

pub give_back-late-requires-clause-reader : goal.give_back-late-requires-clause-reader
give_back-late-requires-clause-reader c =
    ap full_name
    (ap (λ (r : GuestValue). r.name) c.note_standing.ensures.reader
    ∙ (c.requires.reader
    ∙ (sym (ap (drop 2) c.requires.name)
    ∙ sym (ap (λ (k : KnifeValue). (store_of k.keeper).name) c.note_standing.ensures.knife))))

pub give_back-late-requires-clause-workers : goal.give_back-late-requires-clause-workers
give_back-late-requires-clause-workers c k d lt = c.requires.workers k d lt ∙ (sym c.requires.name ∙ sym (ap (λ (x : KnifeValue). (lists_of x).name) c.note_standing.ensures.knife))
