use Rattle.list_filers.proofs.tests.a_filer_walks_on_through_its_lists.Given as goal

abbrev pub ghosts-live : goal.ghosts-live
ghosts-live g a = record { name = a.blank.name; parts = a.blank.parts }
