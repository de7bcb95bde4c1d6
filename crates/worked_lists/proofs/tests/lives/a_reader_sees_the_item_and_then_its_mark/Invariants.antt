use Rattle.worked_lists.proofs.tests.lives.a_reader_sees_the_item_and_then_its_mark.Given as goal

abbrev pub ghosts-live : goal.ghosts-live
ghosts-live g a = record { name = a.blank.name; parts = a.blank.parts }
