use Rattle.pinned_version.proofs.tests.a_book_tells_each_item_wherever_a_look_begins.Given as goal

abbrev pub ghosts-xs_of : goal.ghosts-xs_of
ghosts-xs_of g a = record { name = a.blank.name; parts = a.blank.parts }
