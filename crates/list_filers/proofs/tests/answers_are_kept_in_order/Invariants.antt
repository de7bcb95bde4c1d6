use Rattle.list_filers.proofs.tests.answers_are_kept_in_order.Given as goal

abbrev pub ghosts-three_answers : goal.ghosts-three_answers
ghosts-three_answers g a = record { name = a.blank.name; parts = a.blank.parts }
