use Rattle.batch_filing.proofs.tests.items_are_filed_in_order_each_in_its_list.Given as goal

abbrev pub ghosts-file_three : goal.ghosts-file_three
ghosts-file_three g a = record { name = a.blank.name; parts = a.blank.parts }
