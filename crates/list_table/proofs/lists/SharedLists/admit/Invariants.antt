use Rattle.list_table.proofs.lists.SharedLists.admit.Given as goal

abbrev pub ghosts-split : goal.ghosts-split
ghosts-split a = record { grants = a.grants.now }
