use Rattle.worked_lists.proofs.owner.sweep_lists.Given as goal

abbrev pub ghosts-sweep_each : goal.ghosts-sweep_each
ghosts-sweep_each a = record { name = a.blank.name; parts = a.blank.parts }
