use Rattle.worked_lists.proofs.owner.note_standing.Given as goal

abbrev pub ghosts-note_each : goal.ghosts-note_each
ghosts-note_each a = record { name = a.blank.name; parts = a.blank.parts }
