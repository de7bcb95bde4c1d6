use Rattle.frame_words.proofs.words.lower_pixel.Given as goal

abbrev pub ghosts-look : goal.ghosts-look
ghosts-look a = record { key = a.key }
