use Rattle.std.proofs.Common.{◌≡◌, map, take}
use Rattle.run_words.specs.Options.{row_value}
use Rattle.run_words.specs.Screens.{names_in}
use Rattle.run_words.proofs.screen.names_in.Given as goal

abbrev pub invariant-loop-row : goal.invariant-loop-row
invariant-loop-row l = map (λ name. name.now) l.names.items ≡ names_in l.command (map row_value (take l.row-index l.rows))
