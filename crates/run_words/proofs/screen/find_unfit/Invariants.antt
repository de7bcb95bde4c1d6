use Rattle.std.proofs.Common.{◌≡◌, map, drop, string_bytes, not}
use Rattle.std.specs.Prelude.{find}
use Rattle.run_words.specs.Options.{row_value}
use Rattle.run_words.specs.Screens.{is_fit}
use Rattle.run_words.proofs.screen.find_unfit.Given as goal

abbrev pub invariant-loop-row : goal.invariant-loop-row
invariant-loop-row l =
    find (λ row. not (is_fit (map string_bytes l.given.words.now) (row_value row))) (drop l.row-index l.rows)
    ≡ find (λ row. not (is_fit (map string_bytes l.given.words.now) (row_value row))) l.rows
