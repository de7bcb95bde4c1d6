-- A filer of lists over vectors.
use Rattle.std.specs.Prelude.{◌+◌, ◌≤◌, [], vec_len}
use Rattle.std.specs.Vec.{vec_capacity}
use Rattle.list_machine.specs.Grants.{granted_in_all}
use Rattle.list_words.specs.Filing.{Filing, left_after}
use Rattle.list_words.specs.declared.plain_filer.PlainFiler.TheInside.{Inside}

-- it keeps the grants as they were given, and its answers
abbrev pub filing_of : Inside → Filing
filing_of a = record { name = []; birth = a.birth; left = left_after a.grants.items a.answers.items; answers = a.answers.items }

-- there is room for the answers of all slots that are left
abbrev pub HasAnswerRoom : Inside → Type 0
HasAnswerRoom a = vec_len a.answers + granted_in_all (left_after a.grants.items a.answers.items) ≤ vec_capacity a.answers
