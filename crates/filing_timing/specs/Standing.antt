-- Items that came to stand.
use Rattle.std.specs.Prelude.{ℕ, Bool, true, false, List, filter, length}
use Rattle.list_words.specs.declared.leaf_lists.Answer.{Answer}
use Rattle.list_words.specs.declared.leaf_lists.Filed.{Filed}
use Rattle.list_words.specs.declared.leaf_lists.Filed.TheVariants.{At, Late}

-- whether a filing ended with its item in a slot
abbrev pub stands : Filed → Bool
stands (At chunk slot) = true
stands (Late seen) = false

-- how many of the answers say so
abbrev pub standing_in : List Answer → ℕ
standing_in answers = length (filter (λ a. stands a.filed) answers)
