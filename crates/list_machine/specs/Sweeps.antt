-- The order in which a sweep marks the slots of a list.
use Rattle.std.specs.Prelude.{ℕ, ◌+◌}
use Rattle.list_machine.specs.Facts.{Chain, claimed_chain, owned_chain}

-- how many marks a sweep makes before that of the place i of a chain, where the shut found so many claims
abbrev pub mark_index : ℕ → Chain → ℕ → ℕ
mark_index found claimed_chain i = i
mark_index found owned_chain i = found + i
