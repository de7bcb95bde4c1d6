-- The chunks of a world: those in no chain, and those in chains of shut lists.
use Rattle.std.specs.Prelude.{ℕ, ◌+◌, Bool, not, ◌||◌, List, filter, length, slice_index, sum_by, if◌then◌else◌}
use Rattle.std.specs.List.{list_any}
use Rattle.octree_model.specs.Numbers.{up_to, has}
use Rattle.list_machine.specs.Facts.{is_shut}
use Rattle.list_machine.specs.Machine.{State}
use Rattle.list_machine.specs.declared.views.Leaf.{Leaf}

-- whether a chunk stands in a chain of one of the lists
abbrev pub is_in_chain : List Leaf → ℕ → Bool
is_in_chain leaves c = list_any (λ (a : Leaf). has c a.claimed || has c a.owned) leaves

-- the free chunks, ascending: those in no chain, of so many
abbrev pub free_chunks : ℕ → State → List ℕ
free_chunks chunks s = filter (λ c. not (is_in_chain s.owner.book.leaves c)) (up_to chunks)

-- the free chunk that is taken next: the least one
abbrev pub least_free : ℕ → State → ℕ
least_free chunks s = slice_index (free_chunks chunks s) 0

-- how many chunks wait in the chains of shut lists
abbrev pub held_chunks : State → ℕ
held_chunks s = sum_by (λ (a : Leaf). if is_shut a.stage then length a.claimed + length a.owned else 0) s.owner.book.leaves
