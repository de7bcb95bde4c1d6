-- What grants give, and what is left of them once one is used.
use Rattle.std.specs.Prelude.{ℕ, ◌-◌, List, [], ◌∷◌, sum_by, ◌==◌, ◌&&◌, nat_le, if◌then◌else◌}
use Rattle.list_machine.specs.Facts.{total}
use Rattle.list_machine.specs.declared.views.Grant.{Grant}

-- how many places grants give in all
abbrev pub granted_in_all : List Grant → ℕ
granted_in_all gs = sum_by (λ (g : Grant). g.n) gs

-- how many places of one list they give
abbrev pub granted_in : ℕ → List Grant → ℕ
granted_in list gs = total (λ (g : Grant). if g.list == list then g.n else 0) gs

-- one place of a list is used up
abbrev pub use_grant : ℕ → List Grant → List Grant
use_grant list [] = []
use_grant list (g ∷ gs) = if g.list == list && nat_le 1 g.n then record { list = g.list; n = g.n - 1 } ∷ gs else g ∷ use_grant list gs
