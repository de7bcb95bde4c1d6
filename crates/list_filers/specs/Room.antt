-- Room for a filer.
use Rattle.std.specs.Prelude.{ℕ}

-- for at least so many grants, and for the answers of so many items
pub record Room : Type 0 where
  pub grants : ℕ
  pub items : ℕ
