-- Claimed chains that grow.
use Rattle.std.specs.Prelude.{◌≡◌, ℕ, ◌+◌, ◌-◌, List, ◌++◌, length, sum_by, ◌==◌, if◌then◌else◌}
use Rattle.chunk_pool.specs.Amounts.{chunks_for}
use Rattle.list_machine.specs.declared.views.Grant.{Grant}
use Rattle.list_words.specs.Store.{Store, held_of, row}

-- free chunks were put at the ends of claimed chains, `grown l` at that of a list l and so many in all, and nothing else happened
pub record AreLinked (s t : Store) (grown : ℕ → ℕ) (all : ℕ) : Type 0 where
  pub rest : t ≡ record s { rows = t.rows; free = t.free }
  pub lists : length t.rows ≡ length s.rows
  pub free : t.free + all ≡ s.free
  pub rows : (l : ℕ) → row t l ≡ record (row s l) { claimed = (row t l).claimed; claimed_room = (row t l).claimed_room }
  pub longer : (l : ℕ) → (more : List ℕ) × ((row t l).claimed ≡ (row s l).claimed ++ more) × (length more ≡ grown l)
  pub room : (l : ℕ) → (row t l).claimed_room + grown l ≡ (row s l).claimed_room
  pub held : held_of t ≡ held_of s

-- one list's chain grows by so many chunks
abbrev pub one_grown : ℕ → ℕ → ℕ → ℕ
one_grown list n l = if list == l then n else 0

-- the chunks that the list of a grant lacks for the slots that were granted and those of the grant
abbrev pub lacking : Store → Grant → ℕ
lacking s g = chunks_for ((row s g.list).granted + g.n) - length (row s g.list).claimed

-- the chunks that the lists of these grants lack, in one list and in all
abbrev pub lacking_in : Store → List Grant → ℕ → ℕ
lacking_in s grants l = sum_by (λ g. one_grown g.list (lacking s g) l) grants

abbrev pub lacking_in_all : Store → List Grant → ℕ
lacking_in_all s grants = sum_by (lacking s) grants
