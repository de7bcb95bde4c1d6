-- A list that is opened for a new leaf.
use Rattle.std.specs.Prelude.{◌≡◌, ◌≢◌, ℕ, ◌+◌, length}
use Rattle.list_words.specs.Store.{Store, held_of, opened, row}

-- a list was opened and so many free chunks put into its owned chain, and nothing else happened
pub record IsOpened (s t : Store) (list n : ℕ) : Type 0 where
  pub rest : t ≡ record s { rows = t.rows; free = t.free }
  pub lists : length t.rows ≡ length s.rows
  pub free : t.free + n ≡ s.free
  pub others : (l : ℕ) → l ≢ list → row t l ≡ row s l
  pub here : row t list ≡ record (opened (row s list)) { owned = (row t list).owned; owned_room = (row t list).owned_room }
  pub many : length (row t list).owned ≡ n
  pub room : (row t list).owned_room + n ≡ (row s list).owned_room
  pub held : held_of t ≡ held_of s
