-- What stands where it belongs: in the list of its leaf, or in a list that is still to be swept.
use Rattle.std.specs.Prelude.{◌≡◌, ◌⊎◌, ℕ, ◌+◌, Bool, List, ◌++◌, map, length, sum_by, slice_index, Contains, IsTrue}
use Rattle.list_words.specs.Store.{Store, IsOpen, IsShut, row, chunks_of, found_in, held_of}
use Rattle.item_moves.specs.Homes.{IsKnownIn}

-- these lists were swept one after the other, nobody was born since, their chunks are held, and else only items were placed in
-- open lists
pub record AreSwept (s t : Store) (done : List ℕ) : Type 0 where
  pub rest : t ≡ record s { rows = t.rows; order = s.order ++ done; out = s.out ++ map (λ l. 0) done }
  pub lists : length t.rows ≡ length s.rows
  pub rows : (l : ℕ) → (Contains done l → ⊥) → row t l ≡ record (row s l) { placed = (row t l).placed }
  pub others : (l : ℕ) → (Contains done l → ⊥) → (IsOpen s l → ⊥) → row t l ≡ row s l
  pub shut : (l : ℕ) → Contains done l → IsShut t l
  pub held : held_of t ≡ held_of s + sum_by (λ l. length (chunks_of (row s l))) done

-- the home of the item is the list of its leaf, or one of the lists left to be swept, which covers it
abbrev pub IsHoused : (ℕ → ℕ) → (ℕ → ℕ → Bool) → List ℕ → List ℕ → ℕ → Type 0
IsHoused leaf covers homes left x = (slice_index homes x ≡ leaf x) ⊎ ((l : ℕ) × Contains left l × (slice_index homes x ≡ l) × IsTrue (covers l x))

-- each item that a sweep found in a list which covers it is housed
unfoldable pub AreSettled : Store → (ℕ → ℕ) → (ℕ → ℕ → Bool) → List ℕ → List ℕ → Type 0
AreSettled s leaf covers homes left = (l x : ℕ) → IsShut s l → Contains (found_in (row s l)) x → IsTrue (covers l x) → IsHoused leaf covers homes left x

-- the item is known to stand in the list of its leaf, or in a list left to be swept, which covers it
abbrev pub IsKept : (ℕ → ℕ → ℕ → Type 0) → (ℕ → ℕ) → (ℕ → ℕ → Bool) → List ℕ → ℕ → Type 0
IsKept knows leaf covers left x = IsKnownIn knows (leaf x) x ⊎ ((l : ℕ) × Contains left l × IsKnownIn knows l x × IsTrue (covers l x))

-- the item is known to stand in a chunk of the list's chains
abbrev pub StandsIn : Store → (ℕ → ℕ → ℕ → Type 0) → ℕ → ℕ → Type 0
StandsIn s knows l x = (c : ℕ) × Contains (chunks_of (row s l)) c × knows l c x
