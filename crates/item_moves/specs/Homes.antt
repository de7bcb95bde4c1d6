-- Where items were placed: each in the owned chain of one list, its home.
use Rattle.std.specs.Prelude.{◌≡◌, ◌⊎◌, ℕ, ◌*◌, ◌<◌, ◌≤◌, Bool, ◌&&◌, ◌==◌, nat_lt, if◌then◌else◌, List, length, count_by, slice_index, IsTrue}
use Rattle.std.specs.List.{range_with_len}
use Rattle.list_words.specs.Store.{Store, IsOpen, held_of, row}

-- the owner knows that the item stands in some chunk of the list
abbrev pub IsKnownIn : (ℕ → ℕ → ℕ → Type 0) → ℕ → ℕ → Type 0
IsKnownIn knows l x = (c : ℕ) × knows l c x

-- whether the list is the item's home
abbrev pub is_home : List ℕ → ℕ → ℕ → Bool
is_home homes l x = nat_lt x (length homes) && slice_index homes x == l

-- how many items have this list as their home
abbrev pub home_count : List ℕ → ℕ → ℕ
home_count homes l = count_by (λ h. h == l) homes

-- how many of the first n items are guests of this list
abbrev pub guest_count : (ℕ → ℕ → Bool) → ℕ → ℕ → ℕ
guest_count guest n l = count_by (λ x. guest l x) (range_with_len 0 n)

-- Homes of items: the owned chain of an open list has each item whose home it is, once, and nothing else; the owner knows
-- these items to stand there; all of them are guests of the list, for each of whom it owns a slot
pub record AreHomed (s : Store) (knows : ℕ → ℕ → ℕ → Type 0) (guest : ℕ → ℕ → Bool) (homes : List ℕ) : Type 0 where
  pub known : (l x : ℕ) → IsOpen s l → x < length homes → slice_index homes x ≡ l → IsKnownIn knows l x
  pub once : (l x : ℕ) → IsOpen s l → count_by (λ y. y == x) (row s l).placed ≡ (if is_home homes l x then 1 else 0)
  pub counted : (l : ℕ) → IsOpen s l → length (row s l).placed ≡ home_count homes l
  pub guests : (l x : ℕ) → IsOpen s l → x < length homes → slice_index homes x ≡ l → IsTrue (guest l x)
  pub room : (l : ℕ) → IsOpen s l → guest_count guest (length homes) l ≤ 256 * length (row s l).owned

-- nothing happened but that items were placed in open lists
pub record OnlyPlaced (s t : Store) : Type 0 where
  pub rest : t ≡ record s { rows = t.rows }
  pub lists : length t.rows ≡ length s.rows
  pub rows : (l : ℕ) → row t l ≡ record (row s l) { placed = (row t l).placed }
  pub others : (l : ℕ) → (IsOpen s l → ⊥) → row t l ≡ row s l
  pub held : held_of t ≡ held_of s

-- each list is in its phase still, with the same owned chunks, the same items and the same marks
pub record HasSameItems (s t : Store) : Type 0 where
  pub phase : (l : ℕ) → (row t l).phase ≡ (row s l).phase
  pub owned : (l : ℕ) → (row t l).owned ≡ (row s l).owned
  pub placed : (l : ℕ) → (row t l).placed ≡ (row s l).placed
  pub marked : (l : ℕ) → (row t l).marked ≡ (row s l).marked

-- where the home of an item is an open list, it is this one
abbrev pub IsAlone : Store → List ℕ → ℕ → ℕ → Type 0
IsAlone s homes x t = (l : ℕ) → IsOpen s l → slice_index homes x ≡ l → l ≡ t

-- each home is what it was, or the list of the item's leaf
pub record OnlyHome (leaf : ℕ → ℕ) (before after : List ℕ) : Type 0 where
  pub many : length after ≡ length before
  pub each : (x : ℕ) → (slice_index after x ≡ slice_index before x) ⊎ (slice_index after x ≡ leaf x)
