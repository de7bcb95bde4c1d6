-- Lists that are laid out alike.
use Rattle.std.specs.Prelude.{◌≡◌, ◌≢◌, ℕ, ◌+◌, ◌*◌, ◌<◌, ◌≤◌, List, [], ◌∷◌, length, map}
use Rattle.std.specs.List.{range_with_len}
use Rattle.list_machine.specs.declared.views.Grant.{Grant}
use Rattle.list_words.specs.Store.{IsShut, Row, Store, row}
use Rattle.list_words.specs.declared.leaf_lists.Phase.TheVariants.{Open}

-- a list that takes items: so many chunks stand in its claimed chain, and none in its owned one
pub record IsPlot (chunks : ℕ) (r : Row) : Type 0 where
  pub phase : r.phase ≡ Open
  pub claimed : length r.claimed ≡ chunks
  pub owned : r.owned ≡ []
  pub placed : r.placed ≡ []

-- the lists from this one on are such
abbrev pub ArePlots : Store → ℕ → ℕ → Type 0
ArePlots s from chunks = (l : ℕ) → from ≤ l → l < length s.rows → IsPlot chunks (row s l)

-- all lists are such, so many slots are granted in each of them, none was shut, and so many filers and readers are out
pub record IsLaidOut (s : Store) (lists chunks granted seats : ℕ) : Type 0 where
  pub lists_are : length s.rows ≡ lists
  pub plots : ArePlots s 0 chunks
  pub grants : (l : ℕ) → l < lists → (row s l).granted ≡ granted
  pub given : s.given ≡ lists * granted
  pub order : s.order ≡ []
  pub out : s.out ≡ seats ∷ []

-- a list was opened, and has so many free chunks now; no other list is changed
pub record IsOpenedWith (old new : Store) (list chunks : ℕ) : Type 0 where
  pub plot : IsPlot chunks (row new list)
  pub granted : (row new list).granted ≡ 0
  pub others : (l : ℕ) → l ≢ list → row new l ≡ row old l
  pub lists_are : length new.rows ≡ length old.rows
  pub free : new.free + chunks ≡ old.free
  pub rest : new ≡ record old { rows = new.rows; free = new.free }

-- the lists from this one on and below that one were shut, and no other list is changed
pub record AreSwept (old new : Store) (from end : ℕ) : Type 0 where
  pub shut : (l : ℕ) → from ≤ l → l < end → IsShut new l
  pub before : (l : ℕ) → l < from → row new l ≡ row old l
  pub behind : (l : ℕ) → end ≤ l → row new l ≡ row old l
  pub lists_are : length new.rows ≡ length old.rows
  pub name_is : new.name ≡ old.name

-- so many slots may be granted in each of the lists, and so many seats may be out
abbrev pub HasRoomFor : ℕ → ℕ → ℕ → ℕ → Type 0
HasRoomFor lists chunks granted seats = (granted ≤ 256 * chunks) × (lists * granted < 2147483648) × (seats ≤ 65536)

-- leave to claim so many slots in a list
abbrev pub grant_of : ℕ → ℕ → Grant
grant_of places list = record { list = list; n = places }

-- leave to claim so many slots in each of the lists, in their order
abbrev pub even_grants : ℕ → ℕ → List Grant
even_grants lists places = map (grant_of places) (range_with_len 0 lists)
