-- Where items belong while some lists are to be swept.
use Rattle.std.specs.Prelude.{◌≡◌, ◌⊎◌, ℕ, ◌<◌, Bool, List, length, slice_index, Contains, IsTrue}
use Rattle.list_words.specs.Store.{Store, IsOpen, IsShut}

-- Each admitted item has a leaf, whose list takes items and is not to be swept. An open list that is its home is that of its
-- leaf, or one to be swept that covers it. A list covers admitted items alone; it is shut, or to be swept, or that of their
-- leaf. No two lists that are to be swept cover the same item, and what they cover are guests of the lists of their leaves
pub record AreAimed (s : Store) (leaf : ℕ → ℕ) (covers guest : ℕ → ℕ → Bool) (homes splits : List ℕ) : Type 0 where
  pub open_leaf : (x : ℕ) → x < length homes → IsOpen s (leaf x)
  pub apart : (x : ℕ) → x < length homes → Contains splits (leaf x) → ⊥
  pub home : (l x : ℕ) → x < length homes → IsOpen s l → slice_index homes x ≡ l → (l ≡ leaf x) ⊎ (Contains splits l × IsTrue (covers l x))
  pub admitted : (l x : ℕ) → IsTrue (covers l x) → x < length homes
  pub here : (l x : ℕ) → IsTrue (covers l x) → IsShut s l ⊎ Contains splits l ⊎ (leaf x ≡ l)
  pub single : (l m x : ℕ) → Contains splits l → Contains splits m → IsTrue (covers l x) → IsTrue (covers m x) → l ≡ m
  pub guests : (l x : ℕ) → Contains splits l → IsTrue (covers l x) → IsTrue (guest (leaf x) x)
