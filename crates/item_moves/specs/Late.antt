-- Items of a filer that comes back.
use Rattle.std.specs.Prelude.{◌≡◌, ℕ, Bool, ◌&&◌, ◌||◌, not, true, false, List, slice_index, Contains, IsTrue}
use Rattle.list_words.specs.declared.leaf_lists.Answer.{Answer}
use Rattle.list_words.specs.declared.leaf_lists.Filed.{Filed}
use Rattle.list_words.specs.declared.leaf_lists.Filed.TheVariants.{At, Late}

-- whether an item came late
abbrev pub is_late : Filed → Bool
is_late (At chunk slot) = false
is_late (Late seen) = true

-- whether an answer may be one of this store's lists: the list covers the item, and one that came late is a guest of its leaf's
abbrev pub is_fair : (ℕ → ℕ) → (ℕ → ℕ → Bool) → (ℕ → ℕ → Bool) → Answer → Bool
is_fair leaf covers guest a = covers a.list a.item && (not (is_late a.filed) || guest (leaf a.item) a.item)

-- each item that came late has the list of its leaf as its home
unfoldable pub AreBack : (ℕ → ℕ) → List ℕ → List Answer → Type 0
AreBack leaf homes answers = (a : Answer) → Contains answers a → IsTrue (is_late a.filed) → slice_index homes a.item ≡ leaf a.item
