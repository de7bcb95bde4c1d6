-- New lists to which the items of a list are dealt.
use Rattle.std.specs.Prelude.{◌≡◌, ℕ, ◌+◌, ◌-◌, ◌<◌, ◌==◌, if◌then◌else◌, List, [], ◌∷◌, ◌++◌, All, length, replicate, slice_index_or}
use Rattle.leaf_items.specs.Items.{ItemsValue, items_of}

-- the items of a list, dealt: the list; for each of its items, ascending, the new list to which it is dealt, counted from the
-- first new one; and the items of each new list
pub record PartsValue : Type 0 where
  pub list : ℕ
  pub aims : List ℕ
  pub parts : List (List ℕ)

-- of some items those whose aim is this one
abbrev pub picked : ℕ → List ℕ → List ℕ → List ℕ
picked part [] items = []
picked part (aim ∷ aims) [] = []
picked part (aim ∷ aims) (item ∷ items) = if aim == part then item ∷ picked part aims items else picked part aims items

-- to each part the items that have it as their aim
pub record ArePicked (items aims : List ℕ) (parts : List (List ℕ)) : Type 0 where
  pub many : length aims ≡ length items
  pub within : All (λ aim. aim < length parts) aims
  pub each : (part : ℕ) → part < length parts → slice_index_or parts part [] ≡ picked part aims items

-- parts are those of a list as it stands
pub record AreDealt (value : ItemsValue) (parts : PartsValue) : Type 0 where
  pub opened : parts.list < length value.born
  pub picked : ArePicked (items_of value parts.list) parts.aims parts.parts

-- the lists of items, once those of one list have gone to the new lists at which they aim, from this first one on
abbrev pub moved : ℕ → ℕ → List ℕ → List ℕ → List ℕ
moved first list [] aims = []
moved first list (l ∷ leaf) [] = l ∷ leaf
moved first list (l ∷ leaf) (aim ∷ aims) = if l == list then (first + aim) ∷ moved first list leaf aims else l ∷ moved first list leaf (aim ∷ aims)

-- once a list is opened for each part; what was ready for an admission is let go
abbrev pub with_parts : ItemsValue → PartsValue → ItemsValue
with_parts value parts = record {
  leaf = moved (length value.born) parts.list value.leaf parts.aims;
  born = value.born ++ replicate (length parts.parts) (length value.leaf);
  ready = [];
  rooms = value.rooms - length parts.parts;
}
