-- Lists over vectors, as plain data.
use Rattle.std.specs.Prelude.{◌≡◌, ℕ, suc, ◌+◌, ◌*◌, ◌<◌, Bool, false, if◌then◌else◌, List, [], ◌∷◌, ◌++◌, length, map, slice_get, slice_set, slice_index, slice_index_or, Option, Some, None, All, replicate}
use Rattle.list_machine.specs.Words.{Word, blank, holding, raised}
use Rattle.list_words.specs.Store.{Seat, Store, is_shut}
use Rattle.list_words.specs.declared.plain_filer.PlainReader.{PlainReader}
use Rattle.list_words.specs.Filing.{Filing}
use Rattle.list_words.specs.PlainRows.{PlainList, no_list, row_of, emptied_list}
use Rattle.list_words.specs.declared.leaf_lists.Answer.{Answer}
use Rattle.list_words.specs.declared.leaf_lists.Filed.{Filed}
use Rattle.list_words.specs.declared.leaf_lists.Filed.TheVariants.{At, Late}
use Rattle.list_words.specs.declared.leaf_lists.Phase.TheVariants.{Open, Shut}

-- the lists, how many chunks there are and how many are free, the shut lists in order and how many of them are
-- cleared, who is out by birth, room for the next filer, and how many slots were granted in all
pub record Plain : Type 0 where
  pub lists : List PlainList
  pub chunks : ℕ
  pub free : ℕ
  pub order : List ℕ
  pub cleared : ℕ
  pub out : List ℕ
  pub grants_room : ℕ
  pub items_room : ℕ
  pub given : ℕ

-- the list of a number, which past the lists was never opened
abbrev pub list_in : List PlainList → ℕ → PlainList
list_in lists l = slice_index_or lists l no_list

-- the same as each kind of lists shows it; every such lists have one name
abbrev pub store_of : Plain → Store
store_of p = record { name = []; chunks = p.chunks; rows = map row_of p.lists; free = p.free; order = p.order; cleared = p.cleared; out = p.out; grants_room = p.grants_room; items_room = p.items_room; given = p.given }

-- lists that were never opened, and free chunks
abbrev pub fresh_plain : ℕ → ℕ → Plain
fresh_plain lists chunks = record { lists = replicate lists no_list; chunks = chunks; free = chunks; order = []; cleared = 0; out = 0 ∷ []; grants_room = 0; items_room = 0; given = 0 }

-- the chunks of both chains
abbrev pub all_chunks : PlainList → List ℕ
all_chunks p = p.claimed ++ p.owned

-- the items filed in the claimed slots of each list stay
abbrev pub SameFiled : Plain → Plain → Type 0
SameFiled p q = (l : ℕ) → (list_in q.lists l).filed ≡ (list_in p.lists l).filed

-- the lists with this one in the place of the list l
abbrev pub with_list : Plain → ℕ → PlainList → Plain
with_list p l b = record p { lists = slice_set p.lists l b }

-- ---- slots

-- one of the two chains of a list
abbrev pub chain : Bool → PlainList → List ℕ
chain owned p = if owned then p.owned else p.claimed

-- the items in the slots of that chain, in order
abbrev pub chain_items : Bool → PlainList → List ℕ
chain_items owned p = if owned then p.placed else p.filed

-- the chunk of rank r in that chain of the list l
abbrev pub chunk_at : List PlainList → Bool → ℕ → ℕ → Option ℕ
chunk_at lists owned l r = slice_get (chain owned (list_in lists l)) r

-- the word that the steps left in a slot with this item, or without one
abbrev pub word_with : Bool → Option ℕ → Word
word_with shut None = blank
word_with shut (Some item) = if shut then raised (holding item) else holding item

-- the word of a slot of a chunk of a chain, by the chunk's place in it
abbrev pub slot_word : PlainList → Bool → ℕ → ℕ → Word
slot_word p owned r i = word_with (is_shut p.phase) (slice_get (chain_items owned p) (256 * r + i))

-- ---- items that stand

-- the item stands in the slot of the chunk, which is one of this chain
pub record StandsAt (owned : Bool) (p : PlainList) (item c i : ℕ) : Type 0 where
  pub rank : ℕ
  pub chunk : slice_get (chain owned p) rank ≡ Some c
  pub within : i < 256
  pub stands : slice_get (chain_items owned p) (256 * rank + i) ≡ Some item

-- the item stands in a slot of the chunk, which is one of the list's
abbrev pub StandsIn : PlainList → ℕ → ℕ → Type 0
StandsIn p c item = (owned : Bool) × (i : ℕ) × StandsAt owned p item c i

-- the owner knows each item of a list, as it was filed or placed there
abbrev pub Knows : Plain → ℕ → ℕ → ℕ → Type 0
Knows p l c x = StandsIn (list_in p.lists l) c x

-- and of each slot with an item, that it has this one. No slot was claimed and left empty
abbrev pub HasSlot : PlainList → ℕ → ℕ → Option ℕ → Type 0
HasSlot q c k None = ⊥
HasSlot q c k (Some x) = (owned : Bool) × StandsAt owned q x c k

abbrev pub Shown : Plain → ℕ → ℕ → ℕ → Option ℕ → Type 0
Shown p l c k y = HasSlot (list_in p.lists l) c k y

-- each item stays in its slot, and a list that was shut stays shut
pub record StayFiled (before after : List PlainList) : Type 0 where
  pub stands : (l : ℕ) (owned : Bool) (x c i : ℕ) → StandsAt owned (list_in before l) x c i → StandsAt owned (list_in after l) x c i
  pub shut : (l : ℕ) → (list_in before l).phase ≡ Shut → (list_in after l).phase ≡ Shut

-- how many places were claimed in a list: each has its item
abbrev pub claims_in : Plain → ℕ → ℕ
claims_in p l = length (list_in p.lists l).filed

-- ---- readers

-- who a reader is
abbrev pub seat_of : PlainReader → Seat
seat_of r = record { name = []; birth = r.birth }

-- the item stood in a slot of the chunk, in a list that was open, when the reader was made
abbrev pub Saw : PlainReader → ℕ → ℕ → Type 0
Saw r c x = (l : ℕ) × ((list_in r.lists.value.items l).phase ≡ Open) × StandsIn (list_in r.lists.value.items l) c x

-- ---- answers that are borne out

-- the answer to a filing of the item is borne out: the item stands where it says, or the list is shut
abbrev pub Bears : PlainList → ℕ → Filed → Type 0
Bears p item (At c i) = StandsAt false p item c i
Bears p item (Late seen) = p.phase ≡ Shut

-- somebody with the filer's birth is out, and each answer is borne out
pub record BearsOut (p : Plain) (f : Filing) : Type 0 where
  pub counted : 0 < slice_index p.out f.birth
  pub answers : All (λ (a : Answer). Bears (list_in p.lists a.list) a.item a.filed) f.answers

-- ---- sums over lists

-- how many chunks a list has in both chains
abbrev pub chunk_count : PlainList → ℕ
chunk_count p = length p.claimed + length p.owned

-- how many of them are held, since the list is shut; a cleared list has none
abbrev pub held_chunks : PlainList → ℕ
held_chunks p = if is_shut p.phase then chunk_count p else 0

-- 1 for a shut list
abbrev pub shut_count : PlainList → ℕ
shut_count p = if is_shut p.phase then 1 else 0

-- the first shut list that is not cleared
abbrev pub next_list : Plain → ℕ
next_list p = slice_index p.order p.cleared

-- that list is cleared: it has no chunks and no items, and its chunks are free
abbrev pub next_cleared : Plain → Plain
next_cleared p = record p { lists = slice_set p.lists (next_list p) (emptied_list (list_in p.lists (next_list p))); free = p.free + chunk_count (list_in p.lists (next_list p)); cleared = suc p.cleared }
