-- The moves: what a seat does at once makes of the state, as a function, and when the seat may do it.
-- A move is one step of the machine. Only the last clear of a list is two, since its chunks are free with it.
use Rattle.std.specs.Prelude.{◌≡◌, ℕ, zero, suc, ◌+◌, ◌-◌, ◌*◌, ◌/◌, ◌%◌, ◌^◌, ◌<◌, ◌≤◌, Bool, true, false, not, ◌&&◌, ◌||◌, ◌==◌, nat_lt, List, [], ◌∷◌, ◌++◌, length, take, slice_index, slice_index_or, slice_set, if◌then◌else◌}
use Rattle.std.specs.List.{list_all}
use Rattle.list_machine.specs.Words.{Word, blank, one_more, raised, holding, link_to}
use Rattle.list_machine.specs.State.{link_at, put_claim, put_slot, put_link}
use Rattle.list_machine.specs.Grants.{granted_in}
use Rattle.list_machine.specs.Facts.{IsAt}
use Rattle.list_machine.specs.Rule.{IsFree}
use Rattle.list_machine.specs.Machine.{State, state}
use Rattle.list_machine.specs.Steps.{guest_with, after_claim, KnowsChunk, KnowsLink, with_leaf, with_fact, with_stage, with_claimed, with_owned, with_one_used, without_chains, after_shut, mark_shows, after_first_clear, after_split, newcomer, IsGrantable, nobody, after_join, opening_leaf}
use Rattle.list_machine.specs.declared.views.Grant.{Grant}
use Rattle.list_machine.specs.declared.views.LinkWord.{LinkWord}
use Rattle.list_machine.specs.declared.views.LinkWord.TheVariants.{OfList, OfChunk}
use Rattle.list_machine.specs.declared.views.Fact.TheVariants.{Item, Link, Empty}
use Rattle.list_machine.specs.declared.views.Stage.{Stage}
use Rattle.list_machine.specs.declared.views.Stage.TheVariants.{Open, Swept, Cleared}
use Rattle.list_machine.specs.declared.views.Leaf.{Leaf}
use Rattle.list_machine.specs.declared.views.Unfiled.TheVariants.{Nothing, Place}
use Rattle.list_machine.specs.declared.views.Guest.{Guest}

-- the guest of a number, and the list of a number
abbrev pub guest_in : State → ℕ → Guest
guest_in s j = slice_index_or s.guests j nobody

abbrev pub leaf_in : State → ℕ → Leaf
leaf_in s l = slice_index_or s.owner.book.leaves l opening_leaf

-- the state with this guest for the number j
abbrev pub with_guest : State → ℕ → Guest → State
with_guest s j v = state s.words s.owner (slice_set s.guests j v)

-- ---- guests

-- the guest claims the next place of the list
abbrev pub place_claimed : State → ℕ → ℕ → State
place_claimed s j l =
    state (put_claim s.words l (one_more (s.words.claim l))) s.owner
    (slice_set s.guests j (after_claim (guest_in s j) l (s.words.claim l)))

-- whether a slot has no item and no mark
abbrev pub is_blank : Word → Bool
is_blank w = w.value == 0 && not w.high

-- the guest files the item into the slot of its claim where that is blank, and else finds that it was marked
abbrev pub filed_if : Bool → State → ℕ → ℕ → ℕ → ℕ → ℕ → State
filed_if true s j l c k x =
    state (put_slot s.words c k (holding x)) s.owner
    (slice_set s.guests j (guest_with (guest_in s j) Nothing (Item l c k x ∷ (guest_in s j).facts)))
filed_if false s j l c k x = with_guest s j (guest_with (guest_in s j) Nothing (Empty l c k ∷ (guest_in s j).facts))

abbrev pub item_filed : State → ℕ → ℕ → ℕ → ℕ → ℕ → State
item_filed s j l c k x = filed_if (is_blank (s.words.slot c k)) s j l c k x

-- the guest reads a link, which leads to the chunk c of rank r
abbrev pub link_read : State → ℕ → ℕ → LinkWord → ℕ → ℕ → State
link_read s j l from r c = with_guest s j (guest_with (guest_in s j) (guest_in s j).claim (Link l from r c ∷ (guest_in s j).facts))

-- ---- the owner

-- the state with this leaf for the list l
abbrev pub with_leaf_in : State → ℕ → Leaf → State
with_leaf_in s l a = state s.words (with_leaf s.owner l a) s.guests

-- the link word behind so many chunks of a chain
abbrev pub link_behind : List ℕ → ℕ → LinkWord
link_behind chain zero = OfList
link_behind chain (suc r) = OfChunk (slice_index chain r)

-- the link word behind all of them
abbrev pub last_link : List ℕ → LinkWord
last_link chain = link_behind chain (length chain)

-- the chunk is linked behind the claimed chain
abbrev pub chunk_linked : State → ℕ → ℕ → State
chunk_linked s l c =
    let a = leaf_in s l in
    let from = last_link a.claimed in
    let r = length a.claimed in
    state (put_link s.words l from (link_to r c)) (with_fact (with_leaf s.owner l (with_claimed a c)) (Link l from r c)) s.guests

-- the chunk joins the owned chain
abbrev pub chunk_adopted : State → ℕ → ℕ → State
chunk_adopted s l c = with_leaf_in s l (with_owned (leaf_in s l) c)

-- the chunk of a chain that has the place i
abbrev pub chunk_at : List ℕ → ℕ → ℕ
chunk_at chain i = slice_index chain (i / 256)

-- the item is placed in the next slot of the owned chain
abbrev pub item_placed : State → ℕ → ℕ → State
item_placed s l x =
    let a = leaf_in s l in
    let c = chunk_at a.owned a.used in
    let k = a.used % 256 in
    state (put_slot s.words c k (holding x)) (with_fact (with_leaf s.owner l (with_one_used a)) (Item l c k x)) s.guests

-- the list is shut
abbrev pub list_shut : State → ℕ → State
list_shut s l = state (put_claim s.words l (raised (s.words.claim l))) (after_shut s.owner l (leaf_in s l) (s.words.claim l).value) s.guests

-- the chunk and the slot that a sweep with m marks marks next
abbrev pub next_mark : Leaf → ℕ → ℕ → ℕ × ℕ
next_mark a found m =
    if nat_lt m found then (chunk_at a.claimed m, m % 256)
    else (chunk_at a.owned (m - found), (m - found) % 256)

-- this slot is marked
abbrev pub marked_at : State → ℕ → ℕ → ℕ → ℕ → ℕ × ℕ → State
marked_at s l p f m (c, k) =
    state (put_slot s.words c k (raised (s.words.slot c k)))
    (with_fact (with_leaf s.owner l (with_stage (leaf_in s l) (Swept p f (suc m)))) (mark_shows l c k (s.words.slot c k))) s.guests

-- in a list that is shut and not cleared, the next one is
abbrev pub marked_by : State → ℕ → Stage → State
marked_by s l Open = s
marked_by s l (Swept p f m) = marked_at s l p f m (next_mark (leaf_in s l) f m)
marked_by s l (Cleared p n) = s

abbrev pub slot_marked : State → ℕ → State
slot_marked s l = marked_by s l (leaf_in s l).stage

-- a seat with these grants is made, and a seat is taken back
abbrev pub seat_made : State → List Grant → State
seat_made s gs = state s.words (after_split s.owner gs) (s.guests ++ newcomer s.owner gs ∷ [])

abbrev pub seat_joined : State → ℕ → State
seat_joined s j = state s.words (after_join s.owner (guest_in s j)) (slice_set s.guests j nobody)

-- ---- clearing

-- how many chunks a list has in both chains
abbrev pub chunk_count : Leaf → ℕ
chunk_count a = length (a.claimed ++ a.owned)

-- where the last word of a list is cleared, its chunks are free
abbrev pub ended_if : Bool → State → ℕ → State
ended_if false s l = s
ended_if true s l = with_leaf_in s l (without_chains (leaf_in s l))

-- the first word of the list is cleared: its own link
abbrev pub first_cleared : State → ℕ → State
first_cleared s l =
    ended_if (chunk_count (leaf_in s l) == 0)
    (state (put_link s.words l OfList 0) (after_first_clear s.owner l (leaf_in s l)) s.guests) l

-- after n words the next one is: for each chunk its 256 slots, and then its link
abbrev pub more_cleared : State → ℕ → ℕ → ℕ → State
more_cleared s l p n =
    let a = leaf_in s l in
    let c = slice_index (a.claimed ++ a.owned) ((n - 1) / 257) in
    let k = (n - 1) % 257 in
    ended_if (n == 257 * chunk_count a)
    (state (if k == 256 then put_link s.words l (OfChunk c) 0 else put_slot s.words c k blank)
    (with_leaf s.owner l (with_stage a (Cleared p (suc n)))) s.guests) l

abbrev pub cleared_by : State → ℕ → Stage → State
cleared_by s l Open = s
cleared_by s l (Swept p f m) = first_cleared s l
cleared_by s l (Cleared p n) = more_cleared s l p n

-- the next word of the list is cleared
abbrev pub cleared_in : State → ℕ → State
cleared_in s l = cleared_by s l (leaf_in s l).stage

-- whether a list at this stage, with so many chunks, is being cleared
abbrev pub is_clearing_at : Stage → ℕ → Bool
is_clearing_at Open chunks = false
is_clearing_at (Swept p f m) chunks = false
is_clearing_at (Cleared p n) chunks = nat_lt 0 chunks

-- the list whose clearing began last
abbrev pub last_begun : State → ℕ
last_begun s = slice_index s.owner.book.order (s.owner.book.cleared - 1)

-- whether it has words left
abbrev pub is_clearing : State → Bool
is_clearing s = nat_lt 0 s.owner.book.cleared && is_clearing_at (leaf_in s (last_begun s)).stage (chunk_count (leaf_in s (last_begun s)))

-- whether there is a list to be cleared next, which nobody reaches who is out
abbrev pub may_begin : State → Bool
may_begin s = nat_lt s.owner.book.cleared (length s.owner.book.order) && list_all (λ n. n == 0) (take (suc s.owner.book.cleared) s.owner.out)

-- whether the owner may clear a word
abbrev pub may_clear : State → Bool
may_clear s = is_clearing s || may_begin s

-- the list of the next word: one that has words left comes before the next one
abbrev pub next_to_clear : State → ℕ
next_to_clear s = if is_clearing s then last_begun s else slice_index s.owner.book.order s.owner.book.cleared

abbrev pub word_cleared : State → State
word_cleared s = cleared_in s (next_to_clear s)

-- no clearing has cleared all words and left the chunks in their chains
abbrev pub HaveWordsLeft : List Leaf → Type 0
HaveWordsLeft leaves = (l p n : ℕ) (a : Leaf) → IsAt leaves l a → a.stage ≡ Cleared p n → 0 < chunk_count a → (1 ≤ n) × (n ≤ 257 * chunk_count a)

-- ---- all moves

-- one move of one seat, which may make it
pub data Move (s : State) : State → Type 0 where
  -- a filer that has no unfiled place claims one, by a grant
  claiming : (j l : ℕ) (v : Guest) → IsAt s.guests j v → v.claim ≡ Nothing → 0 < granted_in l v.grants → Move s (place_claimed s j l)
  -- it files into the place, whose chunk it knows
  filing : (j l r c k x : ℕ) (v : Guest) → IsAt s.guests j v → v.claim ≡ Place l (256 * r + k) → k < 256 → KnowsChunk v l r c
      → Move s (item_filed s j l c k x)
  -- a guest reads a link that it knows to be of the list
  reading : (j l r c : ℕ) (from : LinkWord) (v : Guest) → IsAt s.guests j v → v.out ≡ true → KnowsLink v l from r → link_at s.words l from ≡ link_to r c
      → Move s (link_read s j l from r c)
  -- the owner places an item where a chunk has room, and gives free chunks to open lists
  placing : (l x : ℕ) (a : Leaf) → IsAt s.owner.book.leaves l a → a.stage ≡ Open → a.used < 256 * length a.owned → Move s (item_placed s l x)
  adopting : (l c : ℕ) (a : Leaf) → IsAt s.owner.book.leaves l a → a.stage ≡ Open → IsFree s.owner.book.leaves c → c + 1 < 2 ^ 32
      → Move s (chunk_adopted s l c)
  linking : (l c : ℕ) (a : Leaf) → IsAt s.owner.book.leaves l a → a.stage ≡ Open → IsFree s.owner.book.leaves c → c + 1 < 2 ^ 32
      → Move s (chunk_linked s l c)
  -- it shuts a list and marks its slots
  shutting : (l : ℕ) (a : Leaf) → IsAt s.owner.book.leaves l a → a.stage ≡ Open → Move s (list_shut s l)
  marking : (l p f m : ℕ) (a : Leaf) → IsAt s.owner.book.leaves l a → a.stage ≡ Swept p f m → m < f + a.used → Move s (slot_marked s l)
  -- it clears a word
  clearing : may_clear s ≡ true → Move s (word_cleared s)
  -- it makes a seat and takes one back
  splitting : (gs : List Grant) → IsGrantable s.owner.book.leaves gs → Move s (seat_made s gs)
  joining : (j : ℕ) (v : Guest) → IsAt s.guests j v → v.out ≡ true → Move s (seat_joined s j)
