-- The rule that the words of lists and the views of seats keep.
use Rattle.std.specs.Prelude.{◌≡◌, ◌≢◌, ℕ, suc, ◌+◌, ◌*◌, ◌<◌, ◌≤◌, ◌^◌, ◌⊎◌, true, false, if◌then◌else◌, ◌==◌, ◌&&◌, List, [], ◌++◌, length, slice_index, Some}
use Rattle.list_machine.specs.Words.{Word, blank, link_to}
use Rattle.list_machine.specs.State.{Words, link_in}
use Rattle.list_machine.specs.Grants.{granted_in}
use Rattle.list_machine.specs.Facts.{IsAt, total, HasChunk, chain_of, Chain, LeadsTo, list_of, Holds, Within, is_shut, place_of, Stands, Reached}
use Rattle.list_machine.specs.declared.views.LinkWord.{LinkWord}
use Rattle.list_machine.specs.declared.views.Fact.{Fact}
use Rattle.list_machine.specs.declared.views.Fact.TheVariants.{Closed}
use Rattle.list_machine.specs.declared.views.Stage.{Stage}
use Rattle.list_machine.specs.declared.views.Stage.TheVariants.{Open, Swept, Cleared}
use Rattle.list_machine.specs.declared.views.Leaf.{Leaf}
use Rattle.list_machine.specs.declared.views.Book.{Book}
use Rattle.list_machine.specs.declared.views.Owner.{Owner}
use Rattle.list_machine.specs.declared.views.Unfiled.TheVariants.{Nothing, Place}
use Rattle.list_machine.specs.declared.views.Guest.{Guest}

-- A list that is not cleared. Its records read its claim word, its first link, and the links and slots of chunks.
pub record IsStanding (claim : Word) (first : ℕ) (next : ℕ → ℕ) (slot : ℕ → ℕ → Word) (a : Leaf) : Type 0 where
  -- an item of the claimed chain stands at a place that was claimed
  pub filled : (r c k : ℕ) → IsAt a.claimed r c → k < 256 → (slot c k).value ≢ 0 → 256 * r + k < claim.value
  -- the owned chain is used from its start on
  pub unused : (r c k : ℕ) → IsAt a.owned r c → k < 256 → a.used ≤ 256 * r + k → slot c k ≡ blank
  pub used : a.used ≤ 256 * length a.owned
  -- each place that was granted has its chunk
  pub room : a.granted ≤ 256 * length a.claimed
  -- each chunk of the claimed chain is linked, with its rank, and the last link is 0
  pub linked : (from : LinkWord) (r c : ℕ) → LeadsTo a.claimed from r → IsAt a.claimed r c → link_in first next from ≡ link_to r c
  pub ended : (from : LinkWord) → LeadsTo a.claimed from (length a.claimed) → link_in first next from ≡ 0
  -- a link has room for the number of its chunk
  pub small : (c : ℕ) → HasChunk a c → c + 1 < 2 ^ 32

-- no slot is marked
abbrev pub IsUnmarked : (ℕ → ℕ → Word) → Leaf → Type 0
IsUnmarked slot a = (c k : ℕ) → HasChunk a c → k < 256 → (slot c k).high ≡ false

-- a shut list with this many marks, made of the claimed slots below the count that the shut found, and then of the used owned slots
pub record IsSwept (claim : Word) (slot : ℕ → ℕ → Word) (a : Leaf) (found marks : ℕ) : Type 0 where
  pub marked : (r c k : ℕ) → IsAt a.claimed r c → k < 256 → 256 * r + k < found → 256 * r + k < marks → (slot c k).high ≡ true
  pub marked_owned : (r c k : ℕ) → IsAt a.owned r c → k < 256 → found + (256 * r + k) < marks → (slot c k).high ≡ true
  pub unmarked : (r c k : ℕ) → IsAt a.claimed r c → k < 256 → marks ≤ 256 * r + k → (slot c k).high ≡ false
  pub unmarked_owned : (r c k : ℕ) → IsAt a.owned r c → k < 256 → marks ≤ found + (256 * r + k) → (slot c k).high ≡ false
  -- a place that was not claimed before the shut has no item and no mark
  pub past : (r c k : ℕ) → IsAt a.claimed r c → k < 256 → found ≤ 256 * r + k → slot c k ≡ blank
  pub within_claims : found ≤ claim.value
  pub within_slots : marks ≤ found + a.used

-- a list of which this many words are cleared: its own link, and then for each chunk its 256 slots and its link
pub record IsWiped (first : ℕ) (next : ℕ → ℕ) (slot : ℕ → ℕ → Word) (a : Leaf) (words : ℕ) : Type 0 where
  pub wiped_first : 0 < words → first ≡ 0
  pub wiped_slots : (r c k : ℕ) → IsAt (a.claimed ++ a.owned) r c → k < 256 → 257 * r + k + 1 < words → slot c k ≡ blank
  pub wiped_nexts : (r c : ℕ) → IsAt (a.claimed ++ a.owned) r c → 257 * r + 257 < words → next c ≡ 0

-- what holds of a list at this stage
abbrev pub HoldsAt : Word → ℕ → (ℕ → ℕ) → (ℕ → ℕ → Word) → Leaf → Stage → Type 0
HoldsAt claim first next slot a Open = IsStanding claim first next slot a × IsUnmarked slot a
HoldsAt claim first next slot a (Swept p f m) = IsStanding claim first next slot a × IsSwept claim slot a f m
HoldsAt claim first next slot a (Cleared p n) = IsWiped first next slot a n

-- one list
pub record IsList (claim : Word) (first : ℕ) (next : ℕ → ℕ) (slot : ℕ → ℕ → Word) (a : Leaf) : Type 0 where
  -- no more was claimed than was granted
  pub counted : claim.value ≤ a.granted
  -- the top bit of a claim word says that the list is shut
  pub shown : claim.high ≡ is_shut a.stage
  pub now : HoldsAt claim first next slot a a.stage

-- a chunk that is in no chain
abbrev pub IsFree : List Leaf → ℕ → Type 0
IsFree leaves c = (l : ℕ) (a : Leaf) → IsAt leaves l a → HasChunk a c → ⊥

-- all lists and the free chunks
pub record AreLists (w : Words) (leaves : List Leaf) : Type 0 where
  pub lists : (l : ℕ) (a : Leaf) → IsAt leaves l a → IsList (w.claim l) (w.first l) w.next w.slot a
  pub free : (c : ℕ) → IsFree leaves c → (w.next c ≡ 0) × ((k : ℕ) → k < 256 → w.slot c k ≡ blank)
  -- a chunk stands once in all chains
  pub once : (l h : ℕ) (a e : Leaf) (x y : Chain) (r q c : ℕ) → IsAt leaves l a → IsAt leaves h e → IsAt (chain_of a x) r c → IsAt (chain_of e y) q c → (l ≡ h) × (x ≡ y) × (r ≡ q)
  pub few : total (λ (a : Leaf). a.granted) leaves < 2 ^ 31

-- the clearing of a list has begun where its place is below the cleared number
abbrev pub IsBegun : ℕ → Stage → Type 0
IsBegun cleared Open = Unit {0}
IsBegun cleared (Swept p f m) = cleared ≤ p
IsBegun cleared (Cleared p n) = p < cleared

-- the shut lists in their order, of which the first are cleared
pub record AreOrdered (leaves : List Leaf) (order : List ℕ) (cleared : ℕ) : Type 0 where
  pub places : (l p : ℕ) (a : Leaf) → IsAt leaves l a → place_of a.stage ≡ Some p → IsAt order p l
  pub listed : (p l : ℕ) → IsAt order p l → (a : Leaf) × IsAt leaves l a × (place_of a.stage ≡ Some p)
  pub begun : (l : ℕ) (a : Leaf) → IsAt leaves l a → IsBegun cleared a.stage
  -- lists are cleared one after the other, and one whose clearing has ended has no chains
  pub ended : (l p n : ℕ) (a : Leaf) → IsAt leaves l a → a.stage ≡ Cleared p n → suc p < cleared → (a.claimed ≡ []) × (a.owned ≡ [])
  pub within_order : cleared ≤ length order

-- The part of the rule that knows no seats.
pub record Shape (w : Words) (b : Book) : Type 0 where
  pub lists : AreLists w b.leaves
  pub order : AreOrdered b.leaves b.order b.cleared

-- a list that has this number, with a fact about it
abbrev pub OfLeaf : List Leaf → ℕ → (Leaf → Type 0) → Type 0
OfLeaf leaves l P = (a : Leaf) × IsAt leaves l a × P a

-- a fact of a seat with this birth: it is true, and about a word of a list that the seat reaches
pub record IsStated (w : Words) (birth : ℕ) (f : Fact) (a : Leaf) : Type 0 where
  pub reached : Reached birth a.stage
  pub within : Within a f
  pub holds : Holds w f

-- a place that a seat with this birth has claimed and not filed into
pub record IsClaimed (claim : Word) (slot : ℕ → ℕ → Word) (birth index : ℕ) (a : Leaf) : Type 0 where
  pub reached : Reached birth a.stage
  pub below : index < claim.value
  pub vacant : (r c k : ℕ) → IsAt a.claimed r c → k < 256 → 256 * r + k ≡ index → (slot c k).value ≡ 0
  pub before : (p f m : ℕ) → a.stage ≡ Swept p f m → index < f

-- what a filer or a reader has
pub record IsSeat (w : Words) (leaves : List Leaf) (v : Guest) : Type 0 where
  pub facts : (k : ℕ) (f : Fact) → IsAt v.facts k f → OfLeaf leaves (list_of f) (IsStated w v.birth f)
  pub grants : (l : ℕ) → 0 < granted_in l v.grants → OfLeaf leaves l (λ a. Reached v.birth a.stage)
  pub claim : (l i : ℕ) → v.claim ≡ Place l i → OfLeaf leaves l (IsClaimed (w.claim l) w.slot v.birth i)
  -- a seat that was joined has nothing
  pub spent : v.out ≡ false → (v.facts ≡ []) × (v.claim ≡ Nothing) × ((l : ℕ) → granted_in l v.grants ≡ 0)

-- a fact of the owner: of a list whose clearing has begun it knows only that it is shut
abbrev pub IsOwned : Words → Fact → Leaf → Type 0
IsOwned w f a = Holds w f × ((Stands a.stage × Within a f) ⊎ (f ≡ Closed (list_of f)))

-- what all seats have
pub record AreKnown (w : Words) (leaves : List Leaf) (facts : List Fact) (guests : List Guest) : Type 0 where
  pub seats : (j : ℕ) (v : Guest) → IsAt guests j v → IsSeat w leaves v
  pub owner : (k : ℕ) (f : Fact) → IsAt facts k f → OfLeaf leaves (list_of f) (IsOwned w f)
  -- no place is claimed by two
  pub apart : (j h l i : ℕ) (v u : Guest) → IsAt guests j v → IsAt guests h u → v.claim ≡ Place l i → u.claim ≡ Place l i → j ≡ h
  -- what was claimed and what may be claimed was granted
  pub granted : (l : ℕ) (a : Leaf) → IsAt leaves l a → (w.claim l).value + total (λ (v : Guest). granted_in l v.grants) guests ≤ a.granted

-- 1 for a seat that is out with this birth
abbrev pub counts : ℕ → Guest → ℕ
counts b v = if v.out && v.birth == b then 1 else 0

-- the owner's count of the seats that are out, by their birth
pub record AreCounted (shuts cleared : ℕ) (out : List ℕ) (guests : List Guest) : Type 0 where
  pub births : (b : ℕ) → total (counts b) guests ≡ slice_index out b
  pub numbers : length out ≡ suc shuts
  pub born : (j : ℕ) (v : Guest) → IsAt guests j v → v.out ≡ true → (cleared ≤ v.birth) × (v.birth ≤ shuts)

-- The rule.
pub record Sound (w : Words) (o : Owner) (guests : List Guest) : Type 0 where
  pub shape : Shape w o.book
  pub known : AreKnown w o.book.leaves o.facts guests
  pub counted : AreCounted (length o.book.order) o.book.cleared o.out guests
