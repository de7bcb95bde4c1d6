-- The steps of the seats: what each does to the words and to the views.
use Rattle.std.specs.Prelude.{◌≡◌, ℕ, zero, suc, ◌+◌, ◌*◌, ◌-◌, ◌<◌, ◌≤◌, ◌^◌, ◌⊎◌, Bool, true, false, if◌then◌else◌, ◌==◌, ◌&&◌, nat_lt, not, List, [], ◌∷◌, ◌++◌, length, slice_index, slice_set, filter, replicate}
use Rattle.list_machine.specs.Words.{Word}
use Rattle.list_machine.specs.Facts.{IsAt, total, Chain, claimed_chain, owned_chain, list_of, is_shut}
use Rattle.list_machine.specs.Grants.{granted_in, use_grant}
use Rattle.list_machine.specs.declared.views.Grant.{Grant}
use Rattle.list_machine.specs.declared.views.LinkWord.{LinkWord}
use Rattle.list_machine.specs.declared.views.LinkWord.TheVariants.{OfList, OfChunk}
use Rattle.list_machine.specs.declared.views.Fact.{Fact}
use Rattle.list_machine.specs.declared.views.Fact.TheVariants.{Item, Link, Closed, Empty}
use Rattle.list_machine.specs.declared.views.Stage.{Stage}
use Rattle.list_machine.specs.declared.views.Stage.TheVariants.{Open, Swept, Cleared}
use Rattle.list_machine.specs.declared.views.Leaf.{Leaf}
use Rattle.list_machine.specs.declared.views.Book.{Book}
use Rattle.list_machine.specs.declared.views.Owner.{Owner}
use Rattle.list_machine.specs.declared.views.Unfiled.{Unfiled}
use Rattle.list_machine.specs.declared.views.Unfiled.TheVariants.{Nothing, Place}
use Rattle.list_machine.specs.declared.views.Guest.{Guest}

-- Guests

-- a guest with another claim and other facts
abbrev pub guest_with : Guest → Unfiled → List Fact → Guest
guest_with v claim facts = record v { claim = claim; facts = facts }

-- a guest that has claimed in the list, whose claim word was x: it has the place, or knows that the list is shut
abbrev pub after_claim : Guest → ℕ → Word → Guest
after_claim v l x = record v {
  grants = use_grant l v.grants;
  claim = if x.high then Nothing else Place l x.value;
  facts = if x.high then Closed l ∷ v.facts else v.facts;
}

-- the guest knows that the list has the chunk at this rank of its claimed chain
abbrev pub KnowsChunk : Guest → ℕ → ℕ → ℕ → Type 0
KnowsChunk v l r c = (k : ℕ) × (from : LinkWord) × IsAt v.facts k (Link l from r c)

-- the guest knows by itself that it reaches the list
abbrev pub KnowsList : Guest → ℕ → Type 0
KnowsList v l = (0 < granted_in l v.grants) ⊎ (((i : ℕ) × (v.claim ≡ Place l i)) ⊎ ((k : ℕ) × (f : Fact) × IsAt v.facts k f × (list_of f ≡ l)))

-- the guest knows that the link word is one of the list's, and leads to the rank r
abbrev pub KnowsLink : Guest → ℕ → LinkWord → ℕ → Type 0
KnowsLink v l OfList r = KnowsList v l × (r ≡ 0)
KnowsLink v l (OfChunk b) r = (q : ℕ) × (r ≡ suc q) × KnowsChunk v l q b

-- The owner

-- a list that nothing was done with
abbrev pub opening_leaf : Leaf
opening_leaf = record { claimed = []; owned = []; granted = 0; used = 0; stage = Open }

-- the owner of so many lists at the start, when nobody else has a seat
abbrev pub opening : ℕ → Owner
opening lists = record { book = record { leaves = replicate lists opening_leaf; order = []; cleared = 0 }; out = 0 ∷ []; facts = [] }

-- the book with this leaf for the list
abbrev pub book_with : Book → ℕ → Leaf → Book
book_with b l a = record b { leaves = slice_set b.leaves l a }

-- and the owner with it
abbrev pub with_leaf : Owner → ℕ → Leaf → Owner
with_leaf o l a = record o { book = book_with o.book l a }

-- the owner knows one more fact
abbrev pub with_fact : Owner → Fact → Owner
with_fact o f = record o { facts = f ∷ o.facts }

-- a list at another stage
abbrev pub with_stage : Leaf → Stage → Leaf
with_stage a t = record a { stage = t }

-- a list with a chunk more at the end of its claimed chain
abbrev pub with_claimed : Leaf → ℕ → Leaf
with_claimed a c = record a { claimed = a.claimed ++ c ∷ [] }

-- a list with a chunk more at the end of its owned chain
abbrev pub with_owned : Leaf → ℕ → Leaf
with_owned a c = record a { owned = a.owned ++ c ∷ [] }

-- a list with one more used slot in its owned chain
abbrev pub with_one_used : Leaf → Leaf
with_one_used a = record a { used = suc a.used }

-- a list in which so many more places were granted
abbrev pub with_grant : Leaf → ℕ → Leaf
with_grant a n = record a { granted = a.granted + n }

-- a list that has given its chunks back
abbrev pub without_chains : Leaf → Leaf
without_chains a = record a { claimed = []; owned = [] }

-- the list is shut, and stands at the end of the order
abbrev pub book_after_shut : Book → ℕ → Leaf → ℕ → Book
book_after_shut b l a found = record b { leaves = slice_set b.leaves l (with_stage a (Swept (length b.order) found 0)); order = b.order ++ l ∷ [] }

-- the owner has shut the list, whose claim count was found
abbrev pub after_shut : Owner → ℕ → Leaf → ℕ → Owner
after_shut o l a found = record { book = book_after_shut o.book l a found; out = o.out ++ 0 ∷ []; facts = Closed l ∷ o.facts }

-- the place i of a chain is the next that a sweep marks
abbrev pub IsNextMark : Leaf → ℕ → ℕ → Chain → ℕ → Type 0
IsNextMark a found marks claimed_chain i = (i ≡ marks) × (i < found)
IsNextMark a found marks owned_chain i = (found + i ≡ marks) × (i < a.used)

-- a sweep of the list marks the place i of a chain
abbrev pub IsSweptPlace : Leaf → ℕ → Chain → ℕ → Type 0
IsSweptPlace a found claimed_chain i = i < found
IsSweptPlace a found owned_chain i = i < a.used

-- what a mark shows of a slot
abbrev pub mark_shows : ℕ → ℕ → ℕ → Word → Fact
mark_shows l c k x = if nat_lt 0 x.value then Item l c k (x.value - 1) else Empty l c k

-- the clearing of the list before the cleared number has ended
abbrev pub HasEnded : Book → Type 0
HasEnded b = (l p n : ℕ) (a : Leaf) → IsAt b.leaves l a → a.stage ≡ Cleared p n → suc p ≡ b.cleared → (a.claimed ≡ []) × (a.owned ≡ [])

-- nobody is out who reaches the next list to be cleared
abbrev pub IsUnreached : Owner → Type 0
IsUnreached o = (b : ℕ) → b ≤ o.book.cleared → slice_index o.out b ≡ 0

-- whether the fact may be known of the list once its clearing has begun
abbrev pub is_kept : ℕ → Fact → Bool
is_kept l (Item h c k x) = not (h == l)
is_kept l (Link h from r c) = not (h == l)
is_kept l (Closed h) = true
is_kept l (Empty h c k) = not (h == l)

-- the clearing of the list has begun, with one word
abbrev pub book_after_first_clear : Book → ℕ → Leaf → Book
book_after_first_clear b l a = record b { leaves = slice_set b.leaves l (with_stage a (Cleared b.cleared 1)); cleared = suc b.cleared }

-- the owner has begun to clear the list, and knows of it only that it is shut
abbrev pub after_first_clear : Owner → ℕ → Leaf → Owner
after_first_clear o l a = record o { book = book_after_first_clear o.book l a; facts = filter (is_kept l) o.facts }

-- Making seats and taking them back

-- the lists, of which the first has the number l, with these grants
abbrev pub leaves_after_grants : ℕ → List Leaf → List Grant → List Leaf
leaves_after_grants l [] gs = []
leaves_after_grants l (a ∷ es) gs = with_grant a (granted_in l gs) ∷ leaves_after_grants (suc l) es gs

-- whether the list of a fact is open
abbrev pub is_open_at : List Leaf → ℕ → Bool
is_open_at [] l = false
is_open_at (a ∷ es) zero = not (is_shut a.stage)
is_open_at (a ∷ es) (suc l) = is_open_at es l

-- the facts about the lists that are not shut
abbrev pub open_facts : List Leaf → List Fact → List Fact
open_facts leaves facts = filter (λ f. is_open_at leaves (list_of f)) facts

-- the book with these grants
abbrev pub book_after_grants : Book → List Grant → Book
book_after_grants b gs = record b { leaves = leaves_after_grants 0 b.leaves gs }

-- the owner has made a seat with these grants
abbrev pub after_split : Owner → List Grant → Owner
after_split o gs = let shuts = length o.book.order in record o { book = book_after_grants o.book gs; out = slice_set o.out shuts (suc (slice_index o.out shuts)) }

-- the seat that it has made
abbrev pub newcomer : Owner → List Grant → Guest
newcomer o gs = record { out = true; birth = length o.book.order; grants = gs; claim = Nothing; facts = open_facts o.book.leaves o.facts }

-- grants that the owner may give: in open lists, for places that have their chunks
pub record IsGrantable (leaves : List Leaf) (gs : List Grant) : Type 0 where
  pub lists : (l : ℕ) → 0 < granted_in l gs → (a : Leaf) × IsAt leaves l a × (a.stage ≡ Open) × (a.granted + granted_in l gs ≤ 256 * length a.claimed)
  pub few : total (λ (a : Leaf). a.granted) (leaves_after_grants 0 leaves gs) < 2 ^ 31

-- a seat that was taken back
abbrev pub nobody : Guest
nobody = record { out = false; birth = 0; grants = []; claim = Nothing; facts = [] }

-- the owner has taken the seat back
abbrev pub after_join : Owner → Guest → Owner
after_join o v = record o { out = slice_set o.out v.birth (slice_index o.out v.birth - 1); facts = v.facts ++ o.facts }
