-- The machine: which steps the seats may make.
use Rattle.std.specs.Prelude.{◌≡◌, ◌≢◌, ℕ, suc, ◌+◌, ◌*◌, ◌<◌, ◌^◌, true, List, ◌∷◌, ◌++◌, [], length, slice_set}
use Rattle.list_machine.specs.Words.{blank, one_more, raised, holding, link_to}
use Rattle.list_machine.specs.State.{Words, link_at, put_claim, put_slot, put_link}
use Rattle.list_machine.specs.Grants.{granted_in}
use Rattle.list_machine.specs.Facts.{IsAt, Chain, chain_of, LeadsTo}
use Rattle.list_machine.specs.Rule.{IsFree, Sound}
use Rattle.list_machine.specs.Steps.{guest_with, after_claim, KnowsChunk, KnowsLink, with_leaf, with_fact, with_stage, with_claimed, with_owned, with_one_used, without_chains, after_shut, IsNextMark, mark_shows, HasEnded, IsUnreached, after_first_clear, after_split, newcomer, IsGrantable, nobody, after_join}
use Rattle.list_machine.specs.declared.views.Grant.{Grant}
use Rattle.list_machine.specs.declared.views.LinkWord.{LinkWord}
use Rattle.list_machine.specs.declared.views.LinkWord.TheVariants.{OfList, OfChunk}
use Rattle.list_machine.specs.declared.views.Fact.TheVariants.{Item, Link, Empty}
use Rattle.list_machine.specs.declared.views.Stage.TheVariants.{Open, Swept, Cleared}
use Rattle.list_machine.specs.declared.views.Leaf.{Leaf}
use Rattle.list_machine.specs.declared.views.Owner.{Owner}
use Rattle.list_machine.specs.declared.views.Unfiled.TheVariants.{Nothing, Place}
use Rattle.list_machine.specs.declared.views.Guest.{Guest}

-- all words and all views at one moment
pub record State : Type 0 where
  pub words : Words
  pub owner : Owner
  pub guests : List Guest

-- the state of these parts
abbrev pub state : Words → Owner → List Guest → State
state w o guests = record { words = w; owner = o; guests = guests }

-- the rule holds in the state
abbrev pub IsSound : State → Type 0
IsSound s = Sound s.words s.owner s.guests

-- One step of one seat. What a seat may do hangs on its own view, and on the word that the step finds.
pub data Step (s : State) : State → Type 0 where
  -- a filer uses a grant: the count of the list's claims rises
  claims : (j l : ℕ) (v : Guest) → IsAt s.guests j v → v.claim ≡ Nothing → 0 < granted_in l v.grants
      → Step s (state (put_claim s.words l (one_more (s.words.claim l))) s.owner (slice_set s.guests j (after_claim v l (s.words.claim l))))
  -- a filer files an item at its claim, where the slot is 0
  files : (j l r c k x : ℕ) (v : Guest) → IsAt s.guests j v → v.claim ≡ Place l (256 * r + k) → k < 256 → KnowsChunk v l r c → s.words.slot c k ≡ blank
      → Step s (state (put_slot s.words c k (holding x)) s.owner (slice_set s.guests j (guest_with v Nothing (Item l c k x ∷ v.facts))))
  -- a filer finds that the slot at its claim is not 0, and leaves it
  misses : (j l r c k : ℕ) (v : Guest) → IsAt s.guests j v → v.claim ≡ Place l (256 * r + k) → k < 256 → KnowsChunk v l r c → s.words.slot c k ≢ blank
      → Step s (state s.words s.owner (slice_set s.guests j (guest_with v Nothing (Empty l c k ∷ v.facts))))
  -- a filer reads a link
  reads : (j l r c : ℕ) (from : LinkWord) (v : Guest) → IsAt s.guests j v → v.out ≡ true → KnowsLink v l from r → link_at s.words l from ≡ link_to r c
      → Step s (state s.words s.owner (slice_set s.guests j (guest_with v v.claim (Link l from r c ∷ v.facts))))
  -- the owner files into the next slot of an owned chain
  places : (l r c k x : ℕ) (a : Leaf) → IsAt s.owner.book.leaves l a → a.stage ≡ Open → IsAt a.owned r c → k < 256 → a.used ≡ 256 * r + k
      → Step s (state (put_slot s.words c k (holding x)) (with_fact (with_leaf s.owner l (with_one_used a)) (Item l c k x)) s.guests)
  -- a free chunk joins an owned chain
  adopts : (l c : ℕ) (a : Leaf) → IsAt s.owner.book.leaves l a → a.stage ≡ Open → IsFree s.owner.book.leaves c → c + 1 < 2 ^ 32
      → Step s (state s.words (with_leaf s.owner l (with_owned a c)) s.guests)
  -- a free chunk is linked behind a claimed chain
  links : (l c : ℕ) (from : LinkWord) (a : Leaf) → IsAt s.owner.book.leaves l a → a.stage ≡ Open → IsFree s.owner.book.leaves c → c + 1 < 2 ^ 32 → LeadsTo a.claimed from (length a.claimed)
      → Step s (state (put_link s.words l from (link_to (length a.claimed) c)) (with_fact (with_leaf s.owner l (with_claimed a c)) (Link l from (length a.claimed) c)) s.guests)
  -- a list is shut
  shuts : (l : ℕ) (a : Leaf) → IsAt s.owner.book.leaves l a → a.stage ≡ Open
      → Step s (state (put_claim s.words l (raised (s.words.claim l))) (after_shut s.owner l a (s.words.claim l).value) s.guests)
  -- the next slot of a shut list is marked
  marks : (l p f m r c k : ℕ) (x : Chain) (a : Leaf) → IsAt s.owner.book.leaves l a → a.stage ≡ Swept p f m → IsAt (chain_of a x) r c → k < 256 → IsNextMark a f m x (256 * r + k)
      → Step s (state (put_slot s.words c k (raised (s.words.slot c k))) (with_fact (with_leaf s.owner l (with_stage a (Swept p f (suc m)))) (mark_shows l c k (s.words.slot c k))) s.guests)
  -- the clearing of the next shut list begins with its own link
  first_clears : (l f m : ℕ) (a : Leaf) → IsAt s.owner.book.leaves l a → a.stage ≡ Swept s.owner.book.cleared f m → HasEnded s.owner.book → IsUnreached s.owner
      → Step s (state (put_link s.words l OfList 0) (after_first_clear s.owner l a) s.guests)
  -- it goes on, a slot or a link at a time
  slot_clears : (l p n r c k : ℕ) (a : Leaf) → IsAt s.owner.book.leaves l a → a.stage ≡ Cleared p n → IsAt (a.claimed ++ a.owned) r c → k < 256 → n ≡ 257 * r + k + 1
      → Step s (state (put_slot s.words c k blank) (with_leaf s.owner l (with_stage a (Cleared p (suc n)))) s.guests)
  link_clears : (l p n r c : ℕ) (a : Leaf) → IsAt s.owner.book.leaves l a → a.stage ≡ Cleared p n → IsAt (a.claimed ++ a.owned) r c → n ≡ 257 * r + 257
      → Step s (state (put_link s.words l (OfChunk c) 0) (with_leaf s.owner l (with_stage a (Cleared p (suc n)))) s.guests)
  -- and its chunks are free
  clearing_ends : (l p n : ℕ) (a : Leaf) → IsAt s.owner.book.leaves l a → a.stage ≡ Cleared p n → n ≡ 257 * length (a.claimed ++ a.owned) + 1
      → Step s (state s.words (with_leaf s.owner l (without_chains a)) s.guests)
  -- the owner makes a seat, and takes one back
  splits : (gs : List Grant) → IsGrantable s.owner.book.leaves gs
      → Step s (state s.words (after_split s.owner gs) (s.guests ++ newcomer s.owner gs ∷ []))
  joins : (j : ℕ) (v : Guest) → IsAt s.guests j v → v.out ≡ true
      → Step s (state s.words (after_join s.owner v) (slice_set s.guests j nobody))

-- any number of steps, of any seats in any order
pub data Run (s : State) : State → Type 0 where
  none : Run s s
  more : (t u : State) → Run s t → Step t u → Run s u
