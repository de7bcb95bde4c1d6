-- Facts about words, and which lists a seat reaches.
use Rattle.std.specs.Prelude.{◌≡◌, ℕ, suc, ◌+◌, ◌<◌, ◌≤◌, Bool, true, false, List, [], ◌∷◌, slice_get, Option, None, Some}
use Rattle.list_machine.specs.Words.{word, link_to}
use Rattle.list_machine.specs.State.{Words, link_at}
use Rattle.list_machine.specs.declared.views.LinkWord.{LinkWord}
use Rattle.list_machine.specs.declared.views.LinkWord.TheVariants.{OfList, OfChunk}
use Rattle.list_machine.specs.declared.views.Fact.{Fact}
use Rattle.list_machine.specs.declared.views.Fact.TheVariants.{Item, Link, Closed, Empty}
use Rattle.list_machine.specs.declared.views.Stage.{Stage}
use Rattle.list_machine.specs.declared.views.Stage.TheVariants.{Open, Swept, Cleared}
use Rattle.list_machine.specs.declared.views.Leaf.{Leaf}

-- the item k of the list is x
abbrev pub IsAt : {X : Type 0} → List X → ℕ → X → Type 0
IsAt xs k x = slice_get xs k ≡ Some x

-- the sum of f over the list
abbrev pub total : {X : Type 0} → (X → ℕ) → List X → ℕ
total f [] = 0
total f (x ∷ xs) = f x + total f xs

-- one of the two chains of a list
pub data Chain : Type 0 where
  claimed_chain : Chain
  owned_chain : Chain

-- its chunks in order
abbrev pub chain_of : Leaf → Chain → List ℕ
chain_of a claimed_chain = a.claimed
chain_of a owned_chain = a.owned

-- the chunk stands in one of the chains
abbrev pub HasChunk : Leaf → ℕ → Type 0
HasChunk a c = (x : Chain) × (r : ℕ) × IsAt (chain_of a x) r c

-- the link word, of a list with this claimed chain, leads to the rank r
abbrev pub LeadsTo : List ℕ → LinkWord → ℕ → Type 0
LeadsTo claimed OfList r = r ≡ 0
LeadsTo claimed (OfChunk b) r = (q : ℕ) × (r ≡ suc q) × IsAt claimed q b

-- the list that a fact is about
abbrev pub list_of : Fact → ℕ
list_of (Item l c k x) = l
list_of (Link l from r c) = l
list_of (Closed l) = l
list_of (Empty l c k) = l

-- the fact is true of the words
abbrev pub Holds : Words → Fact → Type 0
Holds w (Item l c k x) = (w.slot c k).value ≡ x + 1
Holds w (Link l from r c) = link_at w l from ≡ link_to r c
Holds w (Closed l) = (w.claim l).high ≡ true
Holds w (Empty l c k) = w.slot c k ≡ word 0 true

-- the word of the fact is one of the list's chains, or its own
abbrev pub Within : Leaf → Fact → Type 0
Within a (Item l c k x) = HasChunk a c × (k < 256)
Within a (Link l from r c) = LeadsTo a.claimed from r × IsAt a.claimed r c
Within a (Closed l) = Unit {0}
Within a (Empty l c k) = HasChunk a c × (k < 256)

-- the list was shut
abbrev pub is_shut : Stage → Bool
is_shut Open = false
is_shut (Swept p f m) = true
is_shut (Cleared p n) = true

-- the place of a shut list in the order of shut lists
abbrev pub place_of : Stage → Option ℕ
place_of Open = None
place_of (Swept p f m) = Some p
place_of (Cleared p n) = Some p

-- the clearing of the list has not begun
abbrev pub Stands : Stage → Type 0
Stands Open = Unit {0}
Stands (Swept p f m) = Unit {0}
Stands (Cleared p n) = ⊥

-- a seat that was made when so many lists were shut reaches a list at this stage
abbrev pub Reached : ℕ → Stage → Type 0
Reached birth Open = Unit {0}
Reached birth (Swept p f m) = birth ≤ p
Reached birth (Cleared p n) = birth ≤ p
