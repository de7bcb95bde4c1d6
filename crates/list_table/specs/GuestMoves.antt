-- What a step of a guest asks and what it tells.
use Rattle.std.specs.Prelude.{◌≡◌, ℕ, ◌+◌, ◌*◌, ◌/◌, ◌%◌, ◌<◌, ◌≤◌, ◌^◌, Bool, true, ◌∷◌, if◌then◌else◌}
use Rattle.list_machine.specs.Words.{Word}
use Rattle.list_machine.specs.Steps.{after_claim, guest_with, KnowsChunk, KnowsLink}
use Rattle.list_machine.specs.declared.views.Fact.TheVariants.{Item, Link, Closed, Empty}
use Rattle.list_machine.specs.declared.views.LinkWord.{LinkWord}
use Rattle.list_machine.specs.declared.views.Unfiled.TheVariants.{Nothing, Place}
use Rattle.list_machine.specs.declared.views.Guest.{Guest}
use Rattle.list_machine.specs.declared.words.Claimed.{Claimed}
use Rattle.list_machine.specs.declared.words.Claimed.TheVariants.{Index, Shut}
use Rattle.list_table.specs.Ledgers.{Knows}

-- what a claim answers that found this word
abbrev pub claimed_by : Word → Claimed
claimed_by w = if w.high then Shut else Index w.value

-- a place that is claimed lies behind those in which the guest knows an item, and a guest that knows the list to be shut gets none
pub record IsPast (v : Guest) (l i : ℕ) : Type 0 where
  pub items : (r c k x : ℕ) → KnowsChunk v l r c → Knows v.facts (Item l c k x) → 256 * r + k < i
  pub not_shut : Knows v.facts (Closed l) → ⊥
  pub not_marked : (c k : ℕ) → Knows v.facts (Empty l c k) → ⊥

-- a claim of the guest in the list gave this answer, and the guest knows this then
pub record IsAfterClaim (v u : Guest) (l : ℕ) (answer : Claimed) : Type 0 where
  pub word : Word
  pub seat_is : u ≡ after_claim v l word
  pub answer_is : answer ≡ claimed_by word
  pub past : (i : ℕ) → answer ≡ Index i → IsPast v l i

-- the place that the guest has claimed is the slot k of the chunk c, which the guest knows to have that place
abbrev pub MayFile : Guest → ℕ → ℕ → ℕ → ℕ → Type 0
MayFile v l i c k = (v.claim ≡ Place l i) × KnowsChunk v l (i / 256) c × (k ≡ i % 256)

-- the guest after a filing of the item, which stands, or found its slot marked
abbrev pub after_file : Guest → ℕ → ℕ → ℕ → ℕ → Bool → Guest
after_file v l c k x stands = guest_with v Nothing ((if stands then Item l c k x else Empty l c k) ∷ v.facts)

-- the link word leads on the way to the place that the guest has claimed: to the rank r
abbrev pub MayRead : Guest → ℕ → LinkWord → ℕ → Type 0
MayRead v l from r = KnowsLink v l from r × ((i : ℕ) × (v.claim ≡ Place l i) × (256 * r ≤ i))

-- the guest after it has read the link, which leads to the chunk
abbrev pub after_read : Guest → ℕ → LinkWord → ℕ → ℕ → Guest
after_read v l from r c = guest_with v v.claim (Link l from r c ∷ v.facts)

-- the word of a slot agrees with what the guest knows of it
pub record IsSlotWord (v : Guest) (c k : ℕ) (w : Word) : Type 0 where
  pub items : (l x : ℕ) → Knows v.facts (Item l c k x) → w.value ≡ x + 1
  pub marks : (l : ℕ) → Knows v.facts (Empty l c k) → (w.value ≡ 0) × (w.high ≡ true)
  pub small : w.value ≤ 2 ^ 32
