-- What a step of the owner asks and what it leaves.
use Rattle.std.specs.Prelude.{◌≡◌, ℕ, suc, ◌+◌, ◌-◌, ◌*◌, ◌/◌, ◌%◌, ◌<◌, ◌≤◌, ◌⊎◌, nat_lt, if◌then◌else◌, List, [], ◌∷◌, ◌++◌, length, slice_set, Option, Some, None}
use Rattle.list_machine.specs.Words.{Word}
use Rattle.list_machine.specs.Facts.{IsAt}
use Rattle.list_machine.specs.Rule.{IsFree}
use Rattle.list_machine.specs.Steps.{with_leaf, with_fact, with_stage, with_claimed, with_owned, with_one_used, without_chains, after_shut, mark_shows, HasEnded, IsUnreached, after_first_clear}
use Rattle.list_machine.specs.declared.views.LinkWord.{LinkWord}
use Rattle.list_machine.specs.declared.views.Fact.TheVariants.{Item, Link}
use Rattle.list_machine.specs.declared.views.Stage.{Stage}
use Rattle.list_machine.specs.declared.views.Stage.TheVariants.{Open, Swept, Cleared}
use Rattle.list_machine.specs.declared.views.Leaf.{Leaf}
use Rattle.list_machine.specs.declared.views.LinkWord.TheVariants.{OfList, OfChunk}
use Rattle.list_table.specs.Ledgers.{leaf_of, notes_of, no_notes}
use Rattle.list_table.specs.declared.views.Notes.{Notes}
use Rattle.list_table.specs.declared.views.Ledger.{Ledger}

-- the ledger with another leaf for the list
abbrev pub ledger_with : Ledger → ℕ → Leaf → Ledger
ledger_with g l a = record g { owner = with_leaf g.owner l a }

-- Placing

-- the slot k of the chunk c is the next of the owned chain of an open list
pub record MayPlace (g : Ledger) (l c k : ℕ) : Type 0 where
  pub takes : (leaf_of g l).stage ≡ Open
  pub chunk : IsAt (leaf_of g l).owned ((leaf_of g l).used / 256) c
  pub slot : k ≡ (leaf_of g l).used % 256

-- one more item was placed
abbrev pub more_placed : Notes → ℕ → Notes
more_placed t x = record t { placed = t.placed ++ x ∷ [] }

abbrev pub after_place : Ledger → ℕ → ℕ → ℕ → ℕ → Ledger
after_place g l c k x = record {
  owner = with_fact (with_leaf g.owner l (with_one_used (leaf_of g l))) (Item l c k x);
  notes = slice_set g.notes l (more_placed (notes_of g l) x);
}

-- Chunks

-- a free chunk may join a chain of an open list
pub record MayExtend (g : Ledger) (l c : ℕ) : Type 0 where
  pub takes : (leaf_of g l).stage ≡ Open
  pub free : IsFree g.owner.book.leaves c

-- the link word that leads behind a claimed chain: the list's own where the chain has no chunk, and else that of the last one
abbrev pub last_link : Option ℕ → LinkWord
last_link None = OfList
last_link (Some b) = OfChunk b

abbrev pub after_link : Ledger → ℕ → LinkWord → ℕ → Ledger
after_link g l from c = record g { owner = with_fact (with_leaf g.owner l (with_claimed (leaf_of g l) c)) (Link l from (length (leaf_of g l).claimed) c) }

abbrev pub after_adopt : Ledger → ℕ → ℕ → Ledger
after_adopt g l c = ledger_with g l (with_owned (leaf_of g l) c)

-- Shutting and marking

-- the list was shut, and so many claims were found
abbrev pub ledger_after_shut : Ledger → ℕ → ℕ → Ledger
ledger_after_shut g l found = record g { owner = after_shut g.owner l (leaf_of g l) found }

-- where the next mark of a shut list is made: in the claimed chain while claims are left, and then in the owned one
abbrev pub IsMarkAt : Leaf → ℕ → ℕ → ℕ → ℕ → Type 0
IsMarkAt a found marks c k =
    ((marks < found) × IsAt a.claimed (marks / 256) c × (k ≡ marks % 256))
    ⊎ ((found ≤ marks) × (marks < found + a.used) × IsAt a.owned ((marks - found) / 256) c × (k ≡ (marks - found) % 256))

-- the slot k of the chunk c is the next that is marked
pub record MayMark (g : Ledger) (l c k : ℕ) : Type 0 where
  pub place : ℕ
  pub found : ℕ
  pub marks : ℕ
  pub shut : (leaf_of g l).stage ≡ Swept place found marks
  pub here : IsMarkAt (leaf_of g l) found marks c k

-- the stage with one more mark
abbrev pub one_more_mark : Stage → Stage
one_more_mark Open = Open
one_more_mark (Swept p f m) = Swept p f (suc m)
one_more_mark (Cleared p n) = Cleared p n

-- the item that stood in a slot with this word
abbrev pub item_found : Word → Option ℕ
item_found w = if nat_lt 0 w.value then Some (w.value - 1) else None

-- the notes after one more mark, of a list at this stage, which found this word
abbrev pub marked_notes : Stage → Notes → Word → Notes
marked_notes Open t w = t
marked_notes (Swept p f m) t w = if nat_lt m f then record t { marked = t.marked ++ item_found w ∷ [] } else t
marked_notes (Cleared p n) t w = t

abbrev pub after_mark : Ledger → ℕ → ℕ → ℕ → Word → Ledger
after_mark g l c k w = record {
  owner = with_fact (with_leaf g.owner l (with_stage (leaf_of g l) (one_more_mark (leaf_of g l).stage))) (mark_shows l c k w);
  notes = slice_set g.notes l (marked_notes (leaf_of g l).stage (notes_of g l) w);
}

-- Clearing

-- the list is the next that is cleared, and nobody is out who reaches it
pub record MayBegin (g : Ledger) (l : ℕ) : Type 0 where
  pub found : ℕ
  pub marks : ℕ
  pub shut : (leaf_of g l).stage ≡ Swept g.owner.book.cleared found marks
  pub ended : HasEnded g.owner.book
  pub unreached : IsUnreached g.owner

abbrev pub after_begin : Ledger → ℕ → Ledger
after_begin g l = record g { owner = after_first_clear g.owner l (leaf_of g l) }

-- the chunks of both chains, in the order in which they are cleared
abbrev pub chunks_in : Leaf → List ℕ
chunks_in a = a.claimed ++ a.owned

-- the slot k of the chunk c is the next word that is cleared
pub record MayClearSlot (g : Ledger) (l c k : ℕ) : Type 0 where
  pub place : ℕ
  pub rank : ℕ
  pub begun : (leaf_of g l).stage ≡ Cleared place (257 * rank + k + 1)
  pub chunk : IsAt (chunks_in (leaf_of g l)) rank c
  pub within : k < 256

-- the link of the chunk c is the next word that is cleared
pub record MayClearLink (g : Ledger) (l c : ℕ) : Type 0 where
  pub place : ℕ
  pub rank : ℕ
  pub begun : (leaf_of g l).stage ≡ Cleared place (257 * rank + 257)
  pub chunk : IsAt (chunks_in (leaf_of g l)) rank c

-- the stage with one more cleared word
abbrev pub one_more_clear : Stage → Stage
one_more_clear Open = Open
one_more_clear (Swept p f m) = Swept p f m
one_more_clear (Cleared p n) = Cleared p (suc n)

abbrev pub after_clear : Ledger → ℕ → Ledger
after_clear g l = ledger_with g l (with_stage (leaf_of g l) (one_more_clear (leaf_of g l).stage))

-- all words of the list are cleared
pub record IsAllClear (g : Ledger) (l : ℕ) : Type 0 where
  pub place : ℕ
  pub begun : (leaf_of g l).stage ≡ Cleared place (257 * length (chunks_in (leaf_of g l)) + 1)

-- its chunks are free, and there are no notes of it any more
abbrev pub after_end : Ledger → ℕ → Ledger
after_end g l = record { owner = with_leaf g.owner l (without_chains (leaf_of g l)); notes = slice_set g.notes l no_notes }
