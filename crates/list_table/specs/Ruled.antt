-- The rule of the table of lists: its words are words of lists, and all seats are as the machine has them.
use Rattle.std.specs.Prelude.{◌≡◌, ℕ, suc, ◌<◌, ◌≤◌, ◌^◌, List, ◌∷◌, map, length}
use Rattle.atomic_table.specs.Table.{State, Me}
use Rattle.list_machine.specs.State.{Words}
use Rattle.list_machine.specs.Facts.{IsAt, HasChunk}
use Rattle.list_machine.specs.Layouts.{word_count, words_of}
use Rattle.list_machine.specs.Rule.{Sound}
use Rattle.list_machine.specs.Steps.{nobody, after_split, newcomer, after_join}
use Rattle.list_machine.specs.declared.views.Grant.{Grant}
use Rattle.list_machine.specs.declared.views.Leaf.{Leaf}
use Rattle.list_machine.specs.declared.views.Guest.{Guest}
use Rattle.list_table.specs.Ledgers.{IsKept, opening_ledger}
use Rattle.list_table.specs.declared.views.Ledger.{Ledger}
use Rattle.list_table.specs.declared.views.View.{View}
use Rattle.list_table.specs.declared.views.View.TheVariants.{Owns, Visits}

-- a seat at the table
abbrev pub Sat : Type 0
Sat = Me (Unit {0}) View

-- the value of each slot is an item + 1, or 0
abbrev pub AreSmall : Words → Type 0
AreSmall w = (c k : ℕ) → (w.slot c k).value ≤ 2 ^ 32

-- the chunks of all chains have numbers below this
abbrev pub AreNumbered : ℕ → List Leaf → Type 0
AreNumbered chunks leaves = (l c : ℕ) (a : Leaf) → IsAt leaves l a → HasChunk a c → c < chunks

-- a row of words, the owner's ledger and the views of all guests agree
pub record IsConsistent (lists chunks : ℕ) (words : List ℕ) (g : Ledger) (guests : List Guest) : Type 0 where
  pub wide : length words ≡ suc (word_count lists chunks)
  pub leaves : length g.owner.book.leaves ≡ lists
  pub numbers : AreNumbered chunks g.owner.book.leaves
  pub items : AreSmall (words_of lists chunks words)
  pub kept : IsKept g
  pub sound : Sound (words_of lists chunks words) g.owner guests

-- the rule: the first seat is the owner's, the others are guests
pub record IsRuled (lists chunks : ℕ) (s : State (Unit {0}) View) : Type 0 where
  pub ledger : Ledger
  pub guests : List Guest
  pub views : s.views ≡ Owns ledger ∷ map Visits guests
  pub agrees : IsConsistent lists chunks s.words ledger guests

-- the view of the first seat
abbrev pub first_view : ℕ → View
first_view lists = Owns (opening_ledger lists)

-- what a view tells of the owner and of a guest
abbrev pub ledger_of : View → Ledger
ledger_of (Owns g) = g
ledger_of (Visits v) = opening_ledger 0

abbrev pub guest_of : View → Guest
guest_of (Owns g) = nobody
guest_of (Visits v) = v

-- the owner makes a seat with these grants
abbrev pub ledger_after_split : Ledger → List Grant → Ledger
ledger_after_split g gs = record g { owner = after_split g.owner gs }

abbrev pub admitting : List Grant → View → View
admitting gs v = Owns (ledger_after_split (ledger_of v) gs)

abbrev pub admitted : List Grant → View → View
admitted gs v = Visits (newcomer (ledger_of v).owner gs)

-- and takes one back
abbrev pub ledger_after_join : Ledger → Guest → Ledger
ledger_after_join g v = record g { owner = after_join g.owner v }

abbrev pub taking_back : View → View → View
taking_back v u = Owns (ledger_after_join (ledger_of v) (guest_of u))

abbrev pub spent : View
spent = Visits nobody

-- there may be words and guests with which the owner's ledger agrees
pub record IsPossible (lists chunks : ℕ) (g : Ledger) : Type 0 where
  pub words : List ℕ
  pub guests : List Guest
  pub agrees : IsConsistent lists chunks words g guests

-- there may be words, an owner and other guests with which a guest's view agrees
pub record IsPossibleGuest (lists chunks : ℕ) (v : Guest) : Type 0 where
  pub words : List ℕ
  pub ledger : Ledger
  pub guests : List Guest
  pub number : ℕ
  pub at : IsAt guests number v
  pub agrees : IsConsistent lists chunks words ledger guests
