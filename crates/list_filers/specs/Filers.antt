-- A filer: what it may file, what its filings answered, and what bears these answers out.
use Rattle.std.specs.Prelude.{◌≡◌, ℕ, ◌+◌, ◌≤◌, ◌∷◌, true, List, length}
use Rattle.list_machine.specs.Facts.{IsAt}
use Rattle.list_machine.specs.declared.views.Grant.{Grant}
use Rattle.list_machine.specs.declared.views.Unfiled.TheVariants.{Nothing}
use Rattle.list_machine.specs.declared.views.Guest.{Guest}
use Rattle.list_table.specs.Tables.{ListsValue}
use Rattle.list_machine.specs.Grants.{granted_in_all}
use Rattle.list_words.specs.Filing.{Filing}
use Rattle.list_words.specs.declared.leaf_lists.Answer.{Answer}
use Rattle.list_filers.specs.Ways.{WaysValue, IsReady, IsShown}

-- what the filer is as lists see it, how many links it has walked, and what its guest knows of the lists
pub record FilerValue : Type 0 where
  pub filing : Filing
  pub walked : ℕ
  pub guest : Guest

-- the name of lists, with which their filers are named too: how many lists and chunks there are, and the name of their table
abbrev pub shared_name : ListsValue → List ℕ
shared_name s = s.lists ∷ s.chunks ∷ s.name

abbrev pub filer_of : WaysValue → ℕ → List Answer → FilerValue
filer_of w birth answers = record {
  filing = record { name = shared_name w.lists; birth = birth; left = w.guest.grants; answers = answers };
  walked = w.walked;
  guest = w.guest;
}

-- what the guest knows bears all answers out
abbrev pub AreShown : Guest → List Answer → Type 0
AreShown v answers = (i : ℕ) (a : Answer) → IsAt answers i a → IsShown v a.list a.item a.filed

-- a filer that may file, has room for the answers of all that it may file, and can bear out those that it has given
pub record IsFiler (w : WaysValue) (birth : ℕ) (answers : List Answer) (capacity : ℕ) : Type 0 where
  pub ready : IsReady w.guest w.cursors
  pub birth_is : birth ≡ w.guest.birth
  pub room : length answers + granted_in_all w.guest.grants ≤ capacity
  pub shown : AreShown w.guest answers

-- the guest is new, with this birth and these grants
abbrev pub IsNew : Guest → ℕ → List Grant → Type 0
IsNew v birth gs = v ≡ record { out = true; birth = birth; grants = gs; claim = Nothing; facts = v.facts }
