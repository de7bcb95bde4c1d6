-- Lists and seats as contracts see them.
use Rattle.std.specs.Prelude.{◌≡◌, ◌<◌, ◌^◌, ℕ, suc, List, [], ◌∷◌}
use Rattle.atomic_table.specs.Seated.{TableId}
use Rattle.list_machine.specs.Layouts.{word_count}
use Rattle.list_machine.specs.declared.views.Guest.{Guest}
use Rattle.list_table.specs.Ruled.{Sat, ledger_of, guest_of, IsPossible, IsPossibleGuest}
use Rattle.list_table.specs.declared.views.Ledger.{Ledger}
use Rattle.list_table.specs.declared.views.View.TheVariants.{Owns, Visits}

-- what tells the lists of one table from all others
abbrev pub name_of : ℕ → ℕ → TableId → List ℕ
name_of lists chunks t = lists ∷ chunks ∷ t.words ∷ t.slots ∷ t.views_name ∷ t.atom ∷ t.block ∷ t.offset ∷ t.slot_names

-- lists: their name, how many they are, and how many chunks they have
pub record ListsValue : Type 0 where
  pub name : List ℕ
  pub lists : ℕ
  pub chunks : ℕ

-- the owner's seat: the name of its lists, and what the owner knows
pub record OwnerValue : Type 0 where
  pub name : List ℕ
  pub ledger : Ledger

-- a guest's seat: the name of its lists, and what the guest knows
pub record GuestValue : Type 0 where
  pub name : List ℕ
  pub guest : Guest

-- the table has the words of so many lists and chunks, and one more, which is always there to be read
pub record IsTable (lists chunks : ℕ) (table : TableId) : Type 0 where
  pub words : table.words ≡ suc (word_count lists chunks)
  pub slots : table.slots ≡ 0
  pub few : chunks < 2 ^ 32

-- the seat is the owner's
pub record IsOwnerSeat (lists chunks : ℕ) (me : Sat) : Type 0 where
  pub seat_is : me ≡ (Owns (ledger_of me.0), [])
  pub possible : IsPossible lists chunks (ledger_of me.0)

-- the seat is a guest's
pub record IsGuestSeat (lists chunks : ℕ) (me : Sat) : Type 0 where
  pub seat_is : me ≡ (Visits (guest_of me.0), [])
  pub possible : IsPossibleGuest lists chunks (guest_of me.0)
