-- Memory that was reserved for a filer.
use Rattle.std.specs.Prelude.{◌≡◌, ℕ, ◌≤◌, [], max}
use Rattle.std.specs.Vec.{vec_capacity}
use Rattle.list_filers.specs.Room.{Room}
use Rattle.list_filers.specs.declared.rooms.FilerRoom.TheInside.{Inside}

abbrev pub no_room : Room
no_room = record { grants = 0; items = 0 }

-- with room for at least so many
abbrev pub roomier : Room → ℕ → ℕ → Room
roomier r grants items = record { grants = max r.grants grants; items = max r.items items }

abbrev pub room_of : Inside → Room
room_of a = record { grants = a.grants; items = a.items }

-- the memory is there, and nothing is in it
pub record HasRoom (a : Inside) : Type 0 where
  pub cursors : a.grants ≤ vec_capacity a.cursors
  pub answers : a.items ≤ vec_capacity a.answers
  pub no_cursors : a.cursors.items ≡ []
  pub no_answers : a.answers.items ≡ []
