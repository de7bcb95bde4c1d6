-- What a book keeps.
use Rattle.std.specs.Prelude.{◌≡◌, ℕ, suc, ◌<◌, ◌≤◌, [], length, slice_get, slice_index, Some}
use Rattle.list_machine.specs.declared.views.Owner.{Owner}
use Rattle.world_book.specs.declared.book.Book.TheInside.{Inside}

-- what contracts see of a book
abbrev pub owner_of : Inside → Owner
owner_of a = record { book = record { leaves = a.rows.items; order = a.order.items; cleared = a.cleared }; out = a.out.items; facts = [] }

-- a count for each birth; the first shut lists are cleared, and nobody is out who was born before; and the order is of the lists
pub record IsBook (a : Inside) : Type 0 where
  pub births : length a.out.items ≡ suc (length a.order.items)
  pub begun : a.cleared ≤ length a.order.items
  pub past : (b : ℕ) → b < a.cleared → slice_index a.out.items b ≡ 0
  pub listed : (p l : ℕ) → slice_get a.order.items p ≡ Some l → l < length a.rows.items
