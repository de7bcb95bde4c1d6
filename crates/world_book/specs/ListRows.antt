-- The row of a list: what the owner keeps of it.
use Rattle.std.specs.Prelude.{◌^◌, ◌≤◌, length}
use Rattle.list_machine.specs.declared.views.Leaf.{Leaf}
use Rattle.list_machine.specs.declared.views.Stage.{Stage}
use Rattle.list_machine.specs.declared.views.Stage.TheVariants.{Open, Swept, Cleared}
use Rattle.world_book.specs.declared.row.Phase.{Phase}
use Rattle.world_book.specs.declared.row.Phase.TheVariants.{Opened, Shut, Clearing}
use Rattle.world_book.specs.declared.row.Row.TheInside.{Inside}

-- how far a list has come
abbrev pub stage_of : Phase → Stage
stage_of Opened = Open
stage_of (Shut place found marks) = Swept place found marks
stage_of (Clearing place words) = Cleared place words

-- what contracts see of a row
abbrev pub leaf_of : Inside → Leaf
leaf_of a = record { claimed = a.claimed.items; owned = a.owned.items; granted = a.granted; used = a.used; stage = stage_of a.phase }

-- a chain has at most as many chunks as there are numbers of 32 bits
pub record HasShortChains (a : Inside) : Type 0 where
  pub claimed : length a.claimed.items ≤ 2 ^ 32
  pub owned : length a.owned.items ≤ 2 ^ 32
