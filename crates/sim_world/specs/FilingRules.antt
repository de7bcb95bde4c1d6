-- What a filing needs for its next step, and keeps.
use Rattle.std.specs.Prelude.{◌≡◌, ℕ, ◌+◌, ◌≤◌, ⊤, true, List, [], ◌∷◌, slice_set, if◌then◌else◌, ◌==◌}
use Rattle.cube_math.specs.Batches.{BatchValue}
use Rattle.list_machine.specs.Facts.{IsAt}
use Rattle.list_machine.specs.Grants.{granted_in}
use Rattle.list_machine.specs.Steps.{KnowsChunk}
use Rattle.list_machine.specs.declared.views.Unfiled.{Unfiled}
use Rattle.list_machine.specs.declared.views.Unfiled.TheVariants.{Nothing, Place}
use Rattle.list_machine.specs.declared.views.Guest.{Guest}
use Rattle.sim_world.specs.Filings.{walk_of}
use Rattle.sim_world.specs.Worlds.{Task, Filing, files, loader, World}

-- how many of some items go into the list
abbrev pub tasks_in : ℕ → List Task → ℕ
tasks_in l [] = 0
tasks_in l (t ∷ ts) = (if t.list == l then 1 else 0) + tasks_in l ts

-- an unfiled claim is in the list of the first item
abbrev pub IsClaimOf : List Task → Unfiled → Type 0
IsClaimOf ts Nothing = ⊤
IsClaimOf [] (Place l i) = ⊥
IsClaimOf (t ∷ ts) (Place l i) = t.list ≡ l

-- the items that still need a claim
abbrev pub unclaimed : List Task → Unfiled → List Task
unclaimed ts Nothing = ts
unclaimed [] (Place l i) = []
unclaimed (t ∷ ts) (Place l i) = ts

-- the filing's seat is out; its unfiled claim is the first item's, its grants are enough for the items behind, and it knows
-- the chunks of the filing's walks
pub record IsFiling (guests : List Guest) (f : Filing) : Type 0 where
  pub guest : Guest
  pub here : IsAt guests f.seat guest
  pub out : guest.out ≡ true
  pub claim : IsClaimOf f.todo guest.claim
  pub grants : (l : ℕ) → tasks_in l (unclaimed f.todo guest.claim) ≤ granted_in l guest.grants
  pub walks : (l r c : ℕ) → IsAt (walk_of f.walks l) r c → KnowsChunk guest l r c

-- from w on the loader a has come to w', where it goes on filing
pub record GoesOnFiling (w : World) (a : ℕ) (bs : List BatchValue) (w' : World) : Type 0 where
  pub filing : Filing
  pub actors : w'.actors ≡ slice_set w.actors a (loader bs (files filing))
  pub is : IsFiling w'.lists.guests filing
