-- Where the items of a publication are, from its decision to its commit.
use Rattle.std.specs.Prelude.{ℕ, ◌⊎◌, List}
use Rattle.list_machine.specs.declared.views.Fact.{Fact}
use Rattle.list_machine.specs.declared.views.Fact.TheVariants.{Item}
use Rattle.sim_world.specs.Stores.{IsIn}

-- a fact says that the item is in a slot of the list
abbrev pub Knows : List Fact → ℕ → ℕ → Type 0
Knows facts l x = (c : ℕ) × (k : ℕ) × IsIn facts (Item l c k x)

-- an item that is to be in the list `to`, by the facts of the owner and of the filing's seat, with these found items to be
-- moved, these late ones to be placed, and these lists to be swept
pub data Where (owner seat : List Fact) (to : ℕ) (moves late sweeps : List ℕ) (x : ℕ) : Type 0 where
  -- the owner knows it there, or the filing does
  known : Knows owner to x → Where owner seat to moves late sweeps x
  mine : Knows seat to x → Where owner seat to moves late sweeps x
  -- it is late, or found, or one of them knows it in a list that is to be swept
  waits : IsIn late x → Where owner seat to moves late sweeps x
  moving : IsIn moves x → Where owner seat to moves late sweeps x
  unswept : (l : ℕ) → IsIn sweeps l → Knows owner l x ⊎ Knows seat l x → Where owner seat to moves late sweeps x
