-- What a sweep has found, of what the seats know to be in its list.
use Rattle.std.specs.Prelude.{◌≡◌, ℕ, ◌+◌, ◌*◌, ◌<◌, ◌^◌, List, true}
use Rattle.octree_model.specs.Numbers.{has}
use Rattle.list_machine.specs.Facts.{IsAt, Chain, chain_of}
use Rattle.list_machine.specs.Machine.{State}
use Rattle.list_machine.specs.Steps.{IsSweptPlace}
use Rattle.list_machine.specs.Sweeps.{mark_index}
use Rattle.list_machine.specs.declared.views.Fact.{Fact}
use Rattle.list_machine.specs.declared.views.Fact.TheVariants.{Item}
use Rattle.list_machine.specs.declared.views.Guest.{Guest}
use Rattle.list_machine.specs.declared.views.Leaf.{Leaf}
use Rattle.list_machine.specs.declared.views.Stage.TheVariants.{Swept}
use Rattle.sim_world.specs.Stores.{IsIn}

-- each item that facts place at one of the first m places of the sweep of the list l was found
abbrev pub AreFound : ℕ → Leaf → ℕ → ℕ → List ℕ → List Fact → Type 0
AreFound l a n m found facts = (y : Chain) (r c k x : ℕ) → x < 2 ^ 32 → IsIn facts (Item l c k x) → IsAt (chain_of a y) r c → k < 256
    → IsSweptPlace a n y (256 * r + k) → mark_index n y (256 * r + k) < m → has x found ≡ true

-- the list l was shut at the place p of the order, with n claims; m marks were made, and these items found: all that the owner
-- or a guest knows to be at a marked place
pub record IsSweeping (s : State) (l p n m : ℕ) (found : List ℕ) : Type 0 where
  pub leaf : Leaf
  pub at : IsAt s.owner.book.leaves l leaf
  pub stage : leaf.stage ≡ Swept p n m
  pub owner : AreFound l leaf n m found s.owner.facts
  pub guests : (j : ℕ) (v : Guest) → IsAt s.guests j v → AreFound l leaf n m found v.facts
