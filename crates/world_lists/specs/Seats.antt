-- The seats of filers and readers, as lists keep them.
use Rattle.std.specs.Prelude.{ℕ, [], Option, None, Some, true}
use Rattle.list_machine.specs.declared.views.Guest.{Guest}
use Rattle.list_machine.specs.declared.views.Unfiled.{Unfiled}
use Rattle.list_machine.specs.declared.views.Unfiled.TheVariants.{Nothing, Place}
use Rattle.list_machine.specs.declared.words.Claimed.{Claimed}
use Rattle.list_machine.specs.declared.words.Claimed.TheVariants.{Index, Shut}
use Rattle.world_lists.specs.declared.seat.Unfiled as code
use Rattle.world_lists.specs.declared.seat.Seat.TheInside.{Inside}

-- the place that is claimed and not filed into
abbrev pub claim_of : Option code.Unfiled → Unfiled
claim_of None = Nothing
claim_of (Some p) = Place p.list p.index

-- a guest without its grants and its facts
abbrev pub bare : Guest → Guest
bare v = record v { grants = []; facts = [] }

-- what contracts see of a seat
abbrev pub guest_of : Inside → Guest
guest_of a = record { out = a.out; birth = a.birth; grants = []; claim = claim_of a.claim; facts = [] }

-- a seat that is made when so many lists are shut
abbrev pub fresh_guest : ℕ → Guest
fresh_guest birth = record { out = true; birth = birth; grants = []; claim = Nothing; facts = [] }

-- what a claim in a list gave
abbrev pub place_given : ℕ → Claimed → Unfiled
place_given l (Index i) = Place l i
place_given l Shut = Nothing

-- the guest with this claim
abbrev pub with_claim : Guest → Unfiled → Guest
with_claim v claim = record v { claim = claim }
