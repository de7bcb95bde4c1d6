-- Grants in lists over vectors.
use Rattle.std.specs.Prelude.{◌≡◌, ◌+◌, ◌*◌, ◌^◌, ◌<◌, ◌≤◌, List, [], ◌∷◌, length, slice_set}
use Rattle.list_machine.specs.declared.views.Grant.{Grant}
use Rattle.list_words.specs.Plain.{list_in}
use Rattle.list_words.specs.PlainRows.{PlainList, granted_list}
use Rattle.list_words.specs.declared.leaf_lists.Phase.TheVariants.{Open}

-- the list of a grant takes items, and has slots for it
pub record MayGrant (lists : List PlainList) (g : Grant) : Type 0 where
  pub takes : (list_in lists g.list).phase ≡ Open
  pub slots : (list_in lists g.list).granted + g.n ≤ 256 * length (list_in lists g.list).claimed
  pub fits : (list_in lists g.list).granted + g.n < 2 ^ 32

-- the lists after grants
abbrev pub grant_lists : List Grant → List PlainList → List PlainList
grant_lists [] lists = lists
grant_lists (g ∷ gs) lists = grant_lists gs (slice_set lists g.list (granted_list (list_in lists g.list) g.n))
