-- What a filer is: who gave it, the slots it may still claim, and what its filings answered.
use Rattle.std.specs.Prelude.{ℕ, ◌<◌, List, [], ◌∷◌, ◌++◌}
use Rattle.list_machine.specs.Grants.{granted_in, use_grant}
use Rattle.list_machine.specs.declared.views.Grant.{Grant}
use Rattle.list_words.specs.declared.leaf_lists.Answer.{Answer}
use Rattle.list_words.specs.declared.leaf_lists.Filed.{Filed}

-- the name of its lists, how many lists were shut when it was made, its grants that are left, and its answers in order
pub record Filing : Type 0 where
  pub name : List ℕ
  pub birth : ℕ
  pub left : List Grant
  pub answers : List Answer

-- there is a slot of the list that the filer may claim
abbrev pub HasGrant : Filing → ℕ → Type 0
HasGrant f list = 0 < granted_in list f.left

-- the answer to a filing of the item in the list
abbrev pub answer : ℕ → ℕ → Filed → Answer
answer list item filed = record { list = list; item = item; filed = filed }

-- one more filing was answered
abbrev pub answered : Filing → ℕ → ℕ → Filed → Filing
answered f list item filed = record { name = f.name; birth = f.birth; left = use_grant list f.left; answers = f.answers ++ answer list item filed ∷ [] }

-- the grants that are left after the filings with these answers
abbrev pub left_after : List Grant → List Answer → List Grant
left_after gs [] = gs
left_after gs (a ∷ answers) = left_after (use_grant a.list gs) answers
