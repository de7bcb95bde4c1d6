-- What the worked lists of the tests may do.
use Rattle.std.proofs.Common.{◌≡◌, ℕ, zero, suc, ◌+◌, ◌*◌, ◌<◌, ◌≤◌, ◌≢◌, Bool, true, false, cond, nat_eq, List, [], ◌∷◌, length, sym, refl, subst, arith}
use Rattle.std.proofs.lemmas.Bool.Decides.{nat_tests}
use Rattle.list_machine.specs.Grants.{granted_in, use_grant}
use Rattle.list_machine.specs.Facts.{IsAt}
use Rattle.list_machine.specs.Steps.{opening_leaf, with_claimed, IsGrantable}
use Rattle.list_machine.specs.declared.views.Grant.{Grant}
use Rattle.list_machine.specs.declared.views.Stage.TheVariants.{Open}
use Rattle.list_machine.specs.declared.views.Leaf.{Leaf}
use Rattle.list_machine.proofs.Grants.{used_here, used_else}

-- one place of the list is used, and none of another
pub used_more : (l h n : ℕ) (gs : List Grant) → 0 < granted_in h gs → granted_in l (use_grant h gs) + cond (nat_eq l h) (n + 1) 0 ≡ granted_in l gs + cond (nat_eq l h) n 0
used_more l h n gs some = by (nat_eq l h) refl where
  by : (b : Bool) → nat_eq l h ≡ b → granted_in l (use_grant h gs) + cond b (n + 1) 0 ≡ granted_in l gs + cond b n 0
  by true is = let e : l ≡ h = grind (arith, nat_tests) in let one = subst (λ (k : ℕ). granted_in k (use_grant h gs) + 1 ≡ granted_in k gs) (sym e) (used_here h gs some) in omega arith
  by false is = let ne : l ≢ h = λ e. grind (arith, nat_tests) in let same = used_else h l gs ne in omega arith

-- the grants of the tests
abbrev pub grants : List Grant
grants = record { list = 1; n = 2 } ∷ record { list = 0; n = 258 } ∷ []

-- two lists, of which the first has two chunks and the second has one
abbrev pub leaves : List Leaf
leaves = with_claimed (with_claimed opening_leaf 2) 0 ∷ with_claimed opening_leaf 1 ∷ []

pub grantable : IsGrantable leaves grants
grantable = record { lists = here; few = omega arith } where
  here : (l : ℕ) → 0 < granted_in l grants → (a : Leaf) × IsAt leaves l a × (a.stage ≡ Open) × (a.granted + granted_in l grants ≤ 256 * length a.claimed)
  here zero some = (with_claimed (with_claimed opening_leaf 2) 0, refl, refl, omega arith)
  here (suc zero) some = (with_claimed opening_leaf 1, refl, refl, omega arith)
  here (suc (suc l)) some = absurd (grind (arith, nat_tests))
