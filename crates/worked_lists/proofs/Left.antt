-- How many places a worker has left in each list.
use Rattle.std.proofs.Common.{◌≡◌, ◌≢◌, ℕ, ◌-◌, ◌<◌, ◌≤◌, cond, nat_eq, Bool, List, length, get_or, set, replicate, sym, ap, ◌∙◌, subst, arith, eq-eqb, ne_eqb}
use mathlib.Core.Logic.{dite}
use native.Mathlib.Decide.{ℕ_discrete}
use Rattle.std.proofs.lemmas.List.{get_or-replicate, length-replicate}
use Rattle.std.proofs.lemmas.Option.{get_or_from_slice_get, slice_get_within, slice_get-get_or}
use Rattle.list_machine.specs.declared.views.Grant.{Grant}
use Rattle.list_machine.specs.Grants.{granted_in, use_grant}
use Rattle.list_words.proofs.Places.{slice_get-set_same, slice_get-set_other}
use Rattle.list_filers.proofs.Worked.{used_more}
use Rattle.worked_lists.specs.Layouts.{even_grants}
use Rattle.worked_lists.specs.Workers.{AreLeft}
use Rattle.worked_lists.proofs.Evens.{even_in}

-- with as many grants in each list as many places are left
pub even_left : (lists places : ℕ) → AreLeft (replicate lists places) (even_grants lists places)
even_left lists places l n at =
    let low : l < lists = subst (λ k. l < k) (length-replicate lists places) (slice_get_within (replicate lists places) l n at) in
    let same : n ≡ places = sym (get_or_from_slice_get (replicate lists places) l n 0 at) ∙ get_or-replicate lists l places 0 low in
    let all = even_in l lists places low in
    omega (arith, same, all)

hit : (l h n : ℕ) → l ≡ h → cond (nat_eq l h) n 0 ≡ n
hit l h n e = ap (λ (b : Bool). cond b n 0) (eq-eqb l h e)

miss : (l h n : ℕ) → l ≢ h → cond (nat_eq l h) n 0 ≡ 0
miss l h n ne = ap (λ (b : Bool). cond b n 0) (ne_eqb l h ne)

module _ (left : List ℕ) (gs : List Grant) (all : AreLeft left gs) (h : ℕ) (low : h < length left) (some : 0 < get_or left h 0) where
  here : get_or left h 0 ≤ granted_in h gs
  here = all h (get_or left h 0) (slice_get-get_or left h 0 low)

  -- a list with a place left has a grant
  pub has_grant : 0 < granted_in h gs
  has_grant = let e = here in omega (arith, e, some)

  -- and one place less is left once it is used
  pub left_after : AreLeft (set left h (get_or left h 0 - 1)) (use_grant h gs)
  left_after l n at = dite (ℕ_discrete l h)
      (λ e.
      let used = used_more l h 0 gs has_grant in
      let one = hit l h 1 e in
      let none = hit l h 0 e in
      let was : n ≡ get_or left h 0 - 1 = sym (get_or_from_slice_get (set left h (get_or left h 0 - 1)) l n 0 at) ∙ (ap (λ k. get_or (set left h (get_or left h 0 - 1)) k 0) e ∙ get_or_from_slice_get (set left h (get_or left h 0 - 1)) h (get_or left h 0 - 1) 0 (slice_get-set_same left h (get_or left h 0 - 1) low)) in
      let most : get_or left h 0 ≤ granted_in l gs = subst (λ k. get_or left h 0 ≤ granted_in k gs) (sym e) here in
      omega (arith, used, one, none, was, most, some))
      (λ ne.
      let used = used_more l h 0 gs has_grant in
      let one = miss l h 1 ne in
      let none = miss l h 0 ne in
      let most = all l n (sym (slice_get-set_other left h l (get_or left h 0 - 1) ne) ∙ at) in
      omega (arith, used, one, none, most))
