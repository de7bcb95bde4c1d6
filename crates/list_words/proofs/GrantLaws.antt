-- Grants, one after another.
use Rattle.std.proofs.Common.{◌≡◌, ◌≢◌, ℕ, suc, ◌+◌, ◌*◌, ◌^◌, ◌<◌, ◌≤◌, List, ◌∷◌, length, set, get_or, drop, ap, refl, sym, subst, ◌∙◌, arith, add-one, drop-cons}
use Rattle.std.specs.Prelude.{All, AllPairs}
use Rattle.std.proofs.lemmas.List.{get_or_default, length-set}
use Rattle.std.proofs.lemmas.List.Sums.{sum_by-cons}
use Rattle.list_machine.specs.declared.views.Grant.{Grant}
use Rattle.list_machine.specs.Grants.{granted_in_all}
use Rattle.list_words.specs.Plain.{list_in}
use Rattle.list_words.specs.PlainGrants.{MayGrant, grant_lists}
use Rattle.list_words.specs.PlainRows.{PlainList, granted_list}
use Rattle.list_words.specs.declared.leaf_lists.Phase.TheVariants.{Open}
use Rattle.list_words.proofs.PlainLaws.{list_in-set_other}

-- the first n grants were made
pub record IsGranting (grants : List Grant) (old now : List PlainList) (all n : ℕ) : Type 0 where
  pub rest : grant_lists (drop n grants) now ≡ grant_lists grants old
  pub long : length now ≡ length old
  pub sum_is : all + granted_in_all (drop n grants) ≡ granted_in_all grants
  pub ready : (k : ℕ) (d : Grant) → n ≤ k → k < length grants → MayGrant now (get_or grants k d)

pub granted_none : (grants : List Grant) (lists : List PlainList) → All (MayGrant lists) grants → IsGranting grants lists lists 0 0
granted_none grants lists may = record { rest = refl; long = refl; sum_is = omega arith; ready = λ k d low high. may k d high }

-- a list takes items and has slots for so many more
record IsReady (p : PlainList) (n : ℕ) : Type 0 where
  takes : p.phase ≡ Open
  slots : p.granted + n ≤ 256 * length p.claimed
  fits : p.granted + n < 2 ^ 32

grant_ready : (lists : List PlainList) (g : Grant) → MayGrant lists g → IsReady (list_in lists g.list) g.n
grant_ready lists g may = record { takes = may.takes; slots = may.slots; fits = may.fits }

ready_grant : (lists : List PlainList) (g : Grant) → IsReady (list_in lists g.list) g.n → MayGrant lists g
ready_grant lists g is = record { takes = is.takes; slots = is.slots; fits = is.fits }

may_still : (lists : List PlainList) (g h : Grant) (b : PlainList) → g.list ≢ h.list → MayGrant lists h → MayGrant (set lists g.list b) h
may_still lists g h b other may =
    let same : list_in (set lists g.list b) h.list ≡ list_in lists h.list = list_in-set_other lists g.list h.list b (λ e. other (sym e)) in
    let P : PlainList → Type 0 = λ p. IsReady p h.n in
    ready_grant (set lists g.list b) h (subst P (sym same) (grant_ready lists h may))

pub granted_more : (grants : List Grant) (old now : List PlainList) (all n : ℕ) (g : Grant) → IsGranting grants old now all n → n < length grants → get_or grants n g ≡ g → AllPairs (λ (a b : Grant). a.list ≢ b.list) grants
    → IsGranting grants old (set now g.list (granted_list (list_in now g.list) g.n)) (all + g.n) (n + 1)
granted_more grants old now all n g done small at apart =
    let split : drop n grants ≡ get_or grants n g ∷ drop (suc n) grants = drop-cons grants n g small in
    let parts : drop n grants ≡ g ∷ drop (suc n) grants = split ∙ ap (λ h. h ∷ drop (suc n) grants) at in
    let sum_parts : granted_in_all (g ∷ drop (suc n) grants) ≡ g.n + granted_in_all (drop (suc n) grants) = sum_by-cons (λ (h : Grant). h.n) g (drop (suc n) grants) in
    let sum_now : granted_in_all (drop n grants) ≡ granted_in_all (g ∷ drop (suc n) grants) = ap granted_in_all parts in
    rw (add-one n) (record {
      rest = sym (ap (λ gs. grant_lists gs now) parts) ∙ done.rest;
      long = length-set now g.list (granted_list (list_in now g.list) g.n) ∙ done.long;
      sum_is = omega (arith, done.sum_is, sum_now);
      ready = λ k d low high.
          may_still now g (get_or grants k d) (granted_list (list_in now g.list) g.n)
          (λ e. apart n k d (omega arith) high (ap (λ (h : Grant). h.list) (get_or_default grants n d g small ∙ at) ∙ e))
          (done.ready k d (omega arith) high);
    })
