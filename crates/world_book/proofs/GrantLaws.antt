-- Lists after grants, one after another.
use Rattle.std.proofs.Common.{◌≡◌, ◌≢◌, ℕ, zero, suc, ◌+◌, ◌<◌, List, [], ◌∷◌, length, get_or, set, drop, cond, refl, ap, sym, subst, ◌∙◌, arith, add-one, drop-cons, eq-eqb, ne_eqb}
use Rattle.std.proofs.Math.Seq.{drop-length}
use Rattle.std.specs.Prelude.{All, ◌^◌}
use Rattle.std.proofs.lemmas.List.{length-set}
use Rattle.std.proofs.lemmas.List.Elements.{All-get_or}
use Rattle.list_machine.specs.Grants.{granted_in}
use Rattle.list_machine.specs.Steps.{leaves_after_grants, opening_leaf, with_grant}
use Rattle.list_machine.specs.declared.views.Grant.{Grant}
use Rattle.list_machine.specs.declared.views.Leaf.{Leaf}

granted_here : (l : ℕ) (g : Grant) (gs : List Grant) → g.list ≡ l → granted_in l (g ∷ gs) ≡ g.n + granted_in l gs
granted_here l g gs same = ap (λ b. cond b g.n 0 + granted_in l gs) (eq-eqb g.list l same)

granted_else : (l : ℕ) (g : Grant) (gs : List Grant) → g.list ≢ l → granted_in l (g ∷ gs) ≡ granted_in l gs
granted_else l g gs other = ap (λ b. cond b g.n 0 + granted_in l gs) (ne_eqb g.list l other) ∙ none (granted_in l gs)
  where
    none : (n : ℕ) → 0 + n ≡ n
    none n = omega arith

same_grant : (a : Leaf) (m n : ℕ) → m ≡ n → with_grant a m ≡ with_grant a n
same_grant a m n e = ap (with_grant a) e

-- a grant in a list before these
past : (n : ℕ) (es : List Leaf) (g : Grant) (gs : List Grant) → g.list < n → leaves_after_grants n es (g ∷ gs) ≡ leaves_after_grants n es gs
past n [] g gs low = refl
past n (a ∷ es) g gs low = (λ i. with_grant a (granted_else n g gs (λ e. omega (arith, low, e)) i) ∷ past (suc n) es g gs (omega (arith, low)) i)

-- the first grant may be made before the others
first_grant : (n k : ℕ) (es : List Leaf) (g : Grant) (gs : List Grant) → g.list ≡ n + k → k < length es
    → leaves_after_grants n (set es k (with_grant (get_or es k opening_leaf) g.n)) gs ≡ leaves_after_grants n es (g ∷ gs)
first_grant n k [] g gs is low = absurd (omega (arith, low))
first_grant n zero (a ∷ es) g gs is low =
    (λ i. (let q : Leaf = record a { granted = more i } in q) ∷ sym (past (suc n) es g gs (omega (arith, is))) i)
  where
    more : a.granted + g.n + granted_in n gs ≡ a.granted + granted_in n (g ∷ gs)
    more = omega (arith, granted_here n g gs (omega (arith, is)))
first_grant n (suc k) (a ∷ es) g gs is low = (λ i. with_grant a (sym (granted_else n g gs (λ e. omega (arith, is, e))) i) ∷ first_grant (suc n) k es g gs (omega (arith, is)) (omega (arith, low)) i)

-- without grants they stay
no_grants : (n : ℕ) (es : List Leaf) → leaves_after_grants n es [] ≡ es
no_grants n [] = refl
no_grants n (a ∷ es) = (λ i. (let q : Leaf = record a { granted = same a.granted i } in q) ∷ no_grants (suc n) es i)
  where
    same : (m : ℕ) → m + 0 ≡ m
    same m = omega arith

pub length-grants : (n : ℕ) (es : List Leaf) (gs : List Grant) → length (leaves_after_grants n es gs) ≡ length es
length-grants n [] gs = refl
length-grants n (a ∷ es) gs = ap suc (length-grants (suc n) es gs)

get_or-grants : (n k : ℕ) (es : List Leaf) (gs : List Grant) → k < length es → (get_or (leaves_after_grants n es gs) k opening_leaf).granted ≡ (get_or es k opening_leaf).granted + granted_in (n + k) gs
get_or-grants n k [] gs low = absurd (omega (arith, low))
get_or-grants n zero (a ∷ es) gs low = ap (λ m. a.granted + granted_in m gs) (let e : n ≡ n + 0 = omega arith in e)
get_or-grants n (suc k) (a ∷ es) gs low = get_or-grants (suc n) k es gs (omega (arith, low)) ∙ ap (λ m. (get_or es k opening_leaf).granted + granted_in m gs) (let e : suc n + k ≡ n + suc k = omega arith in e)

-- the first n of the grants were made
pub record IsGranting (grants : List Grant) (old now : List Leaf) (n : ℕ) : Type 0 where
  pub rest : leaves_after_grants 0 now (drop n grants) ≡ leaves_after_grants 0 old grants
  pub long : length now ≡ length old

pub granting_none : (grants : List Grant) (rows : List Leaf) → IsGranting grants rows rows 0
granting_none grants rows = record { rest = refl; long = refl }

next_of : (grants : List Grant) (n : ℕ) (g : Grant) → n < length grants → get_or grants n g ≡ g → drop n grants ≡ g ∷ drop (suc n) grants
next_of grants n g low at = drop-cons grants n g low ∙ ap (λ h. h ∷ drop (suc n) grants) at

pub granting_more : (grants : List Grant) (old now : List Leaf) (n : ℕ) (g : Grant) → IsGranting grants old now n → n < length grants → get_or grants n g ≡ g → g.list < length now
    → IsGranting grants old (set now g.list (with_grant (get_or now g.list opening_leaf) g.n)) (n + 1)
granting_more grants old now n g done low at within =
    let e : leaves_after_grants 0 (set now g.list (with_grant (get_or now g.list opening_leaf) g.n)) (drop (suc n) grants) ≡ leaves_after_grants 0 old grants =
    first_grant 0 g.list now g (drop (suc n) grants) (let z : g.list ≡ 0 + g.list = omega arith in z) within ∙ sym (ap (leaves_after_grants 0 now) (next_of grants n g low at)) ∙ done.rest in
    record { rest = rw (add-one n) e; long = length-set now g.list (with_grant (get_or now g.list opening_leaf) g.n) ∙ done.long }

-- a count that is to have 32 bits in the end has them with the next grant
pub granting_fits : (grants : List Grant) (old now : List Leaf) (n : ℕ) (g : Grant) → IsGranting grants old now n → n < length grants → get_or grants n g ≡ g → g.list < length now
    → All (λ (a : Leaf). a.granted < 2 ^ 32) (leaves_after_grants 0 old grants) → (get_or now g.list opening_leaf).granted + g.n < 2 ^ 32
granting_fits grants old now n g done low at within few =
    let gs : List Grant = g ∷ drop (suc n) grants in
    let same : leaves_after_grants 0 now gs ≡ leaves_after_grants 0 old grants = sym (ap (leaves_after_grants 0 now) (next_of grants n g low at)) ∙ done.rest in
    let end : (get_or (leaves_after_grants 0 now gs) g.list opening_leaf).granted < 2 ^ 32 =
    All-get_or (λ (a : Leaf). a.granted < 2 ^ 32) (leaves_after_grants 0 now gs) g.list opening_leaf (omega (arith, within, length-grants 0 now gs)) (subst (All (λ (a : Leaf). a.granted < 2 ^ 32)) (sym same) few) in
    let z : 0 + g.list ≡ g.list = omega arith in
    let sum : granted_in (0 + g.list) gs ≡ g.n + granted_in g.list (drop (suc n) grants) = ap (λ l. granted_in l gs) z ∙ granted_here g.list g (drop (suc n) grants) refl in
    omega (arith, end, get_or-grants 0 g.list now gs within, sum)

pub granting_all : (grants : List Grant) (old now : List Leaf) (n : ℕ) → IsGranting grants old now n → n ≡ length grants → now ≡ leaves_after_grants 0 old grants
granting_all grants old now n done all = sym (no_grants 0 now) ∙ sym (ap (leaves_after_grants 0 now) (ap (λ m. drop m grants) all ∙ drop-length grants)) ∙ done.rest
