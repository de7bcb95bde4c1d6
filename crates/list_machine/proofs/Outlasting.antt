-- What the owner knows of a list stays true until the clearing of the list begins.
use Rattle.std.proofs.Common.{◌≡◌, ℕ, zero, suc, ◌+◌, ◌≢◌, Bool, true, false, cond, List, [], ◌∷◌, length, set, sym, refl, ap, ◌∙◌, subst, arith}
use Rattle.std.specs.Prelude.{filter, slice_get}
use Rattle.std.proofs.lemmas.Bool.Decides.{nat_tests}
use Rattle.std.proofs.lemmas.Option.{none-some, same_Some}
use mathlib.Core.Logic.{dite}
use native.Mathlib.Decide.{ℕ_discrete}
use Rattle.list_machine.specs.Facts.{IsAt, Holds, Stands, list_of}
use Rattle.list_machine.specs.Machine.{State, IsSound, Step, claims, files, misses, reads, places, adopts, links, shuts, marks, first_clears, slot_clears, link_clears, clearing_ends, splits, joins, Run, none, more}
use Rattle.list_machine.specs.Steps.{is_kept, with_stage, with_claimed, with_owned, with_one_used, without_chains}
use Rattle.list_machine.specs.declared.views.Fact.{Fact}
use Rattle.list_machine.specs.declared.views.Fact.TheVariants.{Item, Link, Closed, Empty}
use Rattle.list_machine.specs.declared.views.Leaf.{Leaf}
use Rattle.list_machine.specs.declared.views.Stage.TheVariants.{Swept, Cleared}
use Rattle.list_machine.proofs.Keeping.{run_sound}
use Rattle.list_machine.proofs.Lists.{at_same, at_set, at_set_same, at_right}
use Rattle.list_machine.proofs.Seats.{each_granting}

-- a list that is not cleared
abbrev pub IsUp : List Leaf → ℕ → Type 0
IsUp leaves l = (a : Leaf) × IsAt leaves l a × Stands a.stage

up_set : (leaves : List Leaf) (h l : ℕ) (a b e : Leaf) → IsAt leaves h a → (Stands b.stage → Stands a.stage) → IsAt (set leaves h b) l e → Stands e.stage → IsUp leaves l
up_set leaves h l a b e leaf back at up = at_set leaves h l b e (IsUp leaves l) at
    (λ same is. (a, subst (λ (k : ℕ). IsAt leaves k a) (sym same) leaf, back (subst (λ (x : Leaf). Stands x.stage) (sym is) up)))
    (λ ne old. (e, old, up))

-- it was not cleared before a step either
pub was_up : (s t : State) (l : ℕ) (e : Leaf) → Step s t → IsAt t.owner.book.leaves l e → Stands e.stage → IsUp s.owner.book.leaves l
was_up s t l e (claims j h v at' idle has) at up = (e, at, up)
was_up s t l e (files j h r c k x v at' claim lt chunk was) at up = (e, at, up)
was_up s t l e (misses j h r c k v at' claim lt chunk ne) at up = (e, at, up)
was_up s t l e (reads j h r c from v at' out knows found) at up = (e, at, up)
was_up s t l e (places h r c k x a leaf unshut here lt is_next) at up = up_set s.owner.book.leaves h l a (with_one_used a) e leaf (λ z. z) at up
was_up s t l e (adopts h c a leaf unshut free small) at up = up_set s.owner.book.leaves h l a (with_owned a c) e leaf (λ z. z) at up
was_up s t l e (links h c from a leaf unshut free small last) at up = up_set s.owner.book.leaves h l a (with_claimed a c) e leaf (λ z. z) at up
was_up s t l e (shuts h a leaf unshut) at up = up_set s.owner.book.leaves h l a (with_stage a (Swept (length s.owner.book.order) (s.words.claim h).value 0)) e leaf (λ _. subst Stands (sym unshut) tt) at up
was_up s t l e (marks h p f m r c k x a leaf shut here lt is_next) at up = up_set s.owner.book.leaves h l a (with_stage a (Swept p f (suc m))) e leaf (λ _. subst Stands (sym shut) tt) at up
was_up s t l e (first_clears h f m a leaf shut over unreached) at up = up_set s.owner.book.leaves h l a (with_stage a (Cleared s.owner.book.cleared 1)) e leaf (λ z. absurd z) at up
was_up s t l e (slot_clears h p n r c k a leaf begun here lt is_next) at up = up_set s.owner.book.leaves h l a (with_stage a (Cleared p (suc n))) e leaf (λ z. absurd z) at up
was_up s t l e (link_clears h p n r c a leaf begun here is_next) at up = up_set s.owner.book.leaves h l a (with_stage a (Cleared p (suc n))) e leaf (λ z. absurd z) at up
was_up s t l e (clearing_ends h p n a leaf begun all) at up = up_set s.owner.book.leaves h l a (without_chains a) e leaf (λ z. z) at up
was_up s t l e (splits gs fit) at up = each_granting (λ (k : ℕ) (x : Leaf). Stands x.stage → IsUp s.owner.book.leaves k) s.owner.book.leaves gs 0 (λ i m a is q z. (a, q, z)) l e at up
was_up s t l e (joins j v at' out) at up = (e, at, up)

-- a fact that a filter keeps
kept_in : (test : Fact → Bool) (fs : List Fact) (q : ℕ) (f : Fact) → IsAt fs q f → test f ≡ true → (k : ℕ) × IsAt (filter test fs) k f
kept_in test [] q f at keep = absurd (none-some f at)
kept_in test (g ∷ fs) zero f at keep = let is : test g ≡ true = ap test (same_Some g f at) ∙ keep in (0, ap (λ (b : Bool). slice_get (cond b (g ∷ filter test fs) (filter test fs)) 0) is ∙ at)
kept_in test (g ∷ fs) (suc q) f at keep = by (test g) (kept_in test fs q f at keep) where
  by : (b : Bool) → (k : ℕ) × IsAt (filter test fs) k f → (k : ℕ) × IsAt (cond b (g ∷ filter test fs) (filter test fs)) k f
  by true t = (suc t.0, t.1)
  by false t = t

kept_else : (h : ℕ) (f : Fact) → list_of f ≢ h → is_kept h f ≡ true
kept_else h (Item l c k x) ne = grind (arith, nat_tests)
kept_else h (Link l from r c) ne = grind (arith, nat_tests)
kept_else h (Closed l) ne = refl
kept_else h (Empty l c k) ne = grind (arith, nat_tests)

-- the owner keeps what it knows of such a list
still_known : (s t : State) (q : ℕ) (f : Fact) (e : Leaf) → Step s t → IsAt s.owner.facts q f → IsAt t.owner.book.leaves (list_of f) e → Stands e.stage → (k : ℕ) × IsAt t.owner.facts k f
still_known s t q f e (claims j h v at' idle has) at leaf' up = (q, at)
still_known s t q f e (files j h r c k x v at' claim lt chunk was) at leaf' up = (q, at)
still_known s t q f e (misses j h r c k v at' claim lt chunk ne) at leaf' up = (q, at)
still_known s t q f e (reads j h r c from v at' out knows found) at leaf' up = (q, at)
still_known s t q f e (places h r c k x a leaf unshut here lt is_next) at leaf' up = (suc q, at)
still_known s t q f e (adopts h c a leaf unshut free small) at leaf' up = (q, at)
still_known s t q f e (links h c from a leaf unshut free small last) at leaf' up = (suc q, at)
still_known s t q f e (shuts h a leaf unshut) at leaf' up = (suc q, at)
still_known s t q f e (marks h p g m r c k x a leaf shut here lt is_next) at leaf' up = (suc q, at)
still_known s t q f e (first_clears h g m a leaf shut over unreached) at leaf' up = dite (ℕ_discrete (list_of f) h)
    (λ same.
    let b : Leaf = with_stage a (Cleared s.owner.book.cleared 1) in
    let is = at_same (set s.owner.book.leaves h b) h e b (subst (λ (k : ℕ). IsAt (set s.owner.book.leaves h b) k e) same leaf') (at_set_same s.owner.book.leaves h a b leaf) in
    absurd (subst (λ (x : Leaf). Stands x.stage) is up))
    (λ ne. kept_in (is_kept h) s.owner.facts q f at (kept_else h f ne))
still_known s t q f e (slot_clears h p n r c k a leaf begun here lt is_next) at leaf' up = (q, at)
still_known s t q f e (link_clears h p n r c a leaf begun here is_next) at leaf' up = (q, at)
still_known s t q f e (clearing_ends h p n a leaf begun all) at leaf' up = (q, at)
still_known s t q f e (splits gs fit) at leaf' up = (q, at)
still_known s t q f e (joins j v at' out) at leaf' up = (length v.facts + q, at_right v.facts s.owner.facts q f at)

run_known : (s t : State) (q : ℕ) (f : Fact) (e : Leaf) → Run s t → IsAt s.owner.facts q f → IsAt t.owner.book.leaves (list_of f) e → Stands e.stage → (k : ℕ) × IsAt t.owner.facts k f
run_known s t q f e none at leaf up = (q, at)
run_known s t q f e (more m t' run step) at leaf up =
    let was = was_up m t (list_of f) e step leaf up in
    let y = run_known s m q f was.0 run at was.1 was.2 in
    still_known m t y.0 f e step y.1 leaf up

pub owner_outlasts : (s t : State) (q : ℕ) (f : Fact) (e : Leaf) → IsSound s → Run s t → IsAt s.owner.facts q f → IsAt t.owner.book.leaves (list_of f) e → Stands e.stage
    → (k : ℕ) × IsAt t.owner.facts k f × Holds t.words f
owner_outlasts s t q f e sound run at leaf up =
    let y = run_known s t q f e run at leaf up in
    (y.0, y.1, ((run_sound s t sound run).known.owner y.0 f y.1).2.0)
