-- Every step keeps the rule, and what a seat knows stays true.
use Rattle.std.proofs.Common.{◌≡◌, ℕ, suc, Bool, true, false, cond, List, [], ◌∷◌, set, sym, refl, ap, ◌∙◌, subst}
use mathlib.Core.Logic.{dite}
use native.Mathlib.Decide.{ℕ_discrete}
use Rattle.list_machine.specs.Facts.{IsAt, Holds}
use Rattle.list_machine.specs.Machine.{State, IsSound, Step, claims, files, misses, reads, places, adopts, links, shuts, marks, first_clears, slot_clears, link_clears, clearing_ends, splits, joins, Run, none, more}
use Rattle.list_machine.specs.Steps.{newcomer, nobody, guest_with, after_claim}
use Rattle.list_machine.specs.declared.views.Unfiled.TheVariants.{Nothing}
use Rattle.list_machine.specs.declared.views.Fact.TheVariants.{Item, Link, Closed, Empty}
use Rattle.list_machine.specs.declared.views.Fact.{Fact}
use Rattle.list_machine.specs.declared.views.Guest.{Guest}
use Rattle.list_machine.proofs.Lists.{at_same, at_set_same, at_set_other, at_left}
use Rattle.list_machine.proofs.Claims.{claims as claims_sound}
use Rattle.list_machine.proofs.Fills.{files as files_sound, files_late as files_late_sound, places as places_sound}
use Rattle.list_machine.proofs.LinkReads.{reads as reads_sound}
use Rattle.list_machine.proofs.Links.{adopts as adopts_sound, links as links_sound}
use Rattle.list_machine.proofs.Shuts.{shuts_list as shuts_list_sound}
use Rattle.list_machine.proofs.Marks.{marks as marks_sound}
use Rattle.list_machine.proofs.Clears.{clearing_ends as clearing_ends_sound, first_clears as first_clears_sound, link_clears as link_clears_sound, slot_clears as slot_clears_sound}
use Rattle.list_machine.proofs.Seats.{joins as joins_sound, splits as splits_sound}

pub step_sound : (s t : State) → IsSound s → Step s t → IsSound t
step_sound s t sound (claims j l v at idle has) = claims_sound s.words s.owner s.guests sound j l v at idle has
step_sound s t sound (files j l r c k x v at claim lt chunk was) = files_sound s.words s.owner s.guests sound j l r c k v at claim lt chunk x was
step_sound s t sound (misses j l r c k v at claim lt chunk ne) = files_late_sound s.words s.owner s.guests sound j l r c k v at claim lt chunk ne
step_sound s t sound (reads j l r c from v at out knows found) = reads_sound s.words s.owner s.guests sound j l v at out from r c knows found
step_sound s t sound (places l r c k x a leaf unshut here lt is_next) = places_sound s.words s.owner s.guests sound l r c k x a leaf unshut here lt is_next
step_sound s t sound (adopts l c a leaf unshut free small) = adopts_sound s.words s.owner s.guests sound l c a leaf unshut free small
step_sound s t sound (links l c from a leaf unshut free small last) = links_sound s.words s.owner s.guests sound l c a leaf unshut free small from last
step_sound s t sound (shuts l a leaf unshut) = shuts_list_sound s.words s.owner s.guests sound l a leaf unshut
step_sound s t sound (marks l p f m r c k x a leaf shut here lt is_next) = marks_sound s.words s.owner s.guests sound l p f m r c k a x leaf shut here lt is_next
step_sound s t sound (first_clears l f m a leaf shut over unreached) = first_clears_sound s.words s.owner s.guests sound l f m a leaf shut over unreached
step_sound s t sound (slot_clears l p n r c k a leaf begun here lt is_next) = slot_clears_sound s.words s.owner s.guests sound l p n a leaf begun r c here k lt is_next
step_sound s t sound (link_clears l p n r c a leaf begun here is_next) = link_clears_sound s.words s.owner s.guests sound l p n a leaf begun r c here is_next
step_sound s t sound (clearing_ends l p n a leaf begun all) = clearing_ends_sound s.words s.owner s.guests sound l p n a leaf begun all
step_sound s t sound (splits gs fit) = splits_sound s.words s.owner s.guests sound gs fit
step_sound s t sound (joins j v at out) = joins_sound s.words s.owner s.guests sound j v at out

-- a guest keeps its facts for as long as it is out
abbrev pub Keeps : Guest → Guest → Type 0
Keeps v u = u.out ≡ true → (v.out ≡ true) × ((k : ℕ) (f : Fact) → IsAt v.facts k f → (q : ℕ) × IsAt u.facts q f)

abbrev Kept : List Guest → List Guest → Type 0
Kept before after = (j : ℕ) (v : Guest) → IsAt before j v → (u : Guest) × IsAt after j u × Keeps v u

all_kept : (guests : List Guest) → Kept guests guests
all_kept guests j v at = (v, at, λ out. (out, λ k f p. (k, p)))

one_kept : (guests : List Guest) (i : ℕ) (v v' : Guest) → IsAt guests i v → Keeps v v' → Kept guests (set guests i v')
one_kept guests i v v' at keeps j u p = dite (ℕ_discrete j i)
    (λ e. (v', subst (λ (k : ℕ). IsAt (set guests i v') k v') (sym e) (at_set_same guests i v v' at), subst (λ (x : Guest). Keeps x v') (at_same guests i v u at (subst (λ (k : ℕ). IsAt guests k u) e p)) keeps))
    (λ ne. (u, at_set_other guests i j v' u ne p, λ out. (out, λ k f q. (k, q))))

-- with these facts more, or the same
one_fact : (guests : List Guest) (i : ℕ) (v v' : Guest) (f : Fact) → IsAt guests i v → v'.out ≡ v.out → v'.facts ≡ f ∷ v.facts → Kept guests (set guests i v')
one_fact guests i v v' f at out facts = one_kept guests i v v' at (λ is. (sym out ∙ is, λ k g p. (suc k, subst (λ (fs : List Fact). IsAt fs (suc k) g) (sym facts) p)))

fact_if : (b : Bool) (g : Fact) (fs : List Fact) (k : ℕ) (f : Fact) → IsAt fs k f → (q : ℕ) × IsAt (cond b (g ∷ fs) fs) q f
fact_if true g fs k f p = (suc k, p)
fact_if false g fs k f p = (k, p)

step_kept : (s t : State) → Step s t → Kept s.guests t.guests
step_kept s t (claims j l v at idle has) = one_kept s.guests j v (after_claim v l (s.words.claim l)) at (λ out. (out, λ k f p. fact_if (s.words.claim l).high (Closed l) v.facts k f p))
step_kept s t (files j l r c k x v at claim lt chunk was) = one_fact s.guests j v (guest_with v Nothing (Item l c k x ∷ v.facts)) (Item l c k x) at refl refl
step_kept s t (misses j l r c k v at claim lt chunk ne) = one_fact s.guests j v (guest_with v Nothing (Empty l c k ∷ v.facts)) (Empty l c k) at refl refl
step_kept s t (reads j l r c from v at out knows found) = one_fact s.guests j v (guest_with v v.claim (Link l from r c ∷ v.facts)) (Link l from r c) at refl refl
step_kept s t (places l r c k x a leaf unshut here lt is_next) = all_kept s.guests
step_kept s t (adopts l c a leaf unshut free small) = all_kept s.guests
step_kept s t (links l c from a leaf unshut free small last) = all_kept s.guests
step_kept s t (shuts l a leaf unshut) = all_kept s.guests
step_kept s t (marks l p f m r c k x a leaf shut here lt is_next) = all_kept s.guests
step_kept s t (first_clears l f m a leaf shut over unreached) = all_kept s.guests
step_kept s t (slot_clears l p n r c k a leaf begun here lt is_next) = all_kept s.guests
step_kept s t (link_clears l p n r c a leaf begun here is_next) = all_kept s.guests
step_kept s t (clearing_ends l p n a leaf begun all) = all_kept s.guests
step_kept s t (splits gs fit) = λ j v at. (v, at_left s.guests (newcomer s.owner gs ∷ []) j v at, λ out. (out, λ k f p. (k, p)))
step_kept s t (joins j v at out) = one_kept s.guests j v nobody at (λ is. absurd (cc))

pub run_sound : (s t : State) → IsSound s → Run s t → IsSound t
run_sound s t sound none = sound
run_sound s t sound (more m t' run step) = step_sound m t (run_sound s m sound run) step

run_kept : (s t : State) → Run s t → Kept s.guests t.guests
run_kept s t none = all_kept s.guests
run_kept s t (more m t' run step) = λ j v at. let a = run_kept s m run j v at in let b = step_kept m t step j a.0 a.1 in
    (b.0, b.1, λ out. let y = b.2 out in let x = a.2 y.0 in (x.0, λ k f p. let q = x.1 k f p in y.1 q.0 f q.1))

-- what a guest knows stays true for as long as it is out
pub facts_outlast : (s t : State) (j k : ℕ) (v u : Guest) (f : Fact) → IsSound s → Run s t → IsAt s.guests j v → IsAt v.facts k f → IsAt t.guests j u → u.out ≡ true → Holds t.words f
facts_outlast s t j k v u f sound run at known at' out =
    let a = run_kept s t run j v at in
    let same = at_same t.guests j a.0 u a.1 at' in
    let kept = a.2 (ap (λ (g : Guest). g.out) same ∙ out) in
    let q = kept.1 k f known in
    let y = (run_sound s t sound run).known.seats j a.0 a.1 in
    (y.facts q.0 f q.1).2.holds
