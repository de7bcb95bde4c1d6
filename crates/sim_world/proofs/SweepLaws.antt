-- What a sweep has found: after a mark, with a fact more, and once all is marked.
use Rattle.std.proofs.Common.{◌≡◌, ℕ, zero, suc, ◌+◌, ◌-◌, ◌*◌, ◌<◌, ◌≤◌, ◌^◌, Bool, true, false, cond, List, [], ◌∷◌, ◌++◌, refl, sym, subst, arith}
use Rattle.std.specs.Prelude.{Some, Option, option_to_list, nat_lt}
use Rattle.std.proofs.lemmas.Option.{same_Some}
use Rattle.std.proofs.lemmas.Bool.Decides.{nat_tests}
use mathlib.Core.Logic.{dite}
use native.Mathlib.Decide.{dec_le}
use Rattle.octree_model.specs.Numbers.{has}
use Rattle.list_machine.specs.Words.{Word, item_in}
use Rattle.list_machine.specs.State.{Words}
use Rattle.list_machine.specs.Facts.{IsAt, Chain, claimed_chain, owned_chain, chain_of}
use Rattle.list_machine.specs.Steps.{IsNextMark, IsSweptPlace, mark_shows, with_stage}
use Rattle.list_machine.specs.Sweeps.{mark_index}
use Rattle.list_machine.specs.declared.views.Fact.{Fact}
use Rattle.list_machine.specs.declared.views.Fact.TheVariants.{Item, Empty}
use Rattle.list_machine.specs.declared.views.Leaf.{Leaf}
use Rattle.list_machine.specs.declared.views.Stage.{Stage}
use Rattle.list_machine.proofs.Lists.{at_same}
use Rattle.sim_world.specs.Stores.{IsIn}
use Rattle.sim_world.specs.Sweeps.{AreFound}
use Rattle.sim_world.proofs.Members.{has_here, has_left, has_right}
use Rattle.sim_world.proofs.LookLaws.{item_of}

-- nothing is marked yet
pub nothing_marked : (l : ℕ) (a : Leaf) (n : ℕ) (facts : List Fact) → AreFound l a n 0 [] facts
nothing_marked l a n facts y r c k x small knows here lt place low = absurd (omega arith)

-- two places of the sweep with one index are one
one_place : (a : Leaf) (n m : ℕ) (y z : Chain) (r q c d k h : ℕ) → IsAt (chain_of a y) r c → IsAt (chain_of a z) q d → k < 256 → h < 256
    → IsSweptPlace a n y (256 * r + k) → mark_index n y (256 * r + k) ≡ m → IsNextMark a n m z (256 * q + h) → (c ≡ d) × (k ≡ h)
one_place a n m claimed_chain claimed_chain r q c d k h here there lt lt' place is next =
    let e : r ≡ q = omega arith in (at_same a.claimed q c d (subst (λ (z : ℕ). IsAt a.claimed z c) e here) there, omega arith)
one_place a n m owned_chain owned_chain r q c d k h here there lt lt' place is next =
    let e : r ≡ q = omega arith in (at_same a.owned q c d (subst (λ (z : ℕ). IsAt a.owned z c) e here) there, omega arith)
one_place a n m claimed_chain owned_chain r q c d k h here there lt lt' place is next = absurd (omega arith)
one_place a n m owned_chain claimed_chain r q c d k h here there lt lt' place is next = absurd (omega arith)

-- a mark: what the slot holds is found
pub mark_finds : (w : Words) (l : ℕ) (a : Leaf) (n m : ℕ) (facts : List Fact) (found : List ℕ) (z : Chain) (q d h : ℕ)
    → AreFound l a n m found facts → IsAt (chain_of a z) q d → h < 256 → IsNextMark a n m z (256 * q + h)
    → ((c k x : ℕ) → IsIn facts (Item l c k x) → (w.slot c k).value ≡ x + 1)
    → AreFound l a n (suc m) (found ++ option_to_list (item_in (w.slot d h))) facts
mark_finds w l a n m facts found z q d h was at lt' next hold y r c k x small knows here lt place low =
    dite (dec_le m (mark_index n y (256 * r + k)))
    (λ le.
    let is : mark_index n y (256 * r + k) ≡ m = omega arith in
    let e = one_place a n m y z r q c d k h here at lt lt' place is next in
    let value : (w.slot d h).value ≡ x + 1 = subst (λ (z : ℕ × ℕ). (w.slot z.0 z.1).value ≡ x + 1) (λ t. (e.0 t, e.1 t)) (hold c k x knows) in
    let read : item_in (w.slot d h) ≡ Some x = item_of (w.slot d h) x value small in
    has_right x found _ (subst (λ (o : Option ℕ). has x (option_to_list o) ≡ true) (sym read) (has_here x [])))
    (λ ne. has_left x found _ (was y r c k x small knows here lt place (omega arith)))

-- a fact more, about a slot that is not marked yet
pub fact_more : (l : ℕ) (a : Leaf) (n m : ℕ) (facts : List Fact) (found : List ℕ) (g : Fact) → AreFound l a n m found facts
    → ((y : Chain) (r c k x : ℕ) → g ≡ Item l c k x → IsAt (chain_of a y) r c → k < 256 → IsSweptPlace a n y (256 * r + k) → m ≤ mark_index n y (256 * r + k))
    → AreFound l a n m found (g ∷ facts)
fact_more l a n m facts found g was ahead y r c k x small (zero, at) here lt place low =
    let no = ahead y r c k x (same_Some g (Item l c k x) at) here lt place in absurd (omega arith)
fact_more l a n m facts found g was ahead y r c k x small (suc q, at) here lt place low = was y r c k x small (q, at) here lt place low

-- all is marked
pub all_found : (l : ℕ) (a : Leaf) (n m : ℕ) (facts : List Fact) (found : List ℕ) → AreFound l a n m found facts → n + a.used ≤ m
    → (y : Chain) (r c k x : ℕ) → x < 2 ^ 32 → IsIn facts (Item l c k x) → IsAt (chain_of a y) r c → k < 256 → IsSweptPlace a n y (256 * r + k)
    → has x found ≡ true
all_found l a n m facts found was le claimed_chain r c k x small knows here lt place = was claimed_chain r c k x small knows here lt place (omega arith)
all_found l a n m facts found was le owned_chain r c k x small knows here lt place = was owned_chain r c k x small knows here lt place (omega arith)

-- another stage moves no chunk
pub restaged : (l : ℕ) (a : Leaf) (t : Stage) (n m : ℕ) (facts : List Fact) (found : List ℕ) → AreFound l a n m found facts
    → AreFound l (with_stage a t) n m found facts
restaged l a t n m facts found was claimed_chain = was claimed_chain
restaged l a t n m facts found was owned_chain = was owned_chain

-- what a mark shows is true
pub shown_value : (l h c k d i x : ℕ) (w : Word) → mark_shows h d i w ≡ Item l c k x → (h ≡ l) × (d ≡ c) × (i ≡ k) × (w.value ≡ x + 1)
shown_value l h c k d i x w e = by (nat_lt 0 w.value) refl e where
  by : (b : Bool) → nat_lt 0 w.value ≡ b → cond b (Item h d i (w.value - 1)) (Empty h d i) ≡ Item l c k x → (h ≡ l) × (d ≡ c) × (i ≡ k) × (w.value ≡ x + 1)
  by true some is = let low : 0 < w.value = grind (arith, nat_tests) in let less : w.value - 1 ≡ x = cc in (cc, cc, cc, omega arith)
  by false some is = absurd (cc)
