-- Where a sweep has marked all places, no slot of the list changes until the clearing of the list begins.
use Rattle.std.proofs.Common.{◌≡◌, ℕ, suc, ◌+◌, ◌*◌, ◌<◌, ◌≤◌, ◌≢◌, true, false, List, length, set, sym, refl, ap, ◌∙◌, subst, arith}
use mathlib.Core.Logic.{dite}
use native.Mathlib.Decide.{dec_le}
use Rattle.list_machine.specs.Words.{Word, blank, holding, raised}
use Rattle.list_machine.specs.State.{put}
use Rattle.list_machine.specs.Facts.{IsAt, Chain, claimed_chain, owned_chain, chain_of, HasChunk, Stands}
use Rattle.list_machine.specs.Grants.{granted_in}
use Rattle.list_machine.specs.Machine.{State, IsSound, Step, claims, files, misses, reads, places, adopts, links, shuts, marks, first_clears, slot_clears, link_clears, clearing_ends, splits, joins, Run, none, more}
use Rattle.list_machine.specs.Steps.{KnowsChunk, IsNextMark, IsGrantable, leaves_after_grants, with_stage, with_claimed, with_owned, with_one_used, with_grant, without_chains}
use Rattle.list_machine.specs.declared.views.Fact.TheVariants.{Link}
use Rattle.list_machine.specs.declared.views.Grant.{Grant}
use Rattle.list_machine.specs.declared.views.Leaf.{Leaf}
use Rattle.list_machine.specs.declared.views.Guest.{Guest}
use Rattle.list_machine.specs.declared.views.Stage.TheVariants.{Open, Swept, Cleared}
use Rattle.list_machine.specs.declared.views.Unfiled.TheVariants.{Place}
use Rattle.list_machine.proofs.Keeping.{run_sound}
use Rattle.list_machine.proofs.Lists.{at_same, at_set_same, at_set_other, at_both}
use Rattle.list_machine.proofs.Outlasting.{was_up}
use Rattle.list_machine.proofs.Puts.{putting_slot}
use Rattle.list_machine.proofs.Seats.{granting_at}
use Rattle.list_machine.proofs.Sweeps.{is_marked}

-- a list with no more grants is as it was
no_grant : (a : Leaf) (n : ℕ) → n ≡ 0 → with_grant a n ≡ a
no_grant a n e = λ i. record a { granted = (let z : a.granted + n ≡ a.granted = omega arith in z) i }

-- a slot that another slot's change leaves alone
slot_same : (slot : ℕ → ℕ → Word) (c k d j : ℕ) (x : Word) → (d ≡ c → j ≡ k → ⊥) → put slot c (put (slot c) k x) d j ≡ slot d j
slot_same slot c k d j x never = putting_slot slot c k x d j (λ (y : Word). y ≡ slot d j) (λ e e'. absurd (never e e')) (λ _. refl)

module _ (s : State) (sound : IsSound s) (l p f m : ℕ) (a : Leaf) (leaf : IsAt s.owner.book.leaves l a) (shut : a.stage ≡ Swept p f m) (all : f + a.used ≤ m) where
  abbrev leaves : List Leaf
  leaves = s.owner.book.leaves

  -- it is neither open nor being cleared, and no mark is left
  not_open : (h : ℕ) (b : Leaf) → IsAt leaves h b → b.stage ≡ Open → l ≢ h
  not_open h b at opened is = let same = at_same leaves h b a at (subst (λ (k : ℕ). IsAt leaves k a) is leaf) in
      let e : Open ≡ Swept p f m = sym opened ∙ (ap (λ (x : Leaf). x.stage) same ∙ shut) in absurd (cc)

  not_cleared : (h q n : ℕ) (b : Leaf) → IsAt leaves h b → b.stage ≡ Cleared q n → l ≢ h
  not_cleared h q n b at begun is = let same = at_same leaves h b a at (subst (λ (k : ℕ). IsAt leaves k a) is leaf) in
      let e : Cleared q n ≡ Swept p f m = sym begun ∙ (ap (λ (x : Leaf). x.stage) same ∙ shut) in absurd (cc)

  not_next : (h q g n i : ℕ) (x : Chain) (b : Leaf) → IsAt leaves h b → b.stage ≡ Swept q g n → IsNextMark b g n x i → l ≢ h
  not_next h q g n i x b at swept next is =
      let same = at_same leaves h b a at (subst (λ (k : ℕ). IsAt leaves k a) is leaf) in
      let e : Swept q g n ≡ Swept p f m = sym swept ∙ (ap (λ (y : Leaf). y.stage) same ∙ shut) in
      let found : g ≡ f = cc in let marks : n ≡ m = cc in
      let used : b.used ≡ a.used = ap (λ (y : Leaf). y.used) same in
      by x next (omega arith) where
        by : (y : Chain) → IsNextMark b g n y i → g + b.used ≤ n → ⊥
        by claimed_chain t le = let t0 = t.0 in let t1 = t.1 in omega arith
        by owned_chain t le = let t0 = t.0 in let t1 = t.1 in omega arith

  -- so a step that changes a list leaves this one alone
  other : (h : ℕ) (b : Leaf) → l ≢ h → IsAt (set leaves h b) l a
  other h b ne = at_set_other leaves h l b a ne leaf

  granted_none : (gs : List Grant) → IsGrantable leaves gs → granted_in l gs ≡ 0
  granted_none gs fit = dite (dec_le 1 (granted_in l gs)) (λ some. let t = fit.lists l some in absurd (not_open l t.0 t.1 t.2 refl)) (λ none. omega arith)

  pub leaf_stays : (t : State) (e : Leaf) → Step s t → IsAt t.owner.book.leaves l e → Stands e.stage → IsAt t.owner.book.leaves l a
  leaf_stays t e (claims j h v at' idle has) at up = leaf
  leaf_stays t e (files j h r c k x v at' claim lt chunk was) at up = leaf
  leaf_stays t e (misses j h r c k v at' claim lt chunk ne) at up = leaf
  leaf_stays t e (reads j h r c from v at' out knows found) at up = leaf
  leaf_stays t e (places h r c k x b there unshut here lt is_next) at up = other h (with_one_used b) (not_open h b there unshut)
  leaf_stays t e (adopts h c b there unshut free small) at up = other h (with_owned b c) (not_open h b there unshut)
  leaf_stays t e (links h c from b there unshut free small last) at up = other h (with_claimed b c) (not_open h b there unshut)
  leaf_stays t e (shuts h b there unshut) at up = other h (with_stage b (Swept (length s.owner.book.order) (s.words.claim h).value 0)) (not_open h b there unshut)
  leaf_stays t e (marks h q g n r c k x b there swept here lt is_next) at up = other h (with_stage b (Swept q g (suc n))) (not_next h q g n (256 * r + k) x b there swept is_next)
  leaf_stays t e (first_clears h g n b there swept over unreached) at up = other h (with_stage b (Cleared s.owner.book.cleared 1)) (λ is.
      let new : Leaf = with_stage b (Cleared s.owner.book.cleared 1) in
      let same = at_same (set leaves h new) h e new (subst (λ (k : ℕ). IsAt (set leaves h new) k e) is at) (at_set_same leaves h b new there) in
      subst (λ (x : Leaf). Stands x.stage) same up)
  leaf_stays t e (slot_clears h q n r c k b there begun here lt is_next) at up = other h (with_stage b (Cleared q (suc n))) (not_cleared h q n b there begun)
  leaf_stays t e (link_clears h q n r c b there begun here is_next) at up = other h (with_stage b (Cleared q (suc n))) (not_cleared h q n b there begun)
  leaf_stays t e (clearing_ends h q n b there begun every) at up = other h (without_chains b) (not_cleared h q n b there begun)
  leaf_stays t e (splits gs fit) at up = subst (λ (x : Leaf). IsAt (leaves_after_grants 0 leaves gs) l x) (no_grant a (granted_in l gs) (granted_none gs fit)) (granting_at leaves gs 0 l l a (omega arith) leaf)
  leaf_stays t e (joins j v at' out) at up = leaf

  -- a slot of the list
  module _ (y : Chain) (r c k : ℕ) (here : IsAt (chain_of a y) r c) (lt : k < 256) where
    -- its chunk is in no other list
    mine : (h : ℕ) (b : Leaf) → IsAt leaves h b → HasChunk b c → l ≡ h
    mine h b at has = (sound.shape.lists.once l h a b y has.0 r has.1 c leaf at here has.2).0

    elsewhere : (h d j : ℕ) (b : Leaf) → IsAt leaves h b → HasChunk b d → l ≢ h → c ≡ d → k ≡ j → ⊥
    elsewhere h d j b at has ne same _ = ne (mine h b at (subst (HasChunk b) (sym same) has))

    -- nobody files into it
    not_filed : (j h q d i : ℕ) (v : Guest) → IsAt s.guests j v → v.claim ≡ Place h (256 * q + i) → i < 256 → KnowsChunk v h q d → s.words.slot d i ≡ blank → c ≡ d → k ≡ i → ⊥
    not_filed j h q d i v at claim small knows empty same same' =
        let known = (sound.known.seats j v at).facts knows.0 (Link h knows.1 q d) knows.2 in
        let within : IsAt known.0.claimed q d = known.2.within.1 in
        let is = mine h known.0 known.1 (claimed_chain, q, subst (λ (z : ℕ). IsAt known.0.claimed q z) (sym same) within) in
        let one = at_same leaves h known.0 a known.1 (subst (λ (z : ℕ). IsAt leaves z a) is leaf) in
        let place = (sound.known.seats j v at).claim h (256 * q + i) claim in
        let one' = at_same leaves h place.0 a place.1 (subst (λ (z : ℕ). IsAt leaves z a) is leaf) in
        let low = place.2.before p f m (ap (λ (x : Leaf). x.stage) one' ∙ shut) in
        let high = is_marked s sound l p f m a leaf shut claimed_chain q d i (subst (λ (x : Leaf). IsAt x.claimed q d) one within) small low (omega arith) in
        let no : false ≡ true = ap (λ (x : Word). x.high) (sym empty) ∙ high in absurd (cc)

    pub slot_stays : (t : State) → Step s t → t.words.slot c k ≡ s.words.slot c k
    slot_stays t (claims j h v at' idle has) = refl
    slot_stays t (files j h q d i x v at' claim small knows was) = slot_same s.words.slot d i c k (holding x) (not_filed j h q d i v at' claim small knows was)
    slot_stays t (misses j h q d i v at' claim small knows ne) = refl
    slot_stays t (reads j h q d from v at' out knows found) = refl
    slot_stays t (places h q d i x b there unshut at small is_next) = slot_same s.words.slot d i c k (holding x) (elsewhere h d i b there (owned_chain, q, at) (not_open h b there unshut))
    slot_stays t (adopts h d b there unshut free small) = refl
    slot_stays t (links h d from b there unshut free small last) = refl
    slot_stays t (shuts h b there unshut) = refl
    slot_stays t (marks h q g n u d i x b there swept at small is_next) = slot_same s.words.slot d i c k (raised (s.words.slot d i)) (elsewhere h d i b there (x, u, at) (not_next h q g n (256 * u + i) x b there swept is_next))
    slot_stays t (first_clears h g n b there swept over unreached) = refl
    slot_stays t (slot_clears h q n u d i b there begun at small is_next) = slot_same s.words.slot d i c k blank (elsewhere h d i b there
        (at_both b.claimed b.owned u d (HasChunk b d) at (λ j z. (claimed_chain, j, z)) (λ j z. (owned_chain, j, z))) (not_cleared h q n b there begun))
    slot_stays t (link_clears h q n u d b there begun at is_next) = refl
    slot_stays t (clearing_ends h q n b there begun every) = refl
    slot_stays t (splits gs fit) = refl
    slot_stays t (joins j v at' out) = refl

-- and so for all steps until the list is cleared
pub done_stays : (s t : State) (l p f m : ℕ) (a e : Leaf) → IsSound s → Run s t → IsAt s.owner.book.leaves l a → a.stage ≡ Swept p f m → f + a.used ≤ m
    → IsAt t.owner.book.leaves l e → Stands e.stage → IsAt t.owner.book.leaves l a × ((y : Chain) (r c k : ℕ) → IsAt (chain_of a y) r c → k < 256 → t.words.slot c k ≡ s.words.slot c k)
done_stays s t l p f m a e sound none leaf shut all at up = (leaf, λ y r c k here lt. refl)
done_stays s t l p f m a e sound (more u t' run step) leaf shut all at up =
    let was = was_up u t l e step at up in
    let old = done_stays s u l p f m a was.0 sound run leaf shut all was.1 was.2 in
    let now = run_sound s u sound run in
    (leaf_stays u now l p f m a old.0 shut all t e step at up, λ y r c k here lt. slot_stays u now l p f m a old.0 shut all y r c k here lt t step ∙ old.1 y r c k here lt)
