-- The sweep of a list step by step: its own marks, and what guests claim, file and read meanwhile; and what it has found at the end.
use Rattle.std.proofs.Common.{◌≡◌, ℕ, zero, suc, ◌+◌, ◌*◌, ◌<◌, ◌≤◌, ◌^◌, ◌⊎◌, inl, inr, ⊎_elim, not, ◌&&◌, nat_eq, set, Bool, true, false, cond, List, [], ◌∷◌, ◌++◌, refl, sym, ap, ◌∙◌, subst, arith}
use Rattle.std.specs.Prelude.{option_to_list, slice_get}
use Rattle.std.proofs.lemmas.Bool.Decides.{nat_tests}
use Rattle.std.proofs.lemmas.Option.{same_Some}
use Rattle.octree_model.specs.Numbers.{has}
use Rattle.list_machine.specs.Words.{Word, blank, item_in}
use Rattle.list_machine.specs.Facts.{IsAt, Chain, chain_of}
use Rattle.list_machine.specs.Machine.{State, IsSound}
use Rattle.list_machine.specs.Moves.{guest_in, leaf_in, is_blank, next_mark, slot_marked, marked_by, marked_at, place_claimed, filed_if, item_filed, link_read}
use Rattle.list_machine.specs.Steps.{IsNextMark, mark_shows, with_stage, guest_with, after_claim, nobody}
use Rattle.list_machine.specs.Sweeps.{mark_index}
use Rattle.list_machine.specs.declared.views.Fact.{Fact}
use Rattle.list_machine.specs.declared.views.Fact.TheVariants.{Item, Link, Closed, Empty}
use Rattle.list_machine.specs.declared.views.Guest.{Guest}
use Rattle.list_machine.specs.declared.views.Leaf.{Leaf}
use Rattle.list_machine.specs.declared.views.LinkWord.{LinkWord}
use Rattle.list_machine.specs.declared.views.Stage.{Stage}
use Rattle.list_machine.specs.declared.views.Stage.TheVariants.{Swept}
use Rattle.list_machine.specs.declared.views.Unfiled.TheVariants.{Nothing}
use Rattle.list_machine.proofs.Bits.{word_by_parts}
use Rattle.list_machine.proofs.Knowledge.{item_is_swept, owner_holds, guest_holds}
use Rattle.list_machine.proofs.Lists.{at_set, at_set_same, or_is}
use Rattle.list_machine.proofs.Moves.{leaf_is, next_mark_is}
use Rattle.list_machine.proofs.Sweeps.{guest_item_is_swept, blank_is_ahead, next_is_alone}
use Rattle.sim_world.specs.Publications.{item_at_mark}
use Rattle.sim_world.specs.Stores.{IsIn}
use Rattle.sim_world.specs.Sweeps.{AreFound, IsSweeping}
use Rattle.sim_world.specs.Whereabouts.{Knows}
use Rattle.sim_world.proofs.SweepLaws.{nothing_marked, mark_finds, fact_more, all_found, restaged, shown_value}

blank_is : (x : Word) → is_blank x ≡ true → x ≡ blank
blank_is x e = by x.high refl e where
  by : (b : Bool) → x.high ≡ b → (nat_eq x.value 0 && not x.high) ≡ true → x ≡ blank
  by b h e = word_by_parts _ _ _ _ (grind (arith, nat_tests)) (grind arith)

-- with no mark made, nothing need be found
pub sweep_begins : (s : State) (l p n : ℕ) (a : Leaf) → IsAt s.owner.book.leaves l a → a.stage ≡ Swept p n 0 → IsSweeping s l p n 0 []
sweep_begins s l p n a at stage = record {
  leaf = a;
  at = at;
  stage = stage;
  owner = nothing_marked l a n s.owner.facts;
  guests = λ j v here. nothing_marked l a n v.facts;
}

module _ (s : State) (sound : IsSound s) (l p n m : ℕ) (found : List ℕ) (is : IsSweeping s l p n m found) where
  abbrev a : Leaf
  a = is.leaf

  -- each fact about a slot is true
  owner_value : (c k x : ℕ) → IsIn s.owner.facts (Item l c k x) → (s.words.slot c k).value ≡ x + 1
  owner_value c k x q = owner_holds s.words s.owner s.guests sound q.0 (Item l c k x) q.1

  guest_value : (j : ℕ) (v : Guest) → IsAt s.guests j v → (c k x : ℕ) → IsIn v.facts (Item l c k x) → (s.words.slot c k).value ≡ x + 1
  guest_value j v at c k x q = guest_holds s.words s.owner s.guests sound j q.0 v (Item l c k x) at q.1

  -- ---- the next slot is marked

  module _ (y : Chain) (r c k : ℕ) (here : IsAt (chain_of a y) r c) (lt : k < 256) (next : IsNextMark a n m y (256 * r + k)) where
    abbrev fact : Fact
    fact = mark_shows l c k (s.words.slot c k)

    abbrev more : List ℕ
    more = found ++ option_to_list (item_in (s.words.slot c k))

    -- the fact that the owner gets is about the slot that is marked
    with_shown : AreFound l a n m found (fact ∷ s.owner.facts)
    with_shown = fact_more l a n m s.owner.facts found fact is.owner (λ z q d i x e at lt' place.
        let t = shown_value l l d i c k x (s.words.slot c k) e in
        let alone : mark_index n z (256 * q + k) ≡ m =
        next_is_alone s sound l p n m a is.at is.stage z y q r c k (subst (λ (u : ℕ). IsAt (chain_of a z) q u) (sym t.1) at) here next in
        let same : mark_index n z (256 * q + i) ≡ m = ap (λ (u : ℕ). mark_index n z (256 * q + u)) (sym t.2) ∙ alone in
        omega arith)

    shown_holds : (d i x : ℕ) → IsIn (fact ∷ s.owner.facts) (Item l d i x) → (s.words.slot d i).value ≡ x + 1
    shown_holds d i x (zero, q) =
        let t = shown_value l l d i c k x (s.words.slot c k) (same_Some fact (Item l d i x) q) in
        subst (λ (z : ℕ × ℕ). (s.words.slot z.0 z.1).value ≡ x + 1) (λ u. (t.1 u, t.2 u)) t.3
    shown_holds d i x (suc q, at) = owner_value d i x (q, at)

    marked_sweeping : (s' : State) → IsAt s'.owner.book.leaves l (with_stage a (Swept p n (suc m))) → s'.owner.facts ≡ fact ∷ s.owner.facts
        → s'.guests ≡ s.guests
        → IsSweeping s' l p n (suc m) more
    marked_sweeping s' at facts guests = record {
      leaf = with_stage a (Swept p n (suc m));
      at = at;
      stage = refl;
      owner = subst (AreFound l (with_stage a (Swept p n (suc m))) n (suc m) more) (sym facts)
          (restaged l a (Swept p n (suc m)) n (suc m) (fact ∷ s.owner.facts) more
          (mark_finds s.words l a n m (fact ∷ s.owner.facts) found y r c k with_shown here lt next shown_holds));
      guests = λ j v here'.
          let was : IsAt s.guests j v = subst (λ (gs : List Guest). IsAt gs j v) guests here' in
          restaged l a (Swept p n (suc m)) n (suc m) v.facts more
          (mark_finds s.words l a n m v.facts found y r c k (is.guests j v was) here lt next (guest_value j v was));
    }

  -- the sweep goes on: what the marked slot has is found
  pub mark_goes_on : m < n + a.used → IsSweeping (slot_marked s l) l p n (suc m) (found ++ item_at_mark s l (leaf_in s l).stage)
  mark_goes_on some =
      let e : a ≡ leaf_in s l = leaf_is s l a is.at in
      let stage : (leaf_in s l).stage ≡ Swept p n m = ap (λ (z : Leaf). z.stage) (sym e) ∙ is.stage in
      subst (λ (t : Stage). IsSweeping (marked_by s l t) l p n (suc m) (found ++ item_at_mark s l t)) (sym stage)
      (subst (λ (z : Leaf). IsSweeping (marked_at s l p n m (next_mark z n m)) l p n (suc m)
      (found ++ option_to_list (item_in (s.words.slot (next_mark z n m).0 (next_mark z n m).1)))) e
      (by (next_mark a n m).0 (next_mark a n m).1 (next_mark_is s sound l p n m a is.at is.stage some))) where
        by : (c k : ℕ) → (x : Chain) × (r : ℕ) × IsAt (chain_of a x) r c × (k < 256) × IsNextMark a n m x (256 * r + k)
            → IsSweeping (marked_at s l p n m (c, k)) l p n (suc m) (found ++ option_to_list (item_in (s.words.slot c k)))
        by c k t = marked_sweeping t.0 t.1 c k t.2 t.3 t.4 (marked_at s l p n m (c, k))
            (subst (λ (z : Leaf). IsAt (marked_at s l p n m (c, k)).owner.book.leaves l (with_stage z (Swept p n (suc m)))) (sym (leaf_is s l a is.at))
            (at_set_same s.owner.book.leaves l a (with_stage (leaf_in s l) (Swept p n (suc m))) is.at))
            refl refl

  -- ---- meanwhile a guest makes a step

  -- it gets facts that place nothing at a marked place
  guest_step : (s' : State) (j : ℕ) (v : Guest) → s'.owner ≡ s.owner → ((i : ℕ) (u : Guest) → IsAt s'.guests i u → IsAt s.guests i u ⊎ (u ≡ v))
      → AreFound l a n m found v.facts
      → IsSweeping s' l p n m found
  guest_step s' j v owner guests facts = record {
    leaf = a;
    at = ap (λ (o : _). slice_get o.book.leaves l) owner ∙ is.at;
    stage = is.stage;
    owner = subst (λ (o : _). AreFound l a n m found o.facts) (sym owner) is.owner;
    guests = λ i u at. ⊎_elim (λ was. is.guests i u was) (λ e. subst (λ (g : Guest). AreFound l a n m found g.facts) (sym e) facts) (guests i u at);
  }

  set_guest : (j : ℕ) (v : Guest) (i : ℕ) (u : Guest) → IsAt (set s.guests j v) i u → IsAt s.guests i u ⊎ (u ≡ v)
  set_guest j v i u at = at_set s.guests j i v u _ at (λ same e. inr (sym e)) (λ ne was. inl was)

  -- a fact of another kind places nothing
  other_fact : (facts : List Fact) (g : Fact) → ((c k x : ℕ) → g ≡ Item l c k x → ⊥) → AreFound l a n m found facts → AreFound l a n m found (g ∷ facts)
  other_fact facts g none was = fact_more l a n m facts found g was (λ y r c k x e at lt place. absurd (none c k x e))

  guest_facts : (j : ℕ) (v : Guest) → IsAt s.guests j v → AreFound l a n m found (guest_in s j).facts
  guest_facts j v at = subst (λ (g : Guest). AreFound l a n m found g.facts) (sym (or_is s.guests j v nobody at)) (is.guests j v at)

  pub claim_goes_on : (j h : ℕ) (v : Guest) → IsAt s.guests j v → IsSweeping (place_claimed s j h) l p n m found
  claim_goes_on j h v at = guest_step (place_claimed s j h) j (after_claim (guest_in s j) h (s.words.claim h)) refl (set_guest j _)
      (by (s.words.claim h).high (guest_facts j v at)) where
        by : (b : Bool) → AreFound l a n m found (guest_in s j).facts → AreFound l a n m found (cond b (Closed h ∷ (guest_in s j).facts) (guest_in s j).facts)
        by true was = other_fact (guest_in s j).facts (Closed h) (λ c k x e. absurd (cc)) was
        by false was = was

  pub read_goes_on : (j h r c : ℕ) (from : LinkWord) (v : Guest) → IsAt s.guests j v → IsSweeping (link_read s j h from r c) l p n m found
  read_goes_on j h r c from v at =
      let g : Guest = guest_with (guest_in s j) (guest_in s j).claim (Link h from r c ∷ (guest_in s j).facts) in
      guest_step (link_read s j h from r c) j g refl (set_guest j g)
      (other_fact (guest_in s j).facts (Link h from r c) (λ d k x e. absurd (cc)) (guest_facts j v at))

  -- a filing into a blank slot: the slot is not marked
  pub file_goes_on : (j h c k x : ℕ) (v : Guest) → IsAt s.guests j v → IsSweeping (item_filed s j h c k x) l p n m found
  file_goes_on j h c k x v at = by (is_blank (s.words.slot c k)) refl where
    by : (b : Bool) → is_blank (s.words.slot c k) ≡ b → IsSweeping (filed_if b s j h c k x) l p n m found
    by true e =
        let g : Guest = guest_with (guest_in s j) Nothing (Item h c k x ∷ (guest_in s j).facts) in
        guest_step (filed_if true s j h c k x) j g refl (set_guest j g)
        (fact_more l a n m (guest_in s j).facts found (Item h c k x) (guest_facts j v at) (λ y r d i z is' here lt place.
        let chunk : c ≡ d = cc in
        let number : k ≡ i = cc in
        blank_is_ahead s sound l p n m a is.at is.stage y r d i here lt place
        (ap (λ (u : ℕ). s.words.slot u i) (sym chunk) ∙ (ap (λ (u : ℕ). s.words.slot c u) (sym number) ∙ blank_is (s.words.slot c k) e))))
    by false e =
        let g : Guest = guest_with (guest_in s j) Nothing (Empty h c k ∷ (guest_in s j).facts) in
        guest_step (filed_if false s j h c k x) j g refl (set_guest j g)
        (other_fact (guest_in s j).facts (Empty h c k) (λ d i z is'. absurd (cc)) (guest_facts j v at))

  -- ---- at the end each item that somebody knows to be in the list was found

  module _ (done : n + a.used ≤ m) where
    pub owner_found : (x : ℕ) → x < 2 ^ 32 → Knows s.owner.facts l x → has x found ≡ true
    owner_found x small (c, k, q) =
        let t = item_is_swept s.words s.owner s.guests sound l c k x p n m q.0 a q.1 is.at is.stage in
        all_found l a n m s.owner.facts found is.owner done t.0 t.1 c k x small q t.2 t.3 t.4

    pub guest_found : (j : ℕ) (v : Guest) → IsAt s.guests j v → (x : ℕ) → x < 2 ^ 32 → Knows v.facts l x → has x found ≡ true
    guest_found j v at x small (c, k, q) =
        let t = guest_item_is_swept s sound l p n m a is.at is.stage j c k x q.0 v at q.1 in
        all_found l a n m v.facts found (is.guests j v at) done t.0 t.1 c k x small q t.2 t.3 t.4
