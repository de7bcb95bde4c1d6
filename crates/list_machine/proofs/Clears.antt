-- Clearing a list, word by word, and giving its chunks back keep the rule.
use Rattle.std.proofs.Common.{◌≡◌, ℕ, suc, ◌+◌, ◌*◌, ◌<◌, ◌≤◌, ◌≢◌, inr, ⊎_elim, true, false, List, [], ◌++◌, length, set, sym, refl, ap, ◌∙◌, subst, arith, nat_eq, eq-eqb}
use Rattle.std.specs.Prelude.{Some, not, filter}
use mathlib.Core.Logic.{dite}
use native.Mathlib.Decide.{ℕ_discrete}
use Rattle.list_machine.specs.Words.{Word, blank}
use Rattle.list_machine.specs.State.{Words, put_slot, put_link}
use Rattle.list_machine.specs.Facts.{IsAt, Chain, claimed_chain, owned_chain, chain_of, list_of, Holds, is_shut, place_of, Stands, Reached}
use Rattle.list_machine.specs.Rule.{IsWiped, HoldsAt, IsList, IsBegun, AreOrdered, IsOwned, AreKnown, Sound}
use Rattle.list_machine.specs.Steps.{with_leaf, with_stage, without_chains, after_first_clear, is_kept, HasEnded, IsUnreached}
use Rattle.list_machine.specs.declared.views.LinkWord.TheVariants.{OfList, OfChunk}
use Rattle.list_machine.specs.declared.views.Fact.{Fact}
use Rattle.list_machine.specs.declared.views.Fact.TheVariants.{Item, Link, Closed, Empty}
use Rattle.list_machine.specs.declared.views.Stage.{Stage}
use Rattle.list_machine.specs.declared.views.Stage.TheVariants.{Open, Swept, Cleared}
use Rattle.list_machine.specs.declared.views.Leaf.{Leaf}
use Rattle.list_machine.specs.declared.views.Owner.{Owner}
use Rattle.list_machine.specs.declared.views.Guest.{Guest}
use Rattle.list_machine.proofs.Puts.{put_here, putting, putting_slot}
use Rattle.list_machine.proofs.Lists.{at_same, at_set, each_set, at_set_same, at_set_other, at_below, at_left, at_right, at_nothing, at_filter}
use Rattle.list_machine.proofs.Stages.{stage_chain, stage_chain_was}
use Rattle.list_machine.proofs.Frames.{Elsewhere, in_both, lists_frame, lists_frame_same, known_frame, order_frame}
use Rattle.list_machine.proofs.Changes.{same_elsewhere, slot_elsewhere, link_elsewhere, next_elsewhere}
use Rattle.list_machine.proofs.Guests.{owner_knows}
use Rattle.list_machine.proofs.Seats.{total_one}

-- what may be known of a list once its clearing has begun
kept_is : (l : ℕ) (f : Fact) → is_kept l f ≡ true → list_of f ≡ l → f ≡ Closed (list_of f)
kept_is l (Item h c k x) e is = let z : not (nat_eq h l) ≡ false = ap not (eq-eqb h l is) in absurd (cc)
kept_is l (Link h from r c) e is = let z : not (nat_eq h l) ≡ false = ap not (eq-eqb h l is) in absurd (cc)
kept_is l (Closed h) e is = refl
kept_is l (Empty h c k) e is = let z : not (nat_eq h l) ≡ false = ap not (eq-eqb h l is) in absurd (cc)

-- that a list is shut stays where its claim word stays
closed_holds : (w w' : Words) (f : Fact) → w'.claim ≡ w.claim → f ≡ Closed (list_of f) → Holds w f → Holds w' f
closed_holds w w' f same is t = subst (Holds w') (sym is) (ap (λ (g : ℕ → Word). (g (list_of f)).high) same ∙ subst (Holds w) is t)

place_is : (p q f m : ℕ) → place_of (Swept q f m) ≡ Some p → q ≡ p
place_is p q f m e = cc

-- the clearing of the next list begins: its own link is cleared
module _ (w : Words) (o : Owner) (guests : List Guest) (s : Sound w o guests) (l f m : ℕ) (a : Leaf) (leaf : IsAt o.book.leaves l a) (shut : a.stage ≡ Swept o.book.cleared f m) (over : HasEnded o.book) (unreached : IsUnreached o) where
  abbrev leaves : List Leaf
  leaves = o.book.leaves

  abbrev cleared : ℕ
  cleared = o.book.cleared

  abbrev w' : Words
  w' = put_link w l OfList 0

  abbrev t' : Stage
  t' = Cleared cleared 1

  abbrev a' : Leaf
  a' = with_stage a t'

  -- a seat that is out was made later
  later : (j : ℕ) (v : Guest) → IsAt guests j v → v.out ≡ true → suc cleared ≤ v.birth
  later j v p out = let old = (s.counted.born j v p out).0 in dite (ℕ_discrete v.birth cleared)
      (λ e. let z = unreached v.birth (omega arith) in let t = s.counted.births v.birth in let u = total_one guests j v p out in absurd (omega arith)) (λ ne. omega arith)

  place_here : IsAt o.book.order cleared l
  place_here = s.shape.order.places l cleared a leaf (ap place_of shut)

  list : IsList (w'.claim l) (w'.first l) w'.next w'.slot a'
  list = let y = s.shape.lists.lists l a leaf in record {
    counted = y.counted;
    shown = y.shown ∙ ap is_shut shut;
    now = record {
      wiped_first = λ _. put_here w.first l 0;
      wiped_slots = λ r c k p lt lt'. absurd (omega arith);
      wiped_nexts = λ r c p lt'. absurd (omega arith);
    };
  }

  order' : AreOrdered (set leaves l a') o.book.order (suc cleared)
  order' = let y = s.shape.order in record {
    places = λ h p e at is. at_set leaves l h a' e (IsAt o.book.order p h) at
        (λ same d. let z : Some cleared ≡ Some p = ap (λ (x : Leaf). place_of x.stage) d ∙ is in let e0 : cleared ≡ p = cc in subst (λ (t : ℕ × ℕ). IsAt o.book.order t.0 t.1) (λ i. (e0 i, sym same i)) place_here)
        (λ ne old. y.places h p e old is);
    listed = λ p h at. let t = y.listed p h at in dite (ℕ_discrete h l)
        (λ is. (
          a',
          subst (λ (g : ℕ). IsAt (set leaves l a') g a') (sym is) (at_set_same leaves l a a' leaf),
          ap place_of (sym shut) ∙ (ap (λ (x : Leaf). place_of x.stage) (at_same leaves l a t.0 leaf (subst (λ (g : ℕ). IsAt leaves g t.0) is t.1)) ∙ t.2),
        ))
        (λ ne. (t.0, at_set_other leaves l h a' t.0 ne t.1, t.2));
    begun = each_set (λ (h : ℕ) (e : Leaf). IsBegun (suc cleared) e.stage) leaves l a' (λ h e ne at. later_begun h e ne at e.stage refl (y.begun h e at)) (omega arith);
    ended = λ h p n e at st lt. at_set leaves l h a' e ((e.claimed ≡ []) × (e.owned ≡ [])) at
        (λ same d. let z : Cleared cleared 1 ≡ Cleared p n = ap (λ (x : Leaf). x.stage) d ∙ st in let e0 : cleared ≡ p = cc in absurd (omega arith))
        (λ ne old. dite (ℕ_discrete (suc p) cleared) (λ is. over h p n e old st is) (λ n'. y.ended h p n e old st (omega arith)));
    within_order = at_below o.book.order cleared l place_here;
  } where
    later_begun : (h : ℕ) (e : Leaf) → h ≢ l → IsAt leaves h e → (t : Stage) → e.stage ≡ t → IsBegun cleared t → IsBegun (suc cleared) t
    later_begun h e ne at Open is b = tt
    later_begun h e ne at (Swept p g n) is b = dite (ℕ_discrete p cleared)
        (λ same. absurd (ne (at_same o.book.order cleared h l (s.shape.order.places h cleared e at (ap place_of is ∙ ap Some same)) place_here))) (λ other. omega arith)
    later_begun h e ne at (Cleared p n) is b = omega arith

  known' : AreKnown w' (set leaves l a') (filter (is_kept l) o.facts) guests
  known' = known_frame w w' leaves l a a' s.shape.lists leaf (link_elsewhere w l a OfList 0 0 refl) (filter (is_kept l) o.facts) guests
      (owner_knows w leaves o.facts (filter (is_kept l) o.facts) guests s.known (λ k g p. let t = at_filter (is_kept l) o.facts k g p in s.known.owner t.0 g t.1))
      (λ j v p out reached. let b = later j v p out in let z : v.birth ≤ cleared = subst (Reached v.birth) shut reached in absurd (omega arith))
      (λ k g p is t. let kept = kept_is l g (at_filter (is_kept l) o.facts k g p).2 is in (closed_holds w w' g refl kept t.0, inr kept))
      (s.known.granted l a leaf)

  pub first_clears : Sound w' (after_first_clear o l a) guests
  first_clears = record {
    shape = record {
      lists = lists_frame_same w w' leaves l a a' s.shape.lists leaf (link_elsewhere w l a OfList 0 0 refl) (stage_chain_was a t') (λ c has. (has.0, has.1, stage_chain a t' has.0 has.1 c has.2)) list refl;
      order = order';
    };
    known = known';
    counted = record { births = s.counted.births; numbers = s.counted.numbers; born = λ j v p out. (later j v p out, (s.counted.born j v p out).1) };
  }

-- the clearing goes on
module _ (w : Words) (o : Owner) (guests : List Guest) (s : Sound w o guests) (l p n : ℕ) (a : Leaf) (leaf : IsAt o.book.leaves l a) (begun : a.stage ≡ Cleared p n) where
  below : p < o.book.cleared
  below = subst (IsBegun o.book.cleared) begun (s.shape.order.begun l a leaf)

  wiped : IsWiped (w.first l) w.next w.slot a n
  wiped = subst (HoldsAt (w.claim l) (w.first l) w.next w.slot a) begun (s.shape.lists.lists l a leaf).now

  -- no seat that is out reaches the list
  far : (j : ℕ) (v : Guest) → IsAt guests j v → v.out ≡ true → Reached v.birth a.stage → ⊥
  far j v at out reached = let b = (s.counted.born j v at out).0 in let z : v.birth ≤ p = subst (Reached v.birth) begun reached in let lt = below in omega arith

  -- and of its facts the owner has only that it is shut
  only_closed : (g : Fact) → IsOwned w g a → g ≡ Closed (list_of g)
  only_closed g t = ⊎_elim (λ z. absurd (subst Stands begun z.0)) (λ is. is) t.1

  -- the known facts, whatever words of the list are cleared
  known_on : (w' : Words) (a' : Leaf) → Elsewhere w w' l a → w'.claim ≡ w.claim → a'.granted ≡ a.granted → AreKnown w' (set o.book.leaves l a') o.facts guests
  known_on w' a' other same same' = known_frame w w' o.book.leaves l a a' s.shape.lists leaf other o.facts guests s.known
      (λ j v at out reached. absurd (far j v at out reached))
      (λ k g at is t. let kept = only_closed g t in (closed_holds w w' g same kept t.0, inr kept))
      (let old = s.known.granted l a leaf in let e : (w'.claim l).value ≡ (w.claim l).value = ap (λ (g : ℕ → Word). (g l).value) same in omega arith)

  abbrev wiped_more : Stage
  wiped_more = Cleared p (suc n)

  abbrev leaf_more : Leaf
  leaf_more = with_stage a wiped_more

  one_word : (w' : Words) → Elsewhere w w' l a → w'.claim ≡ w.claim → w'.first ≡ w.first → IsWiped (w.first l) w'.next w'.slot leaf_more (suc n) → Sound w' (with_leaf o l leaf_more) guests
  one_word w' other same first_same list = record {
    shape = record {
      lists = lists_frame_same w w' o.book.leaves l a leaf_more s.shape.lists leaf other (stage_chain_was a wiped_more) (λ c has. (has.0, has.1, stage_chain a wiped_more has.0 has.1 c has.2))
          (let y = s.shape.lists.lists l a leaf in record {
            counted = subst (λ (g : ℕ → Word). (g l).value ≤ a.granted) (sym same) y.counted;
            shown = ap (λ (g : ℕ → Word). (g l).high) same ∙ (y.shown ∙ ap is_shut begun);
            now = subst (λ (g : ℕ → ℕ). IsWiped (g l) w'.next w'.slot leaf_more (suc n)) (sym first_same) list;
          }) refl;
      order = order_frame o.book.leaves o.book.order o.book.cleared l a leaf_more leaf s.shape.order (ap place_of (sym begun)) below
          (λ q i st lt. let e0 : p ≡ q = cc in s.shape.order.ended l p n a leaf begun (omega arith));
    };
    known = known_on w' leaf_more other same refl;
    counted = s.counted;
  }

  module _ (r c : ℕ) (here : IsAt (a.claimed ++ a.owned) r c) where
    -- the next word is a slot
    pub slot_clears : (k : ℕ) → k < 256 → n ≡ 257 * r + k + 1 → Sound (put_slot w c k blank) (with_leaf o l leaf_more) guests
    slot_clears k lt is_next = one_word (put_slot w c k blank) (slot_elsewhere w l a c k blank (in_both a r c here)) refl refl (record {
      wiped_first = λ _. wiped.wiped_first (omega arith);
      wiped_slots = λ q d j at lt' h. putting_slot w.slot c k blank d j (λ (x : Word). x ≡ blank) (λ _ _. refl)
          (λ never. wiped.wiped_slots q d j at lt' (dite (ℕ_discrete (257 * q + j + 1) n)
          (λ e. let e1 : q ≡ r = omega arith in let e2 : j ≡ k = omega arith in absurd (never (at_same (a.claimed ++ a.owned) r d c (subst (λ (i : ℕ). IsAt (a.claimed ++ a.owned) i d) e1 at) here) e2)) (λ ne. omega arith)));
      wiped_nexts = λ q d at h. wiped.wiped_nexts q d at (dite (ℕ_discrete (257 * q + 257) n) (λ e. absurd (omega arith)) (λ ne. omega arith));
    })

    -- or a link
    pub link_clears : n ≡ 257 * r + 257 → Sound (put_link w l (OfChunk c) 0) (with_leaf o l leaf_more) guests
    link_clears is_next = one_word (put_link w l (OfChunk c) 0) (next_elsewhere w l a c 0 (in_both a r c here)) refl refl (record {
      wiped_first = λ _. wiped.wiped_first (omega arith);
      wiped_slots = λ q d j at lt' h. wiped.wiped_slots q d j at lt' (dite (ℕ_discrete (257 * q + j + 1) n) (λ e. absurd (omega arith)) (λ ne. omega arith));
      wiped_nexts = λ q d at h. putting w.next c 0 d (λ (x : ℕ). x ≡ 0) (λ _. refl)
          (λ never. wiped.wiped_nexts q d at (dite (ℕ_discrete (257 * q + 257) n)
          (λ e. let e1 : q ≡ r = omega arith in absurd (never (at_same (a.claimed ++ a.owned) r d c (subst (λ (i : ℕ). IsAt (a.claimed ++ a.owned) i d) e1 at) here))) (λ ne. omega arith)));
    })

  -- all words are cleared, and the chunks are free
  module _ (all : n ≡ 257 * length (a.claimed ++ a.owned) + 1) where
    abbrev e' : Leaf
    e' = without_chains a

    none_in : (x : Chain) (r c : ℕ) → IsAt (chain_of e' x) r c → ⊥
    none_in claimed_chain r c at = at_nothing r c at
    none_in owned_chain r c at = at_nothing r c at

    in_all : (x : Chain) (r c : ℕ) → IsAt (chain_of a x) r c → (q : ℕ) × IsAt (a.claimed ++ a.owned) q c
    in_all claimed_chain r c at = (r, at_left a.claimed a.owned r c at)
    in_all owned_chain r c at = (length a.claimed + r, at_right a.claimed a.owned r c at)

    pub clearing_ends : Sound w (with_leaf o l e') guests
    clearing_ends = record {
      shape = record {
        lists = lists_frame w w o.book.leaves l a e' s.shape.lists leaf (same_elsewhere w l a) claimed_chain 0 0 (λ x r c at. absurd (none_in x r c at))
            (let y = s.shape.lists.lists l a leaf in record {
              counted = y.counted;
              shown = y.shown;
              now = subst (HoldsAt (w.claim l) (w.first l) w.next w.slot e') (sym begun) (record { wiped_first = wiped.wiped_first; wiped_slots = λ r c k at. absurd (at_nothing r c at); wiped_nexts = λ r c at. absurd (at_nothing r c at) });
            }) refl
            (λ c has never. let t = in_all has.0 has.1 c has.2 in let lt = at_below (a.claimed ++ a.owned) t.0 c t.1 in (wiped.wiped_nexts t.0 c t.1 (omega arith), λ k lt'. wiped.wiped_slots t.0 c k t.1 lt' (omega arith)));
        order = order_frame o.book.leaves o.book.order o.book.cleared l a e' leaf s.shape.order refl (s.shape.order.begun l a leaf) (λ q i st lt. (refl, refl));
      };
      known = known_on w e' (same_elsewhere w l a) refl refl;
      counted = s.counted;
    }
