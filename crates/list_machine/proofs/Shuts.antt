-- Shutting a list keeps the rule.
use Rattle.std.proofs.Common.{◌≡◌, ℕ, zero, suc, ◌+◌, ◌<◌, ◌≤◌, inl, inr, ⊎_elim, true, List, [], ◌∷◌, ◌++◌, length, length-append, get_or, set, sym, refl, ap, ◌∙◌, subst, arith}
use Rattle.std.specs.Prelude.{None, Some}
use Rattle.std.proofs.lemmas.Option.{none-some, same_Some}
use mathlib.Core.Logic.{dite}
use native.Mathlib.Decide.{ℕ_discrete}
use Rattle.list_machine.specs.Words.{Word, raised}
use Rattle.list_machine.specs.State.{Words, put_claim}
use Rattle.list_machine.specs.Grants.{granted_in}
use Rattle.list_machine.specs.Facts.{IsAt, total, claimed_chain, owned_chain, Holds, Within, place_of}
use Rattle.list_machine.specs.Rule.{IsList, IsBegun, AreLists, AreOrdered, AreKnown, AreCounted, Sound}
use Rattle.list_machine.specs.Steps.{with_stage, after_shut}
use Rattle.list_machine.specs.declared.views.Fact.{Fact}
use Rattle.list_machine.specs.declared.views.Fact.TheVariants.{Closed}
use Rattle.list_machine.specs.declared.views.Stage.TheVariants.{Open, Swept, Cleared}
use Rattle.list_machine.specs.declared.views.Leaf.{Leaf}
use Rattle.list_machine.specs.declared.views.Owner.{Owner}
use Rattle.list_machine.specs.declared.views.Guest.{Guest}
use Rattle.list_machine.proofs.Puts.{put_here}
use Rattle.list_machine.proofs.Lists.{at_set, each_set, at_set_same, at_left, at_more, at_last}
use Rattle.list_machine.proofs.Stages.{as_open, swept_same, stage_chain, stage_chain_was, within_more}
use Rattle.list_machine.proofs.Frames.{lists_frame_same, known_frame, of_leaf}
use Rattle.list_machine.proofs.Bits.{word_by_parts}
use Rattle.list_machine.proofs.Changes.{claim_elsewhere}
use Rattle.list_machine.proofs.Claims.{claim_word_holds}
use Rattle.list_machine.proofs.Guests.{owner_learns}

-- a count of 0 at the end is one that was read as 0 before
one_longer : (xs : List ℕ) (b : ℕ) → get_or (xs ++ 0 ∷ []) b 0 ≡ get_or xs b 0
one_longer [] zero = refl
one_longer [] (suc b) = refl
one_longer (x ∷ xs) zero = refl
one_longer (x ∷ xs) (suc b) = one_longer xs b

module _ (w : Words) (o : Owner) (guests : List Guest) (s : Sound w o guests) (l : ℕ) (a : Leaf) (leaf : IsAt o.book.leaves l a) (unshut : a.stage ≡ Open) where
  abbrev x : Word
  x = w.claim l

  abbrev n : ℕ
  n = x.value

  abbrev shuts : ℕ
  shuts = length o.book.order

  abbrev a' : Leaf
  a' = with_stage a (Swept shuts n 0)

  abbrev w' : Words
  w' = put_claim w l (raised x)

  abbrev leaves' : List Leaf
  leaves' = set o.book.leaves l a'

  list : IsList (raised x) (w.first l) w.next w.slot a'
  list = let y = s.shape.lists.lists l a leaf in let z = as_open x (w.first l) w.next w.slot a unshut y in record {
    counted = y.counted;
    shown = refl;
    now = (
      record { filled = z.0.filled; unused = z.0.unused; used = z.0.used; room = z.0.room; linked = z.0.linked; ended = z.0.ended; small = λ c has. z.0.small c (has.0, has.1, stage_chain_was a (Swept shuts n 0) has.0 has.1 c has.2) },
      record {
        marked = λ r c k q lt f' m'. absurd (omega arith);
        marked_owned = λ r c k q lt m'. absurd (omega arith);
        unmarked = λ r c k q lt m'. z.1 c k (claimed_chain, r, q) lt;
        unmarked_owned = λ r c k q lt m'. z.1 c k (owned_chain, r, q) lt;
        past = λ r c k q lt f'. word_by_parts _ _ _ _ (dite (ℕ_discrete (w.slot c k).value 0) (λ e. e) (λ ne. let b = z.0.filled r c k q lt ne in absurd (omega arith))) (z.1 c k (claimed_chain, r, q) lt);
        within_claims = omega arith;
        within_slots = omega arith;
      },
    );
  }

  within_on : (f : Fact) → Within a f → Within a' f
  within_on f h = within_more a a' (stage_chain a (Swept shuts n 0)) f h

  holds_on : (f : Fact) → Holds w f → Holds w' f
  holds_on f t = claim_word_holds w l (raised x) f (λ _. refl) t

  lists' : AreLists w' leaves'
  lists' = lists_frame_same w w' o.book.leaves l a a' s.shape.lists leaf (claim_elsewhere w l a (raised x)) (stage_chain_was a (Swept shuts n 0)) (λ c has. (has.0, has.1, stage_chain a (Swept shuts n 0) has.0 has.1 c has.2))
      (subst (λ (y : Word). IsList y (w.first l) w.next w.slot a') (sym (put_here w.claim l (raised x))) list) refl

  known' : AreKnown w' leaves' o.facts guests
  known' = known_frame w w' o.book.leaves l a a' s.shape.lists leaf (claim_elsewhere w l a (raised x)) o.facts guests s.known
      (λ j v p out reached. record {
        reached = (s.counted.born j v p out).1;
        facts = λ f is inside t. (within_on f inside, holds_on f t);
        claim = λ i e t. record {
          reached = (s.counted.born j v p out).1;
          below = subst (λ (y : Word). i < y.value) (sym (put_here w.claim l (raised x))) t.below;
          vacant = t.vacant;
          before = λ q g m st. let z = (swept_same shuts n 0 q g m st).1 in let b = t.below in omega arith;
        };
      })
      (λ k f p is t. (holds_on f t.0, ⊎_elim (λ z. inl (tt, within_on f z.1)) inr t.1))
      (subst (λ (y : Word). y.value + total (λ (v : Guest). granted_in l v.grants) guests ≤ a.granted) (sym (put_here w.claim l (raised x))) (s.known.granted l a leaf))

  order' : AreOrdered leaves' (o.book.order ++ l ∷ []) o.book.cleared
  order' = let y = s.shape.order in record {
    places = λ h p e at is. at_set o.book.leaves l h a' e (IsAt (o.book.order ++ l ∷ []) p h) at
        (λ same d. let z : Some shuts ≡ Some p = ap (λ (q : Leaf). place_of q.stage) d ∙ is in let e0 = same_Some shuts p z in subst (λ (t : ℕ × ℕ). IsAt (o.book.order ++ l ∷ []) t.0 t.1) (λ i. (e0 i, sym same i)) (at_last o.book.order l))
        (λ ne old. at_left o.book.order (l ∷ []) p h (y.places h p e old is));
    listed = λ p h at. at_more o.book.order l p h ((e : Leaf) × IsAt leaves' h e × (place_of e.stage ≡ Some p)) at
        (λ old. of_leaf o.book.leaves l h a a' (λ e. place_of e.stage ≡ Some p) (λ e. place_of e.stage ≡ Some p) leaf (y.listed p h old) (λ ne e at t. t)
        (λ is t. let z : None ≡ Some p = ap place_of (sym unshut) ∙ t in absurd (none-some p z)))
        (λ e0 e1. (a', subst (λ (h : ℕ). IsAt leaves' h a') e1 (at_set_same o.book.leaves l a a' leaf), ap Some (sym e0)));
    begun = each_set (λ (h : ℕ) (e : Leaf). IsBegun o.book.cleared e.stage) o.book.leaves l a' (λ h e _ at. y.begun h e at) y.within_order;
    ended = λ h p m. each_set (λ (h : ℕ) (e : Leaf). e.stage ≡ Cleared p m → suc p < o.book.cleared → (e.claimed ≡ []) × (e.owned ≡ [])) o.book.leaves l a' (λ h e _ at. y.ended h p m e at) (λ st. absurd (cc)) h;
    within_order = let z = y.within_order in omega (arith, length-append o.book.order (l ∷ []));
  }

  counted' : AreCounted (length (o.book.order ++ l ∷ [])) o.book.cleared (o.out ++ 0 ∷ []) guests
  counted' = let y = s.counted in record {
    births = λ b. y.births b ∙ sym (one_longer o.out b);
    numbers = let z = y.numbers in omega (arith, length-append o.out (0 ∷ []), length-append o.book.order (l ∷ []));
    born = λ j v p out. let z = y.born j v p out in (z.0, let z1 = z.1 in omega (arith, length-append o.book.order (l ∷ [])));
  }

  pub shuts_list : Sound w' (after_shut o l a n) guests
  shuts_list = record {
    shape = record { lists = lists'; order = order' };
    known = owner_learns w' leaves' o.facts guests (Closed l) known' (a', at_set_same o.book.leaves l a a' leaf, (subst (λ (y : Word). y.high ≡ true) (sym (put_here w.claim l (raised x))) refl, inl (tt, tt)));
    counted = counted';
  }
