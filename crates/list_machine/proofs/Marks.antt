-- A mark keeps the rule.
use Rattle.std.proofs.Common.{◌≡◌, ℕ, suc, ◌+◌, ◌-◌, ◌*◌, ◌<◌, ◌≤◌, inl, inr, ⊎_elim, Bool, true, false, cond, List, set, sym, refl, ap, ◌∙◌, subst, arith}
use Rattle.std.specs.Prelude.{nat_lt}
use Rattle.std.proofs.lemmas.Bool.Decides.{nat_tests}
use mathlib.Core.Logic.{dite}
use native.Mathlib.Decide.{ℕ_discrete}
use Rattle.list_machine.specs.Words.{Word, blank, raised}
use Rattle.list_machine.specs.State.{Words, put, put_slot}
use Rattle.list_machine.specs.Facts.{IsAt, Chain, claimed_chain, owned_chain, chain_of, HasChunk, list_of, Holds, Within, is_shut, place_of, Reached}
use Rattle.list_machine.specs.Rule.{IsSwept, IsList, IsBegun, AreLists, AreKnown, IsOwned, OfLeaf, Sound}
use Rattle.list_machine.specs.Steps.{with_leaf, with_stage, with_fact, IsNextMark, mark_shows}
use Rattle.list_machine.specs.declared.views.Fact.{Fact}
use Rattle.list_machine.specs.declared.views.Fact.TheVariants.{Item, Link, Closed, Empty}
use Rattle.list_machine.specs.declared.views.Stage.{Stage}
use Rattle.list_machine.specs.declared.views.Stage.TheVariants.{Swept}
use Rattle.list_machine.specs.declared.views.Leaf.{Leaf}
use Rattle.list_machine.specs.declared.views.Owner.{Owner}
use Rattle.list_machine.specs.declared.views.Guest.{Guest}
use Rattle.list_machine.proofs.Bits.{word_by_parts}
use Rattle.list_machine.proofs.Puts.{putting_slot}
use Rattle.list_machine.proofs.Lists.{at_same, at_set_same}
use Rattle.list_machine.proofs.Stages.{as_swept, swept_same, stage_chain, stage_chain_was, within_more}
use Rattle.list_machine.proofs.Frames.{lists_frame_same, known_frame, order_frame}
use Rattle.list_machine.proofs.Changes.{slot_elsewhere}
use Rattle.list_machine.proofs.Fills.{OwnOnce, own_once}
use Rattle.list_machine.proofs.Guests.{owner_learns}

module _ (slot : ℕ → ℕ → Word) (c k : ℕ) where
  abbrev marked_slot : ℕ → ℕ → Word
  marked_slot = put slot c (put (slot c) k (raised (slot c k)))

  pub value_on : (d j : ℕ) → (marked_slot d j).value ≡ (slot d j).value
  value_on d j = putting_slot slot c k (raised (slot c k)) d j (λ (x : Word). x.value ≡ (slot d j).value) (λ e e'. λ i. (slot (sym e i) (sym e' i)).value) (λ _. refl)

  pub high_on : (d j : ℕ) → (slot d j).high ≡ true → (marked_slot d j).high ≡ true
  high_on d j h = putting_slot slot c k (raised (slot c k)) d j (λ (x : Word). x.high ≡ true) (λ _ _. refl) (λ _. h)

-- a fact stays where a slot is marked
pub mark_holds : (w : Words) (c k : ℕ) (f : Fact) → Holds w f → Holds (put_slot w c k (raised (w.slot c k))) f
mark_holds w c k (Item l d j y) t = value_on w.slot c k d j ∙ t
mark_holds w c k (Link l from r d) t = t
mark_holds w c k (Closed l) t = t
mark_holds w c k (Empty l d j) t = word_by_parts _ _ _ _ (value_on w.slot c k d j ∙ ap (λ (x : Word). x.value) t) (high_on w.slot c k d j (ap (λ (x : Word). x.high) t))

module _ (claim : Word) (first : ℕ) (next : ℕ → ℕ) (slot : ℕ → ℕ → Word) (a : Leaf) (p f m r c k : ℕ) (y : Chain) (own : OwnOnce a) (here : IsAt (chain_of a y) r c) (lt : k < 256) (is_next : IsNextMark a f m y (256 * r + k)) where
  abbrev slot' : ℕ → ℕ → Word
  slot' = marked_slot slot c k

  abbrev a' : Leaf
  a' = with_stage a (Swept p f (suc m))

  -- a place of one chain that is the place of the mark has the slot of the mark
  same_slot : (z : Chain) (q d j : ℕ) → y ≡ z → IsAt (chain_of a z) q d → j < 256 → 256 * q + j ≡ 256 * r + k → (d ≡ c → j ≡ k → ⊥) → ⊥
  same_slot z q d j is at lt' e never = let e1 : q ≡ r = omega arith in let e2 : j ≡ k = omega arith in
      never (at_same (chain_of a z) q d c at (subst (λ (i : ℕ). IsAt (chain_of a z) i c) (sym e1) (subst (λ (t : Chain). IsAt (chain_of a t) r c) is here))) e2

  by_mark : (z : Chain) → (F : Type 0) → y ≡ z → (IsNextMark a f m z (256 * r + k) → F) → F
  by_mark z F is g = g (subst (λ (t : Chain). IsNextMark a f m t (256 * r + k)) is is_next)

  marked_before : (z : IsSwept claim slot a f m) (q d j : ℕ) → IsAt a.claimed q d → j < 256 → 256 * q + j < f → 256 * q + j < suc m → (slot' d j).high ≡ true
  marked_before z q d j at lt' lf lm = putting_slot slot c k (raised (slot c k)) d j (λ (x : Word). x.high ≡ true) (λ _ _. refl) (λ never. by y refl never) where
    by : (t : Chain) → y ≡ t → (d ≡ c → j ≡ k → ⊥) → (slot d j).high ≡ true
    by claimed_chain e never = by_mark claimed_chain ((slot d j).high ≡ true) e (λ t. let t0 = t.0 in z.marked q d j at lt' lf
        (dite (ℕ_discrete (256 * q + j) m) (λ is. absurd (same_slot claimed_chain q d j e at lt' (is ∙ sym t0) never)) (λ ne. omega arith)))
    by owned_chain e never = by_mark owned_chain ((slot d j).high ≡ true) e (λ t. let t0 = t.0 in z.marked q d j at lt' lf (omega arith))

  marked_owned_before : (z : IsSwept claim slot a f m) (q d j : ℕ) → IsAt a.owned q d → j < 256 → f + (256 * q + j) < suc m → (slot' d j).high ≡ true
  marked_owned_before z q d j at lt' lm = putting_slot slot c k (raised (slot c k)) d j (λ (x : Word). x.high ≡ true) (λ _ _. refl) (λ never. by y refl never) where
    by : (t : Chain) → y ≡ t → (d ≡ c → j ≡ k → ⊥) → (slot d j).high ≡ true
    by claimed_chain e never = by_mark claimed_chain ((slot d j).high ≡ true) e (λ t. let t0 = t.0 in let t1 = t.1 in absurd (omega arith))
    by owned_chain e never = by_mark owned_chain ((slot d j).high ≡ true) e (λ t. let t0 = t.0 in z.marked_owned q d j at lt'
        (dite (ℕ_discrete (f + (256 * q + j)) m) (λ is. absurd (same_slot owned_chain q d j e at lt' (omega arith) never)) (λ ne. omega arith)))

  -- a place behind the mark does not have the slot of the mark
  unmarked_behind : (z : IsSwept claim slot a f m) (q d j : ℕ) → IsAt a.claimed q d → j < 256 → suc m ≤ 256 * q + j → (slot' d j).high ≡ false
  unmarked_behind z q d j at lt' behind = putting_slot slot c k (raised (slot c k)) d j (λ (x : Word). x.high ≡ false)
      (λ e e'. let t = own claimed_chain y q r c (subst (λ (i : ℕ). IsAt a.claimed q i) e at) here in let same = t.1 in
      by_mark claimed_chain (true ≡ false) (sym t.0) (λ n. let n0 = n.0 in absurd (omega arith)))
      (λ _. z.unmarked q d j at lt' (omega arith))

  unmarked_owned_behind : (z : IsSwept claim slot a f m) (q d j : ℕ) → IsAt a.owned q d → j < 256 → suc m ≤ f + (256 * q + j) → (slot' d j).high ≡ false
  unmarked_owned_behind z q d j at lt' behind = putting_slot slot c k (raised (slot c k)) d j (λ (x : Word). x.high ≡ false)
      (λ e e'. let t = own owned_chain y q r c (subst (λ (i : ℕ). IsAt a.owned q i) e at) here in let same = t.1 in
      by_mark owned_chain (true ≡ false) (sym t.0) (λ n. let n0 = n.0 in absurd (omega arith)))
      (λ _. z.unmarked_owned q d j at lt' (omega arith))

  enough : (t : Chain) → IsNextMark a f m t (256 * r + k) → suc m ≤ f + a.used
  enough claimed_chain t = let t0 = t.0 in let t1 = t.1 in omega arith
  enough owned_chain t = let t0 = t.0 in let t1 = t.1 in omega arith

  in_use : (t : Chain) → t ≡ owned_chain → IsNextMark a f m t (256 * r + k) → 256 * r + k < a.used
  in_use claimed_chain e t = absurd (cc)
  in_use owned_chain e t = t.1

  marked_list : a.stage ≡ Swept p f m → IsList claim first next slot a → IsList claim first next slot' a'
  marked_list shut x = let z = as_swept claim first next slot a p f m shut x in record {
    counted = x.counted;
    shown = x.shown ∙ ap is_shut shut;
    now = (
      record {
        filled = λ q d j at lt' ne. z.0.filled q d j at lt' (λ e. ne (value_on slot c k d j ∙ e));
        unused = λ q d j at lt' u. putting_slot slot c k (raised (slot c k)) d j (λ (n : Word). n ≡ blank)
            (λ e e'. let t = own owned_chain y q r c (subst (λ (i : ℕ). IsAt a.owned q i) e at) here in let b = in_use y (sym t.0) is_next in let t1 = t.1 in absurd (omega arith)) (λ _. z.0.unused q d j at lt' u);
        used = z.0.used;
        room = z.0.room;
        linked = z.0.linked;
        ended = z.0.ended;
        small = λ d has. z.0.small d (has.0, has.1, stage_chain_was a (Swept p f (suc m)) has.0 has.1 d has.2);
      },
      record {
        marked = marked_before z.1;
        marked_owned = marked_owned_before z.1;
        unmarked = unmarked_behind z.1;
        unmarked_owned = unmarked_owned_behind z.1;
        past = λ q d j at lt' le. putting_slot slot c k (raised (slot c k)) d j (λ (n : Word). n ≡ blank)
            (λ e e'. let t = own claimed_chain y q r c (subst (λ (i : ℕ). IsAt a.claimed q i) e at) here in let same = t.1 in
            by_mark claimed_chain (raised (slot c k) ≡ blank) (sym t.0) (λ n. let n1 = n.1 in absurd (omega arith)))
            (λ _. z.1.past q d j at lt' le);
        within_claims = z.1.within_claims;
        within_slots = enough y is_next;
      },
    );
  }

module _ (w : Words) (o : Owner) (guests : List Guest) (s : Sound w o guests) (l p f m r c k : ℕ) (a : Leaf) (y : Chain) (leaf : IsAt o.book.leaves l a) (shut : a.stage ≡ Swept p f m) (here : IsAt (chain_of a y) r c) (lt : k < 256) (is_next : IsNextMark a f m y (256 * r + k)) where
  abbrev w' : Words
  w' = put_slot w c k (raised (w.slot c k))

  abbrev t' : Stage
  t' = Swept p f (suc m)

  abbrev leaves' : List Leaf
  leaves' = set o.book.leaves l (with_stage a t')

  has : HasChunk a c
  has = (y, r, here)

  within_on : (g : Fact) → Within a g → Within (with_stage a t') g
  within_on g h = within_more a (with_stage a t') (stage_chain a t') g h

  reached_on : (b : ℕ) → Reached b a.stage → b ≤ p
  reached_on b h = subst (Reached b) shut h

  lists' : AreLists w' leaves'
  lists' = lists_frame_same w w' o.book.leaves l a (with_stage a t') s.shape.lists leaf (slot_elsewhere w l a c k (raised (w.slot c k)) has) (stage_chain_was a t') (λ d t. (t.0, t.1, stage_chain a t' t.0 t.1 d t.2))
      (marked_list (w.claim l) (w.first l) w.next w.slot a p f m r c k y (own_once w o.book.leaves l a s.shape.lists leaf) here lt is_next shut (s.shape.lists.lists l a leaf)) refl

  known' : AreKnown w' leaves' o.facts guests
  known' = known_frame w w' o.book.leaves l a (with_stage a t') s.shape.lists leaf (slot_elsewhere w l a c k (raised (w.slot c k)) has) o.facts guests s.known
      (λ j v q out reached. record {
        reached = reached_on v.birth reached;
        facts = λ g is inside t. (within_on g inside, mark_holds w c k g t);
        claim = λ i e t. record {
          reached = reached_on v.birth reached;
          below = t.below;
          vacant = λ q d j at lt' is. value_on w.slot c k d j ∙ t.vacant q d j at lt' is;
          before = λ q g n st. let z = (swept_same p f (suc m) q g n st).1 in let b = t.before p f m shut in omega arith;
        };
      })
      (λ i g q is t. (mark_holds w c k g t.0, ⊎_elim (λ z. inl (tt, within_on g z.1)) inr t.1))
      (s.known.granted l a leaf)

  -- what the mark shows is true and of the list
  shows : (b : Bool) → nat_lt 0 (w.slot c k).value ≡ b → OfLeaf leaves' (list_of (cond b (Item l c k ((w.slot c k).value - 1)) (Empty l c k))) (IsOwned w' (cond b (Item l c k ((w.slot c k).value - 1)) (Empty l c k)))
  shows true e = (with_stage a t', at_set_same o.book.leaves l a (with_stage a t') leaf, (value_on w.slot c k c k ∙ (let some : 0 < (w.slot c k).value = grind (arith, nat_tests) in omega arith), inl (tt, ((y, r, stage_chain a t' y r c here), lt))))
  shows false e = (
    with_stage a t',
    at_set_same o.book.leaves l a (with_stage a t') leaf,
    (
      word_by_parts _ _ _ _ (value_on w.slot c k c k ∙ (let none : (w.slot c k).value ≡ 0 = grind (arith, nat_tests) in none)) (putting_slot w.slot c k (raised (w.slot c k)) c k (λ (x : Word). x.high ≡ true) (λ _ _. refl) (λ never. absurd (never refl refl))),
      inl (tt, ((y, r, stage_chain a t' y r c here), lt)),
    ),
  )

  pub marks : Sound w' (with_fact (with_leaf o l (with_stage a t')) (mark_shows l c k (w.slot c k))) guests
  marks = record {
    shape = record { lists = lists'; order = order_frame o.book.leaves o.book.order o.book.cleared l a (with_stage a t') leaf s.shape.order (ap place_of (sym shut)) (subst (IsBegun o.book.cleared) shut (s.shape.order.begun l a leaf)) (λ q n st. absurd (cc)) };
    known = owner_learns w' leaves' o.facts guests (mark_shows l c k (w.slot c k)) known' (shows (nat_lt 0 (w.slot c k).value) refl);
    counted = s.counted;
  }
