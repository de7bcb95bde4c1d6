-- A slot that was 0 gets an item.
use Rattle.std.proofs.Common.{◌≡◌, ℕ, ◌+◌, ◌*◌, ◌<◌, ◌≢◌, inl, inr, ⊎_elim, true, false, List, ◌∷◌, set, sym, refl, ap, ◌∙◌, subst, arith}
use lib.Seq.{set-set}
use Rattle.list_machine.specs.Words.{Word, word, blank, holding}
use Rattle.list_machine.specs.State.{Words, put, put_slot}
use Rattle.list_machine.specs.Facts.{IsAt, Chain, claimed_chain, owned_chain, chain_of, HasChunk, Holds, Within, list_of, Stands, Reached}
use Rattle.list_machine.specs.Rule.{IsStanding, IsUnmarked, HoldsAt, IsList, AreLists, AreKnown, OfLeaf, IsStated, IsClaimed, IsSeat, Shape, Sound}
use Rattle.list_machine.specs.Steps.{guest_with, KnowsChunk, with_leaf, with_one_used, with_fact}
use Rattle.list_machine.specs.declared.views.Fact.TheVariants.{Item, Link, Closed, Empty}
use Rattle.list_machine.specs.declared.views.Fact.{Fact}
use Rattle.list_machine.specs.declared.views.Stage.TheVariants.{Open, Swept, Cleared}
use Rattle.list_machine.specs.declared.views.Stage.{Stage}
use Rattle.list_machine.specs.declared.views.Unfiled.TheVariants.{Nothing, Place}
use Rattle.list_machine.specs.declared.views.Leaf.{Leaf}
use Rattle.list_machine.specs.declared.views.Book.{Book}
use Rattle.list_machine.specs.declared.views.Owner.{Owner}
use Rattle.list_machine.specs.declared.views.Guest.{Guest}
use Rattle.list_machine.proofs.Puts.{putting_slot}
use Rattle.list_machine.proofs.Lists.{at_same, at_set, at_set_same, at_below, set_again}
use Rattle.list_machine.proofs.Stages.{as_open, marked_empty, within_more}
use Rattle.list_machine.proofs.Frames.{lists_frame_same, known_frame, order_frame, must_be_out, stands_if, StaysIn}
use Rattle.list_machine.proofs.Changes.{slot_elsewhere}
use Rattle.list_machine.proofs.Guests.{guest_learns, guest_counted, more_facts, owner_learns}

-- a true fact stays true where a slot that was 0 gets an item
filled_holds : (w : Words) (c k x : ℕ) → w.slot c k ≡ blank → (f : Fact) → Holds w f → Holds (put_slot w c k (holding x)) f
filled_holds w c k x was (Item l d j y) t = putting_slot w.slot c k (holding x) d j (λ (n : Word). n.value ≡ y + 1)
    (λ e e'. let b : (w.slot c k).value ≡ 0 = ap (λ (n : Word). n.value) was in let q : (w.slot d j).value ≡ (w.slot c k).value = λ i. (w.slot (e i) (e' i)).value in absurd (omega arith)) (λ _. t)
filled_holds w c k x was (Link l from r d) t = t
filled_holds w c k x was (Closed l) t = t
filled_holds w c k x was (Empty l d j) t = putting_slot w.slot c k (holding x) d j (λ (n : Word). n ≡ word 0 true)
    (λ e e'. let q : blank ≡ word 0 true = sym was ∙ ((λ i. w.slot (sym e i) (sym e' i)) ∙ t) in let z : false ≡ true = ap (λ (n : Word). n.high) q in absurd (cc)) (λ _. t)

-- a chunk stands once in the chains of a list
abbrev pub OwnOnce : Leaf → Type 0
OwnOnce a = (x y : Chain) (r q c : ℕ) → IsAt (chain_of a x) r c → IsAt (chain_of a y) q c → (x ≡ y) × (r ≡ q)

module _ (claim : Word) (first : ℕ) (next : ℕ → ℕ) (slot : ℕ → ℕ → Word) (a : Leaf) (r c k x : ℕ) (own : OwnOnce a) (lt : k < 256) (was : slot c k ≡ blank) where
  abbrev slot' : ℕ → ℕ → Word
  slot' = put slot c (put (slot c) k (holding x))

  abbrev at_slot : (d j : ℕ) (F : Word → Type 0) → (d ≡ c → j ≡ k → F (holding x)) → F (slot d j) → F (slot' d j)
  at_slot d j F hit miss = putting_slot slot c k (holding x) d j F hit (λ _. miss)

  -- what does not hold of 0 stays
  stays : (d j : ℕ) (F : Word → Type 0) → (F blank → ⊥) → F (slot d j) → F (slot' d j)
  stays d j F never y = at_slot d j F (λ e e'. absurd (never (subst F ((λ i. slot (e i) (e' i)) ∙ was) y))) y

  unmarked_on : IsUnmarked slot a → IsUnmarked slot' a
  unmarked_on z d j has lt' = at_slot d j (λ (n : Word). n.high ≡ false) (λ _ _. refl) (z d j has lt')

  -- the slot is claimed
  module _ (here : IsAt a.claimed r c) (below : 256 * r + k < claim.value) where
    rank : (y : Chain) (q d : ℕ) → IsAt (chain_of a y) q d → d ≡ c → (y ≡ claimed_chain) × (q ≡ r)
    rank y q d p is = own y claimed_chain q r c (subst (λ (e : ℕ). IsAt (chain_of a y) q e) is p) here

    standing_on : IsStanding claim first next slot a → IsStanding claim first next slot' a
    standing_on y = record {
      filled = λ q d j p lt'. at_slot d j (λ (n : Word). n.value ≢ 0 → 256 * q + j < claim.value) (λ is is' _. let z = (rank claimed_chain q d p is).1 in omega arith) (y.filled q d j p lt');
      unused = λ q d j p lt' u. at_slot d j (λ (n : Word). n ≡ blank) (λ is _. let z = (rank owned_chain q d p is).0 in absurd (cc)) (y.unused q d j p lt' u);
      used = y.used;
      room = y.room;
      linked = y.linked;
      ended = y.ended;
      small = y.small;
    }

    claimed_fill : ((p f m : ℕ) → a.stage ≡ Swept p f m → 256 * r + k < f) → Stands a.stage → IsList claim first next slot a → IsList claim first next slot' a
    claimed_fill before st y = record { counted = y.counted; shown = y.shown; now = by a.stage refl st y.now } where
      by : (t : Stage) → a.stage ≡ t → Stands t → HoldsAt claim first next slot a t → HoldsAt claim first next slot' a t
      by Open is st z = (standing_on z.0, unmarked_on z.1)
      by (Swept p f m) is st z = (
        standing_on z.0,
        record {
          marked = λ q d j p' lt' f' m'. stays d j (λ (n : Word). n.high ≡ true) (λ e. absurd (cc)) (z.1.marked q d j p' lt' f' m');
          marked_owned = λ q d j p' lt' m'. stays d j (λ (n : Word). n.high ≡ true) (λ e. absurd (cc)) (z.1.marked_owned q d j p' lt' m');
          unmarked = λ q d j p' lt' m'. at_slot d j (λ (n : Word). n.high ≡ false) (λ _ _. refl) (z.1.unmarked q d j p' lt' m');
          unmarked_owned = λ q d j p' lt' m'. at_slot d j (λ (n : Word). n.high ≡ false) (λ _ _. refl) (z.1.unmarked_owned q d j p' lt' m');
          past = λ q d j p' lt' f'. at_slot d j (λ (n : Word). n ≡ blank) (λ e e'. let t = (rank claimed_chain q d p' e).1 in let b = before p f m is in absurd (omega arith)) (z.1.past q d j p' lt' f');
          within_claims = z.1.within_claims;
          within_slots = z.1.within_slots;
        },
      )
      by (Cleared p n) is st z = absurd st

  -- the slot is the next of the owned chain
  module _ (here : IsAt a.owned r c) (next_slot : a.used ≡ 256 * r + k) (unshut : a.stage ≡ Open) where
    owned_rank : (y : Chain) (q d : ℕ) → IsAt (chain_of a y) q d → d ≡ c → (y ≡ owned_chain) × (q ≡ r)
    owned_rank y q d p is = own y owned_chain q r c (subst (λ (e : ℕ). IsAt (chain_of a y) q e) is p) here

    owned_fill : IsList claim first next slot a → IsList claim first next slot' (with_one_used a)
    owned_fill y = let z = as_open claim first next slot a unshut y in record {
      counted = y.counted;
      shown = y.shown;
      now = subst (HoldsAt claim first next slot' (with_one_used a)) (sym unshut) (
        record {
          filled = λ q d j p lt'. at_slot d j (λ (n : Word). n.value ≢ 0 → 256 * q + j < claim.value) (λ is _. let t = (owned_rank claimed_chain q d p is).0 in absurd (cc)) (z.0.filled q d j p lt');
          unused = λ q d j p lt' u. at_slot d j (λ (n : Word). n ≡ blank) (λ is is'. let t = (owned_rank owned_chain q d p is).1 in absurd (omega arith)) (z.0.unused q d j p lt' (omega arith));
          used = let b = at_below a.owned r c here in omega arith;
          room = z.0.room;
          linked = z.0.linked;
          ended = z.0.ended;
          small = λ d has. z.0.small d (was_has has.0 has.1 d has.2);
        },
        λ d j has lt'. unmarked_on z.1 d j (was_has has.0 has.1 d has.2) lt',
      );
    } where
      was_has : (x : Chain) (q d : ℕ) → IsAt (chain_of (with_one_used a) x) q d → HasChunk a d
      was_has claimed_chain q d p = (claimed_chain, q, p)
      was_has owned_chain q d p = (owned_chain, q, p)

-- a chunk stands once in the chains of one list
pub own_once : (w : Words) (leaves : List Leaf) (l : ℕ) (a : Leaf) → AreLists w leaves → IsAt leaves l a → OwnOnce a
own_once w leaves l a s leaf x y r q c p p' = let t = s.once l l a a x y r q c leaf leaf p p' in (t.1, t.2)

-- a filing at a claimed place keeps what holds of the lists
file_shape : (w : Words) (b : Book) → Shape w b → (l r c k x : ℕ) (a : Leaf) → IsAt b.leaves l a → Stands a.stage → IsAt a.claimed r c → k < 256 → w.slot c k ≡ blank → 256 * r + k < (w.claim l).value
    → ((p f m : ℕ) → a.stage ≡ Swept p f m → 256 * r + k < f) → Shape (put_slot w c k (holding x)) b
file_shape w b sh l r c k x a leaf stands here lt was below before = record {
  lists = subst (AreLists (put_slot w c k (holding x))) (set_again b.leaves l a leaf)
      (lists_frame_same w (put_slot w c k (holding x)) b.leaves l a a sh.lists leaf (slot_elsewhere w l a c k (holding x) (claimed_chain, r, here)) (λ y q d p. p) (λ d p. p)
      (claimed_fill (w.claim l) (w.first l) w.next w.slot a r c k x (own_once w b.leaves l a sh.lists leaf) lt was here below before stands (sh.lists.lists l a leaf)) refl);
  order = sh.order;
}

module _ (w : Words) (o : Owner) (guests : List Guest) (s : Sound w o guests) (j l r c k : ℕ) (v : Guest) (at : IsAt guests j v) (claim : v.claim ≡ Place l (256 * r + k)) (lt : k < 256) (chunk : KnowsChunk v l r c) where
  abbrev leaves : List Leaf
  leaves = o.book.leaves

  mine : IsSeat w leaves v
  mine = s.known.seats j v at

  place : OfLeaf leaves l (IsClaimed (w.claim l) w.slot v.birth (256 * r + k))
  place = mine.claim l (256 * r + k) claim

  abbrev a : Leaf
  a = place.0

  leaf : IsAt leaves l a
  leaf = place.1

  here : IsAt a.claimed r c
  here = let t = mine.facts chunk.0 (Link l chunk.1 r c) chunk.2 in subst (λ (e : Leaf). IsAt e.claimed r c) (at_same leaves l t.0 a t.1 leaf) t.2.within.1

  out : v.out ≡ true
  out = must_be_out w leaves v mine (λ z. let e = sym claim ∙ z.1 in absurd (cc))

  in_chunk : Within a (Empty l c k)
  in_chunk = ((claimed_chain, r, here), lt)

  -- the slot was marked while it was empty
  pub files_late : w.slot c k ≢ blank → Sound w o (set guests j (guest_with v Nothing (Empty l c k ∷ v.facts)))
  files_late ne = record {
    shape = s.shape;
    known = guest_learns w leaves o.facts guests j v Nothing (Empty l c k ∷ v.facts) s.known at out (λ h g e. absurd (cc))
        (more_facts {F = λ f. OfLeaf leaves (list_of f) (IsStated w v.birth f)} (Empty l c k) v.facts
        (a, leaf, record { reached = place.2.reached; within = in_chunk; holds = marked_empty (w.slot c k) (place.2.vacant r c k here lt refl) ne }) mine.facts);
    counted = guest_counted _ _ o.out guests j v (guest_with v Nothing (Empty l c k ∷ v.facts)) s.counted at refl refl;
  }

  module _ (x : ℕ) (was : w.slot c k ≡ blank) where
    abbrev w' : Words
    w' = put_slot w c k (holding x)

    abbrev free : Guest
    free = guest_with v Nothing v.facts

    abbrev before : List Guest
    before = set guests j free

    has : HasChunk a c
    has = (claimed_chain, r, here)

    free_at : IsAt before j free
    free_at = at_set_same guests j v free at

    released : AreKnown w leaves o.facts before
    released = guest_learns w leaves o.facts guests j v Nothing v.facts s.known at out (λ h g e. absurd (cc)) mine.facts

    filled_shape : Shape w' o.book
    filled_shape = file_shape w o.book s.shape l r c k x a leaf (stands_if o.book.cleared v.birth a.stage (s.shape.order.begun l a leaf) (s.counted.born j v at out).0 place.2.reached) here lt was place.2.below place.2.before

    -- nobody else has claimed the place
    nobody_else : (i : ℕ) (u : Guest) → IsAt before i u → u.claim ≡ Place l (256 * r + k) → ⊥
    nobody_else i u p e = at_set guests j i free u ⊥ p (λ _ same. let d : u.claim ≡ Nothing = ap (λ (g : Guest). g.claim) (sym same) in let z = sym e ∙ d in absurd (cc))
        (λ ne old. ne (s.known.apart i j l (256 * r + k) u v old at e claim))

    stays_in : (i : ℕ) (u : Guest) → IsAt before i u → u.out ≡ true → Reached u.birth a.stage → StaysIn w w' l a a u
    stays_in i u p is reached = record {
      reached = reached;
      facts = λ f is inside t. (inside, filled_holds w c k x was f t);
      claim = λ g e t. record {
        reached = t.reached;
        below = t.below;
        vacant = λ q d n p' b is. putting_slot w.slot c k (holding x) d n (λ (y : Word). y.value ≡ 0)
            (λ same same'. let z = (own_once w leaves l a s.shape.lists leaf claimed_chain claimed_chain q r c (subst (λ (y : ℕ). IsAt a.claimed q y) same p') here).1 in
            absurd (nobody_else i u p (e ∙ ap (λ (y : ℕ). Place l y) (let z' : g ≡ 256 * r + k = omega arith in z')))) (λ _. t.vacant q d n p' b is);
        before = t.before;
      };
    }

    filled_known : AreKnown w' leaves o.facts before
    filled_known = subst (λ (es : List Leaf). AreKnown w' es o.facts before) (set_again leaves l a leaf)
        (known_frame w w' leaves l a a s.shape.lists leaf (slot_elsewhere w l a c k (holding x) has) o.facts before released stays_in
        (λ i f p is t. (filled_holds w c k x was f t.0, t.1)) (released.granted l a leaf))

    true_now : Holds w' (Item l c k x)
    true_now = putting_slot w.slot c k (holding x) c k (λ (n : Word). n.value ≡ x + 1) (λ _ _. refl) (λ never. absurd (never refl refl))

    pub files : Sound w' o (set guests j (guest_with v Nothing (Item l c k x ∷ v.facts)))
    files = record {
      shape = filled_shape;
      known = subst (AreKnown w' leaves o.facts) (set-set guests j free (guest_with v Nothing (Item l c k x ∷ v.facts)))
          (guest_learns w' leaves o.facts before j free Nothing (Item l c k x ∷ v.facts) filled_known free_at out (λ h g e. e)
          (more_facts {F = λ f. OfLeaf leaves (list_of f) (IsStated w' v.birth f)} (Item l c k x) v.facts
          (a, leaf, record { reached = place.2.reached; within = in_chunk; holds = true_now }) (filled_known.seats j free free_at).facts));
      counted = guest_counted _ _ o.out guests j v (guest_with v Nothing (Item l c k x ∷ v.facts)) s.counted at refl refl;
    }

-- the owner files into the next slot of its chain
module _ (w : Words) (o : Owner) (guests : List Guest) (s : Sound w o guests) (l r c k x : ℕ) (a : Leaf) (leaf : IsAt o.book.leaves l a) (unshut : a.stage ≡ Open) (here : IsAt a.owned r c) (lt : k < 256) (next_slot : a.used ≡ 256 * r + k) where
  abbrev after : Words
  after = put_slot w c k (holding x)

  abbrev a' : Leaf
  a' = with_one_used a

  more : (y : Chain) (q d : ℕ) → IsAt (chain_of a y) q d → IsAt (chain_of a' y) q d
  more claimed_chain q d p = p
  more owned_chain q d p = p

  fewer : (y : Chain) (q d : ℕ) → IsAt (chain_of a' y) q d → IsAt (chain_of a y) q d
  fewer claimed_chain q d p = p
  fewer owned_chain q d p = p

  owned_blank : w.slot c k ≡ blank
  owned_blank = (as_open (w.claim l) (w.first l) w.next w.slot a unshut (s.shape.lists.lists l a leaf)).0.unused r c k here lt (omega arith)

  owned_has : HasChunk a c
  owned_has = (owned_chain, r, here)

  placed : AreLists after (set o.book.leaves l a')
  placed = lists_frame_same w after o.book.leaves l a a' s.shape.lists leaf (slot_elsewhere w l a c k (holding x) owned_has) fewer (λ d p. (p.0, p.1, more p.0 p.1 d p.2))
      (owned_fill (w.claim l) (w.first l) w.next w.slot a r c k x (own_once w o.book.leaves l a s.shape.lists leaf) lt owned_blank here next_slot unshut (s.shape.lists.lists l a leaf)) refl

  placed_known : AreKnown after (set o.book.leaves l a') o.facts guests
  placed_known = known_frame w after o.book.leaves l a a' s.shape.lists leaf (slot_elsewhere w l a c k (holding x) owned_has) o.facts guests s.known
      (λ i u p is reached. record {
        reached = reached;
        facts = λ f is inside t. (within_more a a' more f inside, filled_holds w c k x owned_blank f t);
        claim = λ g e t. record {
          reached = t.reached;
          below = t.below;
          vacant = λ q d n p' b is. putting_slot w.slot c k (holding x) d n (λ (y : Word). y.value ≡ 0)
              (λ same same'. let z = (own_once w o.book.leaves l a s.shape.lists leaf claimed_chain owned_chain q r c (subst (λ (y : ℕ). IsAt a.claimed q y) same p') here).0 in absurd (cc)) (λ _. t.vacant q d n p' b is);
          before = t.before;
        };
      })
      (λ i f p is t. (filled_holds w c k x owned_blank f t.0, ⊎_elim (λ z. inl (z.0, within_more a a' more f z.1)) inr t.1))
      (s.known.granted l a leaf)

  pub places : Sound after (with_fact (with_leaf o l a') (Item l c k x)) guests
  places = record {
    shape = record { lists = placed; order = order_frame o.book.leaves o.book.order o.book.cleared l a a' leaf s.shape.order refl (s.shape.order.begun l a leaf) (λ p n st. let e : Open ≡ Cleared p n = sym unshut ∙ st in absurd (cc)) };
    known = owner_learns after (set o.book.leaves l a') o.facts guests (Item l c k x) placed_known (
      a',
      at_set_same o.book.leaves l a a' leaf,
      (
        putting_slot w.slot c k (holding x) c k (λ (n : Word). n.value ≡ x + 1) (λ _ _. refl) (λ never. absurd (never refl refl)),
        inl (subst Stands (sym unshut) tt, ((owned_chain, r, here), lt)),
      ),
    );
    counted = s.counted;
  }
