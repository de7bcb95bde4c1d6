-- A claim keeps the rule.
use Rattle.std.proofs.Common.{◌≡◌, ℕ, suc, ◌+◌, ◌<◌, ◌≤◌, Bool, true, false, cond, List, ◌∷◌, set, sym, refl, ap, ◌∙◌, subst, arith}
use mathlib.Core.Logic.{dite}
use native.Mathlib.Decide.{ℕ_discrete}
use lib.Seq.{set-set}
use Rattle.list_machine.specs.Words.{Word, one_more}
use Rattle.list_machine.specs.State.{Words, put_claim}
use Rattle.list_machine.specs.Grants.{granted_in, use_grant}
use Rattle.list_machine.specs.Facts.{IsAt, total, Holds, list_of, Reached}
use Rattle.list_machine.specs.Rule.{IsStanding, HoldsAt, IsList, AreLists, AreKnown, OfLeaf, IsStated, IsClaimed, IsSeat, Shape, Sound}
use Rattle.list_machine.specs.Steps.{after_claim}
use Rattle.list_machine.specs.declared.views.Fact.TheVariants.{Item, Link, Closed, Empty}
use Rattle.list_machine.specs.declared.views.Fact.{Fact}
use Rattle.list_machine.specs.declared.views.Stage.TheVariants.{Open, Swept, Cleared}
use Rattle.list_machine.specs.declared.views.Stage.{Stage}
use Rattle.list_machine.specs.declared.views.Unfiled.TheVariants.{Nothing, Place}
use Rattle.list_machine.specs.declared.views.Unfiled.{Unfiled}
use Rattle.list_machine.specs.declared.views.Leaf.{Leaf}
use Rattle.list_machine.specs.declared.views.Book.{Book}
use Rattle.list_machine.specs.declared.views.Owner.{Owner}
use Rattle.list_machine.specs.declared.views.Guest.{Guest}
use Rattle.list_machine.proofs.Puts.{put_here, putting}
use Rattle.list_machine.proofs.Lists.{at_set, at_set_same, set_again, total_set}
use Rattle.list_machine.proofs.Frames.{lists_frame_same, known_frame, must_be_out, StaysIn}
use Rattle.list_machine.proofs.Changes.{claim_elsewhere}
use Rattle.list_machine.proofs.Stages.{is_open, as_open}
use Rattle.list_machine.proofs.Guests.{guest_known, guest_counted, more_facts}
use Rattle.list_machine.proofs.Grants.{used_here, used_else}

-- the claim word changes its count or its bit, and a fact about its list stays
pub claim_word_holds : (w : Words) (l : ℕ) (x : Word) (f : Fact) → ((w.claim l).high ≡ true → x.high ≡ true) → Holds w f → Holds (put_claim w l x) f
claim_word_holds w l x (Item h c k y) on t = t
claim_word_holds w l x (Link h from r c) on t = t
claim_word_holds w l x (Closed h) on t = putting w.claim l x h (λ (y : Word). y.high ≡ true) (λ e. on (ap (λ (j : ℕ). (w.claim j).high) (sym e) ∙ t)) (λ _. t)
claim_word_holds w l x (Empty h c k) on t = t

-- what was known of a list stays where its count rises
more_claims : (x : Word) (first : ℕ) (next : ℕ → ℕ) (slot : ℕ → ℕ → Word) (a : Leaf) → suc x.value ≤ a.granted → IsList x first next slot a → IsList (one_more x) first next slot a
more_claims x first next slot a few y = record { counted = few; shown = y.shown; now = by a.stage y.now } where
  standing : IsStanding x first next slot a → IsStanding (one_more x) first next slot a
  standing z = record { filled = λ r c k p lt ne. let b = z.filled r c k p lt ne in omega arith; unused = z.unused; used = z.used; room = z.room; linked = z.linked; ended = z.ended; small = z.small }

  by : (t : Stage) → HoldsAt x first next slot a t → HoldsAt (one_more x) first next slot a t
  by Open z = (standing z.0, z.1)
  by (Swept p f m) z = (standing z.0, record { marked = z.1.marked; marked_owned = z.1.marked_owned; unmarked = z.1.unmarked; unmarked_owned = z.1.unmarked_owned; past = z.1.past; within_claims = let b = z.1.within_claims in omega arith; within_slots = z.1.within_slots })
  by (Cleared p n) z = z

-- a claim where a place is left keeps what holds of the lists
claim_shape : (w : Words) (b : Book) → Shape w b → (l : ℕ) (a : Leaf) → IsAt b.leaves l a → suc (w.claim l).value ≤ a.granted → Shape (put_claim w l (one_more (w.claim l))) b
claim_shape w b sh l a leaf few = record {
  lists = subst (AreLists (put_claim w l (one_more (w.claim l)))) (set_again b.leaves l a leaf)
      (lists_frame_same w (put_claim w l (one_more (w.claim l))) b.leaves l a a sh.lists leaf (claim_elsewhere w l a (one_more (w.claim l))) (λ y r c p. p) (λ c p. p)
      (subst (λ (y : Word). IsList y (w.first l) w.next w.slot a) (sym (put_here w.claim l (one_more (w.claim l))))
      (more_claims (w.claim l) (w.first l) w.next w.slot a few (sh.lists.lists l a leaf))) refl);
  order = sh.order;
}

module _ (w : Words) (o : Owner) (guests : List Guest) (s : Sound w o guests) (j l : ℕ) (v : Guest) (at : IsAt guests j v) (idle : v.claim ≡ Nothing) (has : 0 < granted_in l v.grants) where
  abbrev x : Word
  x = w.claim l

  abbrev w' : Words
  w' = put_claim w l (one_more x)

  abbrev leaves : List Leaf
  leaves = o.book.leaves

  -- the seat with one grant less
  abbrev spending : Guest
  spending = record { out = v.out; birth = v.birth; grants = use_grant l v.grants; claim = v.claim; facts = v.facts }

  abbrev before : List Guest
  before = set guests j spending

  mine : IsSeat w leaves v
  mine = s.known.seats j v at

  reach : OfLeaf leaves l (λ (a : Leaf). Reached v.birth a.stage)
  reach = mine.grants l has

  less : (h : ℕ) → granted_in h (use_grant l v.grants) ≤ granted_in h v.grants
  less h = dite (ℕ_discrete h l) (λ e. let p = used_here l v.grants has in let q : granted_in h (use_grant l v.grants) + 1 ≡ granted_in h v.grants = subst (λ (y : ℕ). granted_in y (use_grant l v.grants) + 1 ≡ granted_in y v.grants) (sym e) p in omega arith) (λ ne. let p = used_else l h v.grants ne in omega arith)

  spent_one : AreKnown w leaves o.facts before
  spent_one = guest_known w leaves o.facts guests j v spending s.known at
      (record { facts = mine.facts; grants = λ h g. mine.grants h (let p = less h in omega arith); claim = mine.claim; spent = λ e. let z = (mine.spent e).2 l in absurd (omega arith) })
      less (λ h k i u ne p c. let d = sym idle ∙ c in absurd (cc))

  leaf : IsAt leaves l reach.0
  leaf = reach.1

  out : v.out ≡ true
  out = must_be_out w leaves v mine (λ z. let e = z.2 l in omega arith)

  few : suc x.value + total (λ (u : Guest). granted_in l u.grants) before ≤ reach.0.granted
  few = let sum = total_set (λ (u : Guest). granted_in l u.grants) guests j v spending at in let old = s.known.granted l reach.0 leaf in let p = used_here l v.grants has in omega arith

  holds_on : (f : Fact) → Holds w f → Holds w' f
  holds_on f t = claim_word_holds w l (one_more x) f (λ e. e) t

  stays : (i : ℕ) (u : Guest) → IsAt before i u → u.out ≡ true → Reached u.birth reach.0.stage → StaysIn w w' l reach.0 reach.0 u
  stays i u p is reached = record {
    reached = reached;
    facts = λ f is inside t. (inside, holds_on f t);
    claim = λ k c t. record { reached = t.reached; below = subst (λ (y : Word). k < y.value) (sym (put_here w.claim l (one_more x))) (let b = t.below in omega arith); vacant = t.vacant; before = t.before };
  }

  counted_one : AreKnown w' leaves o.facts before
  counted_one = subst (λ (es : List Leaf). AreKnown w' es o.facts before) (set_again leaves l reach.0 leaf)
      (known_frame w w' leaves l reach.0 reach.0 s.shape.lists leaf (claim_elsewhere w l reach.0 (one_more x)) o.facts before spent_one stays (λ k f p is t. (holds_on f t.0, t.1))
      (subst (λ (y : Word). y.value + total (λ (u : Guest). granted_in l u.grants) before ≤ reach.0.granted) (sym (put_here w.claim l (one_more x))) few))

  -- the seat ends with this claim and these facts
  abbrev ending : Unfiled → List Fact → Guest
  ending c fs = record { out = v.out; birth = v.birth; grants = use_grant l v.grants; claim = c; facts = fs }

  spending_at : IsAt before j spending
  spending_at = at_set_same guests j v spending at

  claims_as : (c : Unfiled) (fs : List Fact) → ((h k : ℕ) → c ≡ Place h k → OfLeaf leaves h (IsClaimed (w'.claim h) w'.slot v.birth k)) → ((h k : ℕ) → c ≡ Place h k → (h ≡ l) × (k ≡ x.value))
      → ((k : ℕ) (f : Fact) → IsAt fs k f → OfLeaf leaves (list_of f) (IsStated w' v.birth f)) → Sound w' o (set guests j (ending c fs))
  claims_as c fs claimed only known = let y = counted_one.seats j spending spending_at in record {
    shape = claim_shape w o.book s.shape l reach.0 leaf (let b = few in omega arith);
    known = subst (AreKnown w' leaves o.facts) (set-set guests j spending (ending c fs))
        (guest_known w' leaves o.facts before j spending (ending c fs) counted_one spending_at
        (record { facts = known; grants = y.grants; claim = claimed; spent = λ e. let z = sym out ∙ e in absurd (cc) })
        (λ h. omega arith)
        (λ i h k u ne p q q'. let is = only h k q in at_set guests j i spending u ⊥ p (λ e _. ne e) (λ _ old. let b = ((s.known.seats i u old).claim h k q').2.below in let e : (w.claim h).value ≡ x.value = ap (λ (g : ℕ). (w.claim g).value) is.0 in let e' = is.1 in omega arith)));
    counted = guest_counted _ _ o.out guests j v (ending c fs) s.counted at refl refl;
  }

  -- the place that a claim in an open list gives
  place : x.high ≡ false → OfLeaf leaves l (IsClaimed (w'.claim l) w'.slot v.birth x.value)
  place low = let list = s.shape.lists.lists l reach.0 leaf in let unshut = is_open reach.0.stage (sym list.shown ∙ low) in let z = as_open x (w.first l) w.next w.slot reach.0 unshut list in (
    reach.0,
    leaf,
    record {
      reached = reach.2;
      below = subst (λ (y : Word). x.value < y.value) (sym (put_here w.claim l (one_more x))) (omega arith);
      vacant = λ r c k p lt is. dite (ℕ_discrete (w.slot c k).value 0) (λ e. e) (λ ne. let b = z.0.filled r c k p lt ne in absurd (omega arith));
      before = λ p f m st. let e : Open ≡ Swept p f m = sym unshut ∙ st in absurd (cc);
    },
  )

  claims_by : (b : Bool) → x.high ≡ b → Sound w' o (set guests j (ending (cond b Nothing (Place l x.value)) (cond b (Closed l ∷ v.facts) v.facts)))
  claims_by false low = claims_as (Place l x.value) v.facts
      (λ h k e. let e0 : l ≡ h = cc in let e1 : x.value ≡ k = cc in subst (λ (z : ℕ × ℕ). OfLeaf leaves z.0 (IsClaimed (w'.claim z.0) w'.slot v.birth z.1)) (λ t. (e0 t, e1 t)) (place low))
      (λ h k e. let e0 : l ≡ h = cc in let e1 : x.value ≡ k = cc in (sym e0, sym e1))
      (counted_one.seats j spending spending_at).facts
  claims_by true high = claims_as Nothing (Closed l ∷ v.facts) (λ h k e. absurd (cc)) (λ h k e. absurd (cc))
      (more_facts {F = λ f. OfLeaf leaves (list_of f) (IsStated w' v.birth f)} (Closed l) v.facts
      (reach.0, leaf, record { reached = reach.2; within = tt; holds = subst (λ (y : Word). y.high ≡ true) (sym (put_here w.claim l (one_more x))) high })
      (counted_one.seats j spending spending_at).facts)

  pub claims : Sound w' o (set guests j (after_claim v l x))
  claims = claims_by x.high refl
