-- One list and its words change, and the others are as they were.
use Rattle.std.proofs.Common.{◌≡◌, ℕ, suc, ◌+◌, ◌<◌, ◌≤◌, ◌≢◌, ◌⊎◌, inl, inr, ⊎_elim, List, [], ◌++◌, length, set, sym, refl, ap, ◌∙◌, subst, arith, true, false}
use Rattle.std.specs.Prelude.{Some}
use mathlib.Core.Logic.{dite}
use native.Mathlib.Decide.{ℕ_discrete}
use Rattle.list_machine.specs.Words.{Word, blank}
use Rattle.list_machine.specs.State.{Words, link_in}
use Rattle.list_machine.specs.Grants.{granted_in}
use Rattle.list_machine.specs.Facts.{IsAt, total, HasChunk, chain_of, Chain, claimed_chain, owned_chain, LeadsTo, list_of, Holds, Within, place_of, Stands, Reached}
use Rattle.list_machine.specs.Rule.{IsStanding, HoldsAt, IsList, IsFree, AreLists, IsBegun, AreOrdered, OfLeaf, IsStated, IsClaimed, IsSeat, IsOwned, AreKnown}
use Rattle.list_machine.specs.declared.views.LinkWord.{LinkWord}
use Rattle.list_machine.specs.declared.views.LinkWord.TheVariants.{OfList, OfChunk}
use Rattle.list_machine.specs.declared.views.Fact.{Fact}
use Rattle.list_machine.specs.declared.views.Fact.TheVariants.{Item, Link, Closed, Empty}
use Rattle.list_machine.specs.declared.views.Stage.{Stage}
use Rattle.list_machine.specs.declared.views.Stage.TheVariants.{Open, Swept, Cleared}
use Rattle.list_machine.specs.declared.views.Leaf.{Leaf}
use Rattle.list_machine.specs.declared.views.Unfiled.TheVariants.{Nothing, Place}
use Rattle.list_machine.specs.declared.views.Guest.{Guest}
use Rattle.list_machine.proofs.Lists.{found_in, at_same, at_set, each_set, at_set_same, at_set_other, at_nothing, at_both, total_same}

pub in_both : (a : Leaf) (r c : ℕ) → IsAt (a.claimed ++ a.owned) r c → HasChunk a c
in_both a r c p = at_both a.claimed a.owned r c (HasChunk a c) p (λ q y. (claimed_chain, q, y)) (λ q y. (owned_chain, q, y))

-- the links and slots of the list's chunks are as they were
module _ (claim : Word) (first : ℕ) (next next' : ℕ → ℕ) (slot slot' : ℕ → ℕ → Word) (a : Leaf)
    (nexts : (c : ℕ) → HasChunk a c → next' c ≡ next c) (slots : (c k : ℕ) → HasChunk a c → k < 256 → slot' c k ≡ slot c k) where
  link_same : (from : LinkWord) (r : ℕ) → LeadsTo a.claimed from r → link_in first next' from ≡ link_in first next from
  link_same OfList r to = refl
  link_same (OfChunk b) r to = nexts b (claimed_chain, to.0, to.2)

  standing_on : IsStanding claim first next slot a → IsStanding claim first next' slot' a
  standing_on x = record {
    filled = λ r c k p lt ne. x.filled r c k p lt (λ z. ne (ap (λ (y : Word). y.value) (slots c k (claimed_chain, r, p) lt) ∙ z));
    unused = λ r c k p lt u. slots c k (owned_chain, r, p) lt ∙ x.unused r c k p lt u;
    used = x.used;
    room = x.room;
    linked = λ from r c to p. link_same from r to ∙ x.linked from r c to p;
    ended = λ from to. link_same from (length a.claimed) to ∙ x.ended from to;
    small = x.small;
  }

  now_on : (t : Stage) → HoldsAt claim first next slot a t → HoldsAt claim first next' slot' a t
  now_on Open x = (standing_on x.0, λ c k has lt. ap (λ (y : Word). y.high) (slots c k has lt) ∙ x.1 c k has lt)
  now_on (Swept p f m) x = (
    standing_on x.0,
    record {
      marked = λ r c k q lt f' m'. ap (λ (y : Word). y.high) (slots c k (claimed_chain, r, q) lt) ∙ x.1.marked r c k q lt f' m';
      marked_owned = λ r c k q lt m'. ap (λ (y : Word). y.high) (slots c k (owned_chain, r, q) lt) ∙ x.1.marked_owned r c k q lt m';
      unmarked = λ r c k q lt m'. ap (λ (y : Word). y.high) (slots c k (claimed_chain, r, q) lt) ∙ x.1.unmarked r c k q lt m';
      unmarked_owned = λ r c k q lt m'. ap (λ (y : Word). y.high) (slots c k (owned_chain, r, q) lt) ∙ x.1.unmarked_owned r c k q lt m';
      past = λ r c k q lt f'. slots c k (claimed_chain, r, q) lt ∙ x.1.past r c k q lt f';
      within_claims = x.1.within_claims;
      within_slots = x.1.within_slots;
    },
  )
  now_on (Cleared p n) x = record {
    wiped_first = x.wiped_first;
    wiped_slots = λ r c k q lt h. slots c k (in_both a r c q) lt ∙ x.wiped_slots r c k q lt h;
    wiped_nexts = λ r c q h. nexts c (in_both a r c q) ∙ x.wiped_nexts r c q h;
  }

  pub same_list : IsList claim first next slot a → IsList claim first next' slot' a
  same_list x = record { counted = x.counted; shown = x.shown; now = now_on a.stage x.now }

-- the words of the lists other than l, which has the leaf a, are as they were
pub record Elsewhere (w w' : Words) (l : ℕ) (a : Leaf) : Type 0 where
  pub claims : (h : ℕ) → h ≢ l → w'.claim h ≡ w.claim h
  pub firsts : (h : ℕ) → h ≢ l → w'.first h ≡ w.first h
  pub nexts : (c : ℕ) → (HasChunk a c → ⊥) → w'.next c ≡ w.next c
  pub slots : (c k : ℕ) → (HasChunk a c → ⊥) → w'.slot c k ≡ w.slot c k

-- a seat that is out stands on what is not cleared
pub stands_if : (cleared birth : ℕ) (t : Stage) → IsBegun cleared t → cleared ≤ birth → Reached birth t → Stands t
stands_if cleared birth Open b le h = tt
stands_if cleared birth (Swept p f m) b le h = tt
stands_if cleared birth (Cleared p n) b le h = omega arith

pub must_be_out : (w : Words) (leaves : List Leaf) (v : Guest) → IsSeat w leaves v → ((v.facts ≡ []) × (v.claim ≡ Nothing) × ((l : ℕ) → granted_in l v.grants ≡ 0) → ⊥) → v.out ≡ true
must_be_out w leaves v x never = from v.out refl where
  from : (b : _) → v.out ≡ b → v.out ≡ true
  from true e = e
  from false e = absurd (never (x.spent e))

-- something of a list, after the change of one
pub of_leaf : (leaves : List Leaf) (l h : ℕ) (a a' : Leaf) (P Q : Leaf → Type 0) → IsAt leaves l a → OfLeaf leaves h P → (h ≢ l → (e : Leaf) → IsAt leaves h e → P e → Q e) → (h ≡ l → P a → Q a') → OfLeaf (set leaves l a') h Q
of_leaf leaves l h a a' P Q leaf t miss hit = dite (ℕ_discrete h l)
    (λ is. let at : IsAt leaves l t.0 = subst (λ (j : ℕ). IsAt leaves j t.0) is t.1 in
    (a', subst (λ (j : ℕ). IsAt (set leaves l a') j a') (sym is) (at_set_same leaves l a a' leaf), hit is (subst P (at_same leaves l t.0 a at leaf) t.2)))
    (λ ne. (t.0, at_set_other leaves l h a' t.0 ne t.1, miss ne t.0 t.1 t.2))

-- what a seat that is out has in the list l, after a step
pub record StaysIn (w w' : Words) (l : ℕ) (a a' : Leaf) (v : Guest) : Type 0 where
  pub reached : Reached v.birth a'.stage
  pub facts : (f : Fact) → list_of f ≡ l → Within a f → Holds w f → Within a' f × Holds w' f
  pub claim : (i : ℕ) → v.claim ≡ Place l i → IsClaimed (w.claim l) w.slot v.birth i a → IsClaimed (w'.claim l) w'.slot v.birth i a'

-- a chunk is in a list, or it is not
pub has_or : (a : Leaf) (c : ℕ) → HasChunk a c ⊎ (HasChunk a c → ⊥)
has_or a c = ⊎_elim (λ t. inl (claimed_chain, t.0, t.1)) (λ n. ⊎_elim (λ t. inl (owned_chain, t.0, t.1)) (λ m. inr (λ has. neither has.0 has.1 n m has.2)) (found_in a.owned c)) (found_in a.claimed c) where
  neither : (x : Chain) (r : ℕ) → ((q : ℕ) → IsAt a.claimed q c → ⊥) → ((q : ℕ) → IsAt a.owned q c → ⊥) → IsAt (chain_of a x) r c → ⊥
  neither claimed_chain r n m p = n r p
  neither owned_chain r n m p = m r p

module _ (w w' : Words) (leaves : List Leaf) (l : ℕ) (a a' : Leaf) (lists : AreLists w leaves) (leaf : IsAt leaves l a) (other : Elsewhere w w' l a) where
  -- a chunk of another list is none of this one
  apart : (h c : ℕ) (e : Leaf) → h ≢ l → IsAt leaves h e → HasChunk e c → HasChunk a c → ⊥
  apart h c e ne at has has' = ne (lists.once h l e a has.0 has'.0 has.1 has'.1 c at leaf has.2 has'.2).0

  abbrev leaves' : List Leaf
  leaves' = set leaves l a'

  holds_on : (f : Fact) (e : Leaf) → IsAt leaves (list_of f) e → list_of f ≢ l → Within e f → Holds w f → Holds w' f
  holds_on (Item h c k x) e at ne inside t = ap (λ (y : Word). y.value) (other.slots c k (apart h c e ne at inside.0)) ∙ t
  holds_on (Link h OfList r c) e at ne inside t = other.firsts h ne ∙ t
  holds_on (Link h (OfChunk b) r c) e at ne inside t = other.nexts b (apart h b e ne at (claimed_chain, inside.0.0, inside.0.2)) ∙ t
  holds_on (Closed h) e at ne inside t = ap (λ (y : Word). y.high) (other.claims h ne) ∙ t
  holds_on (Empty h c k) e at ne inside t = other.slots c k (apart h c e ne at inside.0) ∙ t

  closed_on : (f : Fact) (e : Leaf) → IsAt leaves (list_of f) e → list_of f ≢ l → f ≡ Closed (list_of f) → Holds w f → Holds w' f
  closed_on f e at ne is t = subst (Holds w') (sym is) (ap (λ (y : Word). y.high) (other.claims (list_of f) ne) ∙ subst (Holds w) is t)

  claim_on : (h i birth : ℕ) (e : Leaf) → IsAt leaves h e → h ≢ l → IsClaimed (w.claim h) w.slot birth i e → IsClaimed (w'.claim h) w'.slot birth i e
  claim_on h i birth e at ne x = record {
    reached = x.reached;
    below = subst (λ (y : Word). i < y.value) (sym (other.claims h ne)) x.below;
    vacant = λ r c k p lt is. ap (λ (y : Word). y.value) (other.slots c k (apart h c e ne at (claimed_chain, r, p))) ∙ x.vacant r c k p lt is;
    before = x.before;
  }

  -- all lists, where the one list keeps its chunks or gives up blank ones, and takes at most the chunk c0
  module _ (x0 : Chain) (r0 c0 : ℕ) (more : (x : Chain) (r c : ℕ) → IsAt (chain_of a' x) r c → IsAt (chain_of a x) r c ⊎ (IsFree leaves c × (x ≡ x0) × (r ≡ r0) × (c ≡ c0))) where
    -- a place in a chain is an old one, or the new chunk's
    was_in : (h : ℕ) (e : Leaf) (x : Chain) (r c : ℕ) (F : Type 0) → IsAt leaves' h e → IsAt (chain_of e x) r c → ((d : Leaf) → IsAt leaves h d → IsAt (chain_of d x) r c → F)
        → (h ≡ l → IsFree leaves c → x ≡ x0 → r ≡ r0 → c ≡ c0 → F) → F
    was_in h e x r c F at p old new = at_set leaves l h a' e F at
        (λ is d. ⊎_elim (λ q. old a (subst (λ (j : ℕ). IsAt leaves j a) (sym is) leaf) q) (λ t. new is t.0 t.1 t.2 t.3) (more x r c (subst (λ (y : Leaf). IsAt (chain_of y x) r c) (sym d) p)))
        (λ ne at'. old e at' p)

    once' : (h g : ℕ) (e d : Leaf) (x y : Chain) (r q c : ℕ) → IsAt leaves' h e → IsAt leaves' g d → IsAt (chain_of e x) r c → IsAt (chain_of d y) q c → (h ≡ g) × (x ≡ y) × (r ≡ q)
    once' h g e d x y r q c at at' p p' = was_in h e x r c ((h ≡ g) × (x ≡ y) × (r ≡ q)) at p
        (λ e0 at0 p0. was_in g d y q c ((h ≡ g) × (x ≡ y) × (r ≡ q)) at' p'
        (λ d0 at1 p1. lists.once h g e0 d0 x y r q c at0 at1 p0 p1)
        (λ _ none _ _ _. absurd (none h e0 at0 (x, r, p0))))
        (λ i1 none i3 i4 _. was_in g d y q c ((h ≡ g) × (x ≡ y) × (r ≡ q)) at' p'
        (λ d0 at1 p1. absurd (none g d0 at1 (y, q, p1)))
        (λ j1 _ j3 j4 _. (i1 ∙ sym j1, i3 ∙ sym j3, i4 ∙ sym j4)))

    free' : ((c : ℕ) → HasChunk a c → (HasChunk a' c → ⊥) → (w'.next c ≡ 0) × ((k : ℕ) → k < 256 → w'.slot c k ≡ blank)) → (c : ℕ) → IsFree leaves' c → (w'.next c ≡ 0) × ((k : ℕ) → k < 256 → w'.slot c k ≡ blank)
    free' gone c none = ⊎_elim (λ has. gone c has (none l a' (at_set_same leaves l a a' leaf)))
        (λ never. let y = lists.free c (λ h e at has. dite (ℕ_discrete h l)
        (λ is. never (subst (λ (x : Leaf). HasChunk x c) (at_same leaves l e a (subst (λ (j : ℕ). IsAt leaves j e) is at) leaf) has))
        (λ ne. none h e (at_set_other leaves l h a' e ne at) has)) in
        (other.nexts c never ∙ y.0, λ k lt. other.slots c k never ∙ y.1 k lt)) (has_or a c)

    pub lists_frame : IsList (w'.claim l) (w'.first l) w'.next w'.slot a' → a'.granted ≡ a.granted
        → ((c : ℕ) → HasChunk a c → (HasChunk a' c → ⊥) → (w'.next c ≡ 0) × ((k : ℕ) → k < 256 → w'.slot c k ≡ blank)) → AreLists w' leaves'
    lists_frame mine same gone = record {
      lists = λ h e p. at_set leaves l h a' e (IsList (w'.claim h) (w'.first h) w'.next w'.slot e) p
          (λ is d. subst (λ (j : ℕ). IsList (w'.claim j) (w'.first j) w'.next w'.slot e) (sym is) (subst (IsList (w'.claim l) (w'.first l) w'.next w'.slot) d mine))
          (λ ne old. subst (λ (x : Word). IsList x (w'.first h) w'.next w'.slot e) (sym (other.claims h ne))
          (subst (λ (x : ℕ). IsList (w.claim h) x w'.next w'.slot e) (sym (other.firsts h ne))
          (same_list (w.claim h) (w.first h) w.next w'.next w.slot w'.slot e (λ c has. other.nexts c (apart h c e ne old has)) (λ c k has lt. other.slots c k (apart h c e ne old has)) (lists.lists h e old))));
      free = free' gone;
      once = once';
      few = let z = total_same (λ (a : Leaf). a.granted) leaves l a a' leaf same in let y = lists.few in omega arith;
    }

  -- the same, where the chunks are the same
  pub lists_frame_same : ((x : Chain) (r c : ℕ) → IsAt (chain_of a' x) r c → IsAt (chain_of a x) r c) → ((c : ℕ) → HasChunk a c → HasChunk a' c) → IsList (w'.claim l) (w'.first l) w'.next w'.slot a' → a'.granted ≡ a.granted → AreLists w' leaves'
  lists_frame_same fewer kept mine same = lists_frame claimed_chain 0 0 (λ x r c p. inl (fewer x r c p)) mine same (λ c has never. absurd (never (kept c has)))

  -- all seats
  pub known_frame : (facts : List Fact) (guests : List Guest) → AreKnown w leaves facts guests
      → ((j : ℕ) (v : Guest) → IsAt guests j v → v.out ≡ true → Reached v.birth a.stage → StaysIn w w' l a a' v)
      → ((k : ℕ) (f : Fact) → IsAt facts k f → list_of f ≡ l → IsOwned w f a → IsOwned w' f a')
      → (w'.claim l).value + total (λ (v : Guest). granted_in l v.grants) guests ≤ a'.granted
      → AreKnown w' leaves' facts guests
  known_frame facts guests s stays owned granted = record {
    seats = λ j v p. seat_on j v p (s.seats j v p);
    owner = λ k f p. of_leaf leaves l (list_of f) a a' (IsOwned w f) (IsOwned w' f) leaf (s.owner k f p)
        (λ ne e at t. (⊎_elim (λ z. holds_on f e at ne z.1 t.0) (λ is. closed_on f e at ne is t.0) t.1, t.1))
        (λ is t. owned k f p is t);
    apart = s.apart;
    granted = each_set (λ (h : ℕ) (e : Leaf). (w'.claim h).value + total (λ (v : Guest). granted_in h v.grants) guests ≤ e.granted) leaves l a'
        (λ h e ne p. subst (λ (x : Word). x.value + total (λ (v : Guest). granted_in h v.grants) guests ≤ e.granted) (sym (other.claims h ne)) (s.granted h e p)) granted;
  } where
    seat_on : (j : ℕ) (v : Guest) → IsAt guests j v → IsSeat w leaves v → IsSeat w' leaves' v
    seat_on j v at y = record {
      facts = λ k f p. let out = must_be_out w leaves v y (λ z. at_nothing k f (subst (λ (fs : List Fact). IsAt fs k f) z.0 p)) in
          of_leaf leaves l (list_of f) a a' (IsStated w v.birth f) (IsStated w' v.birth f) leaf (y.facts k f p)
          (λ ne e at t. record { reached = t.reached; within = t.within; holds = holds_on f e at ne t.within t.holds })
          (λ is t. let z = stays j v at out t.reached in let u = z.facts f is t.within t.holds in record { reached = z.reached; within = u.0; holds = u.1 });
      grants = λ h g. let out = must_be_out w leaves v y (λ z. let e = z.2 h in omega arith) in
          of_leaf leaves l h a a' (λ e. Reached v.birth e.stage) (λ e. Reached v.birth e.stage) leaf (y.grants h g) (λ ne e at t. t) (λ is t. (stays j v at out t).reached);
      claim = λ h i c. let out = must_be_out w leaves v y (λ z. let d = sym c ∙ z.1 in absurd (cc)) in
          of_leaf leaves l h a a' (IsClaimed (w.claim h) w.slot v.birth i) (IsClaimed (w'.claim h) w'.slot v.birth i) leaf (y.claim h i c)
          (λ ne e at t. claim_on h i v.birth e at ne t)
          (λ is t. subst (λ (g : ℕ). IsClaimed (w'.claim g) w'.slot v.birth i a') (sym is) ((stays j v at out t.reached).claim i (c ∙ ap (λ (g : ℕ). Place g i) is) (subst (λ (g : ℕ). IsClaimed (w.claim g) w.slot v.birth i a) is t)));
      spent = y.spent;
    }

-- the order of shut lists, where the place of the one list stays
pub order_frame : (leaves : List Leaf) (order : List ℕ) (cleared l : ℕ) (a a' : Leaf) → IsAt leaves l a → AreOrdered leaves order cleared → place_of a'.stage ≡ place_of a.stage → IsBegun cleared a'.stage
    → ((p n : ℕ) → a'.stage ≡ Cleared p n → suc p < cleared → (a'.claimed ≡ []) × (a'.owned ≡ [])) → AreOrdered (set leaves l a') order cleared
order_frame leaves order cleared l a a' leaf s place begun ended = record {
  places = λ h p e at is. at_set leaves l h a' e (IsAt order p h) at (λ same d. subst (IsAt order p) (sym same) (s.places l p a leaf (sym place ∙ (ap (λ (x : Leaf). place_of x.stage) d ∙ is)))) (λ ne old. s.places h p e old is);
  listed = λ p h at. of_leaf leaves l h a a' (λ e. place_of e.stage ≡ Some p) (λ e. place_of e.stage ≡ Some p) leaf (s.listed p h at) (λ ne e at t. t) (λ is t. place ∙ t);
  begun = each_set (λ (h : ℕ) (e : Leaf). IsBegun cleared e.stage) leaves l a' (λ h e _ at. s.begun h e at) begun;
  ended = λ h p n. each_set (λ (h : ℕ) (e : Leaf). e.stage ≡ Cleared p n → suc p < cleared → (e.claimed ≡ []) × (e.owned ≡ [])) leaves l a' (λ h e _ at. s.ended h p n e at) (ended p n) h;
  within_order = s.within_order;
}
