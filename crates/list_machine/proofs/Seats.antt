-- Making a seat, and taking it back, keep the rule.
use Rattle.std.proofs.Common.{◌≡◌, ℕ, zero, suc, ◌+◌, ◌-◌, ◌*◌, ◌<◌, ◌≤◌, ◌≢◌, inl, inr, ⊎_elim, Bool, true, cond, List, [], ◌∷◌, ◌++◌, length, get_or, set, sym, refl, ap, ◌∙◌, subst, arith, get_or-set_same, get_or-set_other, length-set, eq-eqb, ne_eqb}
use Rattle.std.specs.Prelude.{Some, nat_eq, ◌&&◌, not}
use Rattle.std.proofs.lemmas.Option.{none-some, same_Some}
use mathlib.Core.Logic.{dite}
use native.Mathlib.Decide.{ℕ_discrete}
use Rattle.list_machine.specs.State.{Words}
use Rattle.list_machine.specs.Grants.{granted_in}
use Rattle.list_machine.specs.Facts.{IsAt, total, Chain, claimed_chain, owned_chain, chain_of, list_of, Within, is_shut, place_of, Reached}
use Rattle.list_machine.specs.Rule.{HoldsAt, IsList, AreLists, IsBegun, AreOrdered, OfLeaf, IsStated, IsClaimed, IsSeat, IsOwned, AreKnown, AreCounted, counts, Sound}
use Rattle.list_machine.specs.Steps.{with_grant, leaves_after_grants, is_open_at, after_split, newcomer, IsGrantable, nobody, after_join}
use Rattle.list_machine.specs.declared.views.Grant.{Grant}
use Rattle.list_machine.specs.declared.views.Fact.{Fact}
use Rattle.list_machine.specs.declared.views.Stage.{Stage}
use Rattle.list_machine.specs.declared.views.Stage.TheVariants.{Open, Swept, Cleared}
use Rattle.list_machine.specs.declared.views.Unfiled.TheVariants.{Nothing, Place}
use Rattle.list_machine.specs.declared.views.Leaf.{Leaf}
use Rattle.list_machine.specs.declared.views.Owner.{Owner}
use Rattle.list_machine.specs.declared.views.Guest.{Guest}
use Rattle.list_machine.proofs.Lists.{at_same, each_set, at_more, at_both, at_nothing, at_filter, total_set, total_more}
use Rattle.list_machine.proofs.Stages.{as_open, within_more}
use Rattle.list_machine.proofs.Frames.{stands_if}
use Rattle.list_machine.proofs.Guests.{guest_known, owner_knows}

pub granting_at : (es : List Leaf) (gs : List Grant) (n i m : ℕ) (a : Leaf) → m ≡ n + i → IsAt es i a → IsAt (leaves_after_grants n es gs) i (with_grant a (granted_in m gs))
granting_at [] gs n i m a is p = absurd (none-some a p)
granting_at (e ∷ es) gs n zero m a is p = let same : n ≡ m = omega arith in let d = same_Some e a p in λ t. Some (with_grant (d t) (granted_in (same t) gs))
granting_at (e ∷ es) gs n (suc i) m a is p = granting_at es gs (suc n) i m a (omega arith) p

pub each_granting : (P : ℕ → Leaf → Type 0) (es : List Leaf) (gs : List Grant) (n : ℕ) → ((i m : ℕ) (a : Leaf) → m ≡ n + i → IsAt es i a → P i (with_grant a (granted_in m gs))) → (i : ℕ) (e : Leaf) → IsAt (leaves_after_grants n es gs) i e → P i e
each_granting P [] gs n h i e p = absurd (none-some e p)
each_granting P (a ∷ es) gs n h zero e p = subst (P 0) (same_Some (with_grant a (granted_in n gs)) e p) (h 0 n a (omega arith) refl)
each_granting P (a ∷ es) gs n h (suc i) e p = each_granting (λ (k : ℕ). P (suc k)) es gs (suc n) (λ k m b is q. h (suc k) m b (omega arith) q) i e p

grant_chain : (a : Leaf) (n : ℕ) (x : Chain) (r c : ℕ) → IsAt (chain_of a x) r c → IsAt (chain_of (with_grant a n) x) r c
grant_chain a n claimed_chain r c p = p
grant_chain a n owned_chain r c p = p

grant_chain_was : (a : Leaf) (n : ℕ) (x : Chain) (r c : ℕ) → IsAt (chain_of (with_grant a n) x) r c → IsAt (chain_of a x) r c
grant_chain_was a n claimed_chain r c p = p
grant_chain_was a n owned_chain r c p = p

open_leaf : (es : List Leaf) (l : ℕ) (a : Leaf) → IsAt es l a → is_open_at es l ≡ true → a.stage ≡ Open
open_leaf [] l a p e = absurd (none-some a p)
open_leaf (x ∷ es) zero a p e = ap (λ (y : Leaf). y.stage) (sym (same_Some x a p)) ∙ by x.stage e where
  by : (t : Stage) → not (is_shut t) ≡ true → t ≡ Open
  by Open e = refl
  by (Swept p f m) e = absurd (cc)
  by (Cleared p n) e = absurd (cc)
open_leaf (x ∷ es) (suc l) a p e = open_leaf es l a p e

-- 1 for a seat that counts at b
pub one_if : (b c : ℕ) → (c ≡ b → ◌≡◌ {A = ℕ} (cond (nat_eq c b) 1 0) 1) × (c ≢ b → ◌≡◌ {A = ℕ} (cond (nat_eq c b) 1 0) 0)
one_if b c = ((λ e. ap (λ (x : Bool). cond {A = ℕ} x 1 0) (eq-eqb c b e)), (λ ne. ap (λ (x : Bool). cond {A = ℕ} x 1 0) (ne_eqb c b ne)))

pub counts_out : (b : ℕ) (v : Guest) → v.out ≡ true → counts b v ≡ cond {A = ℕ} (nat_eq v.birth b) 1 0
counts_out b v out = ap (λ (t : Bool). cond {A = ℕ} (t && nat_eq v.birth b) 1 0) out

-- a seat that is out is counted
pub total_one : (guests : List Guest) (j : ℕ) (v : Guest) → IsAt guests j v → v.out ≡ true → 0 < total (counts v.birth) guests
total_one [] j v p out = absurd (none-some v p)
total_one (u ∷ us) zero v p out = let is : counts v.birth u ≡ 1 = ap (counts v.birth) (same_Some u v p) ∙ (counts_out v.birth v out ∙ (one_if v.birth v.birth).0 refl) in omega arith
total_one (u ∷ us) (suc j) v p out = let h = total_one us j v p out in omega arith

-- a list with one number raised or lowered
read_set : (xs : List ℕ) (i n b : ℕ) → i < length xs → (b ≡ i → get_or (set xs i n) b 0 ≡ n) × (b ≢ i → get_or (set xs i n) b 0 ≡ get_or xs b 0)
read_set xs i n b lt = ((λ e. ap (λ (x : ℕ). get_or (set xs i n) x 0) e ∙ get_or-set_same xs i n 0 lt), (λ ne. get_or-set_other xs i b n 0 ne))

module _ (w : Words) (o : Owner) (guests : List Guest) (s : Sound w o guests) (gs : List Grant) (fit : IsGrantable o.book.leaves gs) where
  abbrev leaves : List Leaf
  leaves = o.book.leaves

  abbrev leaves' : List Leaf
  leaves' = leaves_after_grants 0 leaves gs

  abbrev shuts : ℕ
  shuts = length o.book.order

  abbrev v : Guest
  v = newcomer o gs

  here : (l : ℕ) (a : Leaf) → IsAt leaves l a → IsAt leaves' l (with_grant a (granted_in l gs))
  here l a p = granting_at leaves gs 0 l l a (omega arith) p

  each : (P : ℕ → Leaf → Type 0) → ((l : ℕ) (a : Leaf) → IsAt leaves l a → P l (with_grant a (granted_in l gs))) → (l : ℕ) (e : Leaf) → IsAt leaves' l e → P l e
  each P h l e p = each_granting P leaves gs 0 (λ i m a is q. let same : i ≡ m = omega arith in subst (λ (k : ℕ). P i (with_grant a (granted_in k gs))) same (h i a q)) l e p

  leaf_on : (l : ℕ) (P : Leaf → Type 0) → ((a : Leaf) → P a → P (with_grant a (granted_in l gs))) → OfLeaf leaves l P → OfLeaf leaves' l P
  leaf_on l P on t = (with_grant t.0 (granted_in l gs), here l t.0 t.1, on t.0 t.2)

  within_on : (a : Leaf) (n : ℕ) (f : Fact) → Within a f → Within (with_grant a n) f
  within_on a n f h = within_more a (with_grant a n) (grant_chain a n) f h

  stated_on : (b : ℕ) (f : Fact) → OfLeaf leaves (list_of f) (IsStated w b f) → OfLeaf leaves' (list_of f) (IsStated w b f)
  stated_on b f t = leaf_on (list_of f) (IsStated w b f) (λ a y. record { reached = y.reached; within = within_on a (granted_in (list_of f) gs) f y.within; holds = y.holds }) t

  list_on : (l : ℕ) (a : Leaf) → IsAt leaves l a → IsList (w.claim l) (w.first l) w.next w.slot (with_grant a (granted_in l gs))
  list_on l a p = let y = s.shape.lists.lists l a p in dite (ℕ_discrete (granted_in l gs) 0)
      (λ e. let same : a.granted ≡ a.granted + granted_in l gs = omega arith in
      subst (IsList (w.claim l) (w.first l) w.next w.slot) (λ i. record { claimed = a.claimed; owned = a.owned; granted = same i; used = a.used; stage = a.stage }) y)
      (λ ne. let t = fit.lists l (omega arith) in let is = at_same leaves l t.0 a t.1 p in let unshut : a.stage ≡ Open = ap (λ (e : Leaf). e.stage) (sym is) ∙ t.2 in
      let room : a.granted + granted_in l gs ≤ 256 * length a.claimed = subst (λ (e : Leaf). e.granted + granted_in l gs ≤ 256 * length e.claimed) is t.3 in
      let z = as_open (w.claim l) (w.first l) w.next w.slot a unshut y in record {
        counted = let few = y.counted in omega arith;
        shown = y.shown;
        now = subst (HoldsAt (w.claim l) (w.first l) w.next w.slot (with_grant a (granted_in l gs))) (sym unshut) (
          record { filled = z.0.filled; unused = z.0.unused; used = z.0.used; room = room; linked = z.0.linked; ended = z.0.ended; small = λ c has. z.0.small c (has.0, has.1, grant_chain_was a (granted_in l gs) has.0 has.1 c has.2) },
          λ c k has lt. z.1 c k (has.0, has.1, grant_chain_was a (granted_in l gs) has.0 has.1 c has.2) lt,
        );
      })

  lists' : AreLists w leaves'
  lists' = record {
    lists = each (λ (l : ℕ) (e : Leaf). IsList (w.claim l) (w.first l) w.next w.slot e) list_on;
    free = λ c none. s.shape.lists.free c (λ l a p has. none l (with_grant a (granted_in l gs)) (here l a p) (has.0, has.1, grant_chain a (granted_in l gs) has.0 has.1 c has.2));
    once = λ l h a e x y r q c p p' m n. each (λ (l : ℕ) (a : Leaf). IsAt (chain_of a x) r c → (l ≡ h) × (x ≡ y) × (r ≡ q))
        (λ l a p m. each (λ (h : ℕ) (e : Leaf). IsAt (chain_of e y) q c → (l ≡ h) × (x ≡ y) × (r ≡ q))
        (λ h e p' n. s.shape.lists.once l h a e x y r q c p p' (grant_chain_was a (granted_in l gs) x r c m) (grant_chain_was e (granted_in h gs) y q c n)) h e p' n) l a p m;
    few = fit.few;
  }

  order' : AreOrdered leaves' o.book.order o.book.cleared
  order' = let y = s.shape.order in record {
    places = λ l p a at is. each (λ (l : ℕ) (a : Leaf). place_of a.stage ≡ Some p → IsAt o.book.order p l) (λ l a at is. y.places l p a at is) l a at is;
    listed = λ p l at. leaf_on l (λ a. place_of a.stage ≡ Some p) (λ a t. t) (y.listed p l at);
    begun = each (λ (l : ℕ) (a : Leaf). IsBegun o.book.cleared a.stage) y.begun;
    ended = λ l p n a at. each (λ (l : ℕ) (a : Leaf). a.stage ≡ Cleared p n → suc p < o.book.cleared → (a.claimed ≡ []) × (a.owned ≡ [])) (λ l a at. y.ended l p n a at) l a at;
    within_order = y.within_order;
  }

  seat_on : (u : Guest) → IsSeat w leaves u → IsSeat w leaves' u
  seat_on u y = record {
    facts = λ k f p. stated_on u.birth f (y.facts k f p);
    grants = λ l g. leaf_on l (λ a. Reached u.birth a.stage) (λ a t. t) (y.grants l g);
    claim = λ l i e. leaf_on l (IsClaimed (w.claim l) w.slot u.birth i) (λ a t. record { reached = t.reached; below = t.below; vacant = t.vacant; before = t.before }) (y.claim l i e);
    spent = y.spent;
  }

  newborn : IsSeat w leaves' v
  newborn = record {
    facts = λ k f p. let t = at_filter (λ (f : Fact). is_open_at leaves (list_of f)) o.facts k f p in let y = s.known.owner t.0 f t.1 in let unshut = open_leaf leaves (list_of f) y.0 y.1 t.2 in
        stated_on shuts f (y.0, y.1, record { reached = subst (Reached shuts) (sym unshut) tt; within = ⊎_elim (λ z. z.1) (λ is. subst (Within y.0) (sym is) tt) y.2.1; holds = y.2.0 });
    grants = λ l g. let t = fit.lists l g in leaf_on l (λ a. Reached shuts a.stage) (λ a t. t) (t.0, t.1, subst (Reached shuts) (sym t.2) tt);
    claim = λ l i e. absurd (cc);
    spent = λ e. absurd (cc);
  }

  known' : AreKnown w leaves' o.facts (guests ++ v ∷ [])
  known' = record {
    seats = λ j u p. at_more guests v j u (IsSeat w leaves' u) p (λ old. seat_on u (s.known.seats j u old)) (λ _ e. subst (IsSeat w leaves') e newborn);
    owner = λ k f p. leaf_on (list_of f) (IsOwned w f) (λ a t. (t.0, ⊎_elim (λ z. inl (z.0, within_on a (granted_in (list_of f) gs) f z.1)) inr t.1)) (s.known.owner k f p);
    apart = λ j h l i u x p q c d. at_more guests v j u (j ≡ h) p
        (λ p'. at_more guests v h x (j ≡ h) q (λ q'. s.known.apart j h l i u x p' q' c d) (λ _ e. absurd (no_claim x l i e d)))
        (λ _ e. absurd (no_claim u l i e c));
    granted = each (λ (l : ℕ) (e : Leaf). (w.claim l).value + total (λ (u : Guest). granted_in l u.grants) (guests ++ v ∷ []) ≤ e.granted)
        (λ l a p. let y = s.known.granted l a p in let z = total_more (λ (u : Guest). granted_in l u.grants) guests v in omega arith);
  } where
    no_claim : (u : Guest) (l i : ℕ) → v ≡ u → u.claim ≡ Place l i → ⊥
    no_claim u l i e c = let d : u.claim ≡ Nothing = ap (λ (g : Guest). g.claim) (sym e) in let z = sym c ∙ d in absurd (cc)

  counted' : AreCounted shuts o.book.cleared (set o.out shuts (suc (get_or o.out shuts 0))) (guests ++ v ∷ [])
  counted' = let y = s.counted in record {
    births = λ b. let old = y.births b in let more = total_more (counts b) guests v in let one = one_if b shuts in let long = y.numbers in let read = read_set o.out shuts (suc (get_or o.out shuts 0)) b (omega arith) in
        dite (ℕ_discrete b shuts)
        (λ e. let u : counts b v ≡ 1 = one.0 (sym e) in let g = read.0 e in let same : get_or o.out b 0 ≡ get_or o.out shuts 0 = ap (λ (x : ℕ). get_or o.out x 0) e in omega arith)
        (λ ne. let u : counts b v ≡ 0 = one.1 (λ e. ne (sym e)) in let g = read.1 ne in omega arith);
    numbers = length-set o.out shuts (suc (get_or o.out shuts 0)) ∙ y.numbers;
    born = λ j u p out. at_more guests v j u ((o.book.cleared ≤ u.birth) × (u.birth ≤ shuts)) p (λ old. y.born j u old out)
        (λ _ e. subst (λ (x : Guest). (o.book.cleared ≤ x.birth) × (x.birth ≤ shuts)) e (s.shape.order.within_order, omega arith));
  }

  pub splits : Sound w (after_split o gs) (guests ++ v ∷ [])
  splits = record { shape = record { lists = lists'; order = order' }; known = known'; counted = counted' }

module _ (w : Words) (o : Owner) (guests : List Guest) (s : Sound w o guests) (j : ℕ) (v : Guest) (at : IsAt guests j v) (out : v.out ≡ true) where
  mine : IsSeat w o.book.leaves v
  mine = s.known.seats j v at

  joined : AreKnown w o.book.leaves (v.facts ++ o.facts) (set guests j nobody)
  joined = owner_knows w o.book.leaves o.facts (v.facts ++ o.facts) (set guests j nobody)
      (guest_known w o.book.leaves o.facts guests j v nobody s.known at
      (record { facts = λ k f p. absurd (at_nothing k f p); grants = λ l g. absurd (omega arith); claim = λ l i e. absurd (cc); spent = λ _. (refl, refl, λ l. refl) })
      (λ l. omega arith) (λ i l k u ne p e. absurd (cc)))
      (λ k f p. at_both v.facts o.facts k f (OfLeaf o.book.leaves (list_of f) (IsOwned w f)) p
      (λ q y. let t = mine.facts q f y in (t.0, t.1, (t.2.holds, inl (stands_if o.book.cleared v.birth t.0.stage (s.shape.order.begun (list_of f) t.0 t.1) (s.counted.born j v at out).0 t.2.reached, t.2.within))))
      (λ q y. s.known.owner q f y))

  pub joins : Sound w (after_join o v) (set guests j nobody)
  joins = record {
    shape = s.shape;
    known = joined;
    counted = let y = s.counted in record {
      births = λ b. let old = y.births b in let change = total_set (counts b) guests j v nobody at in let long = y.numbers in let born = (y.born j v at out).1 in let one = one_if b v.birth in let is = counts_out b v out in
          let read = read_set o.out v.birth (get_or o.out v.birth 0 - 1) b (omega arith) in
          dite (ℕ_discrete b v.birth)
          (λ e. let n = one.0 (sym e) in let g = read.0 e in let same : get_or o.out b 0 ≡ get_or o.out v.birth 0 = ap (λ (x : ℕ). get_or o.out x 0) e in omega arith)
          (λ ne. let n = one.1 (λ e. ne (sym e)) in let g = read.1 ne in omega arith);
      numbers = length-set o.out v.birth (get_or o.out v.birth 0 - 1) ∙ y.numbers;
      born = each_set (λ _ (u : Guest). u.out ≡ true → (o.book.cleared ≤ u.birth) × (u.birth ≤ length o.book.order)) guests j nobody (λ i u _ p. y.born i u p) (λ e. absurd (cc));
    };
  }
