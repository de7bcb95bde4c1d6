-- A filing by a claim, a walk and a slot.
use Rattle.std.proofs.Common.{◌≡◌, ℕ, suc, ◌+◌, ◌/◌, ◌%◌, ◌<◌, ◌≤◌, Bool, true, false, cond, List, ◌∷◌, set, sym, refl, ap, ◌∙◌, subst, arith}
use Rattle.std.specs.Prelude.{Option, Some, None}
use mathlib.Core.Logic.{dite}
use native.Mathlib.Decide.{ℕ_discrete}
use Rattle.list_machine.specs.Words.{Word}
use Rattle.list_machine.specs.Grants.{granted_in, use_grant}
use Rattle.list_machine.specs.Facts.{IsAt}
use Rattle.list_machine.specs.Steps.{KnowsChunk, after_claim}
use Rattle.list_machine.specs.declared.views.Grant.{Grant}
use Rattle.list_machine.specs.declared.views.Fact.TheVariants.{Item, Closed, Empty}
use Rattle.list_machine.specs.declared.views.Unfiled.TheVariants.{Nothing, Place}
use Rattle.list_machine.specs.declared.views.Guest.{Guest}
use Rattle.list_machine.specs.declared.words.Claimed.{Claimed}
use Rattle.list_machine.specs.declared.words.Claimed.TheVariants.{Index, Shut}
use Rattle.list_machine.proofs.Lists.{at_same, at_set_same, at_set_other, each_set}
use Rattle.list_machine.proofs.Grants.{used_else}
use Rattle.list_table.specs.GuestMoves.{IsAfterClaim, IsPast, after_file, claimed_by}
use Rattle.list_words.specs.declared.leaf_lists.Filed.TheVariants.{Late}
use Rattle.list_words.specs.declared.leaf_lists.Seen.TheVariants.{Shut as SawShut}
use Rattle.list_filers.specs.Cursors.{HasCursor, cursor_at, next_rank}
use Rattle.list_filers.specs.Ways.{WaysValue, Stands, IsLater, IsReady, IsUsed, filed, shut, moved, IsSpent, IsShown, HasReached, HasFiled, answer_of, ways_with}
use Rattle.list_filers.specs.declared.cursors.Cursor.{Cursor}
use Rattle.list_filers.specs.declared.cursors.Reached.{Reached}
use Rattle.list_filers.proofs.Walking.{Grows, grows_by, claim_grows, file_grows}
use Rattle.list_filers.proofs.Going.{later_by}

-- a list in which a grant is left had one before
left_before : (l h : ℕ) (gs : List Grant) → 0 < granted_in l gs → 0 < granted_in h (use_grant l gs) → 0 < granted_in h gs
left_before l h gs some left = dite (ℕ_discrete h l)
    (λ e. subst (λ (k : ℕ). 0 < granted_in k gs) (sym e) some)
    (λ n. let same = used_else l h gs n in omega arith)

used_still : (v u : Guest) (l c : ℕ) → Grows v.facts u.facts → IsUsed v l c → IsUsed u l c
used_still v u l c more (filed k x q) = filed k x (more (Item l c k x) q)
used_still v u l c more (shut q) = shut (more (Closed l) q)
used_still v u l c more (moved d k q) = moved d k (more (Empty l d k) q)

spent_still : (v u : Guest) (l : ℕ) (o : Option Reached) → Grows v.facts u.facts → IsSpent v l o → IsSpent u l o
spent_still v u l None more s = tt
spent_still v u l (Some p) more s = used_still v u l p.chunk more s

-- the parts of an answer
abbrev index_in : Claimed → ℕ
index_in (Index i) = i
index_in Shut = 0

abbrev is_index : Claimed → Bool
is_index (Index i) = true
is_index Shut = false

-- a claim that found the list shut
abbrev shut_guest : Guest → ℕ → Guest
shut_guest v l = record v { grants = use_grant l v.grants; claim = Nothing; facts = Closed l ∷ v.facts }

if_shut : (v : Guest) (l : ℕ) (x : Word) → x.high ≡ true → after_claim v l x ≡ shut_guest v l
if_shut v l x e = λ k. record v { grants = use_grant l v.grants; claim = cond (e k) Nothing (Place l x.value); facts = cond (e k) (Closed l ∷ v.facts) v.facts }

is_high : (x : Word) (b : Bool) → x.high ≡ b → Shut ≡ claimed_by x → x.high ≡ true
is_high x true e is = e
is_high x false e is = let t : false ≡ true = ap is_index (is ∙ (λ k. cond (e k) Shut (Index x.value))) in absurd (cc)

shut_is : (v u : Guest) (l : ℕ) → IsAfterClaim v u l Shut → u ≡ shut_guest v l
shut_is v u l p = p.seat_is ∙ if_shut v l p.word (is_high p.word p.word.high refl p.answer_is)

shut_ready : (v : Guest) (cursors : List Cursor) (l : ℕ) → IsReady v cursors → 0 < granted_in l v.grants → IsReady (shut_guest v l) cursors
shut_ready v cursors l r some = record {
  is_out = r.is_out;
  idle = refl;
  granted = λ h left. r.granted h (left_before l h v.grants some left);
  spent = λ i a p. spent_still v (shut_guest v l) a.list a.reached (grows_by (Closed l) v.facts) (r.spent i a p);
}

shut_filed : (w : WaysValue) (l x : ℕ) → IsReady w.guest w.cursors → 0 < granted_in l w.guest.grants → HasFiled w (ways_with w (shut_guest w.guest l)) l x (Late SawShut)
shut_filed w l x r some = record {
  lists = refl;
  later = record { birth = refl; still_out = refl; knows = grows_by (Closed l) w.guest.facts };
  grants = refl;
  ready = shut_ready w.guest w.cursors l r some;
  shown = (0, refl);
}

pub comes_late : (w u : WaysValue) (l x : ℕ) → IsReady w.guest w.cursors → 0 < granted_in l w.guest.grants → u ≡ ways_with w u.guest → IsAfterClaim w.guest u.guest l Shut → HasFiled w u l x (Late SawShut)
comes_late w u l x r some rest p = subst (λ (y : WaysValue). HasFiled w y l x (Late SawShut)) (sym (rest ∙ ap (ways_with w) (shut_is w.guest u.guest l p))) (shut_filed w l x r some)

-- a claim that got a place
index_is : (v : Guest) (l i : ℕ) (x : Word) (b : Bool) → x.high ≡ b → Index i ≡ claimed_by x → (after_claim v l x).claim ≡ Place l i
index_is v l i x true e is = let t : true ≡ false = ap is_index (is ∙ (λ k. cond (e k) Shut (Index x.value))) in absurd (cc)
index_is v l i x false e is =
    let same : i ≡ x.value = ap index_in (is ∙ (λ k. cond (e k) Shut (Index x.value))) in
    (λ k. cond (e k) Nothing (Place l x.value)) ∙ ap (Place l) (sym same)

claims_place : (v u : Guest) (l i : ℕ) → IsAfterClaim v u l (Index i) → u.claim ≡ Place l i
claims_place v u l i p = ap (λ (x : Guest). x.claim) p.seat_is ∙ index_is v l i p.word p.word.high refl p.answer_is

-- the place is not before the chunk that the cursor has reached
place_past : (chunks walked l i : ℕ) (v : Guest) (o : Option Reached) → IsPast v l i → Stands chunks v walked l o → IsSpent v l o → next_rank o ≤ i / 256 + 1
place_past chunks walked l i v None past s t = omega arith
place_past chunks walked l i v (Some p) past s t = by t where
  by : IsUsed v l p.chunk → suc p.rank ≤ i / 256 + 1
  by (filed k x q) = let lt = past.items p.rank p.chunk k x s.0 q in omega arith
  by (shut q) = absurd (past.not_shut q)
  by (moved d k q) = absurd (past.not_marked d k q)

-- so the cursor may go there
pub may_go : (w u : WaysValue) (at l i : ℕ) (a : Cursor) → IsReady w.guest w.cursors → u ≡ ways_with w u.guest → IsAfterClaim w.guest u.guest l (Index i) → IsAt w.cursors at a → a.list ≡ l → Stands w.lists.chunks w.guest w.walked a.list a.reached
    → (b : Cursor) × IsAt u.cursors at b × (u.guest.claim ≡ Place b.list i) × (next_rank b.reached ≤ i / 256 + 1)
may_go w u at l i a r rest p here e s = (
  a,
  subst (λ (y : WaysValue). IsAt y.cursors at a) (sym rest) here,
  claims_place w.guest u.guest l i p ∙ (λ k. Place (sym e k) i),
  place_past w.lists.chunks w.walked a.list i w.guest a.reached (subst (λ (h : ℕ). IsPast w.guest h i) (sym e) (p.past i refl)) s (r.spent at a here),
)

-- it has come there
pub stands_there : (u y : WaysValue) (at l r c : ℕ) (a : Cursor) → IsAt u.cursors at a → a.list ≡ l → HasReached u y at r c → y.cursors ≡ set u.cursors at (cursor_at l r c)
stands_there u y at l r c a here e reached = reached.cursors a here ∙ (λ k. set u.cursors at (cursor_at (e k) r c))

has_cursor_still : (cursors : List Cursor) (i l r c h : ℕ) (a : Cursor) → IsAt cursors i a → a.list ≡ l → HasCursor cursors h → HasCursor (set cursors i (cursor_at l r c)) h
has_cursor_still cursors i l r c h a here e has = dite (ℕ_discrete has.0 i)
    (λ same. (i, cursor_at l r c, at_set_same cursors i a (cursor_at l r c) here, sym e ∙ ap (λ (x : Cursor). x.list) (at_same cursors i a has.1 here (subst (λ (k : ℕ). IsAt cursors k has.1) same has.2)) ∙ has.3))
    (λ n. (has.0, has.1, at_set_other cursors i has.0 (cursor_at l r c) has.1 n has.2, has.3))

uses_chunk : (v : Guest) (l c k x : ℕ) (stands : Bool) → IsUsed (after_file v l c k x stands) l c
uses_chunk v l c k x true = filed k x (0, refl)
uses_chunk v l c k x false = moved c k (0, refl)

shows : (v : Guest) (l c k x r : ℕ) (stands : Bool) → KnowsChunk (after_file v l c k x stands) l r c → IsShown (after_file v l c k x stands) l x (answer_of stands c k)
shows v l c k x r true known = ((0, refl), (r, known))
shows v l c k x r false known = ((0, refl), (r, known))

module _ (w u y : WaysValue) (at l i c x : ℕ) (stands : Bool) (a : Cursor) (ready : IsReady w.guest w.cursors) (some : 0 < granted_in l w.guest.grants) (here : IsAt w.cursors at a) (list : a.list ≡ l)
    (rest : u ≡ ways_with w u.guest) (claimed : IsAfterClaim w.guest u.guest l (Index i)) (reached : HasReached u y at (i / 256) c) where
  abbrev pub last : WaysValue
  last = ways_with y (after_file y.guest l c (i % 256) x stands)

  cursors_are : y.cursors ≡ set w.cursors at (cursor_at l (i / 256) c)
  cursors_are = stands_there u y at l (i / 256) c a (subst (λ (z : WaysValue). IsAt z.cursors at a) (sym rest) here) list reached ∙ (λ k. set (rest k).cursors at (cursor_at l (i / 256) c))

  grants_are : y.guest.grants ≡ use_grant l w.guest.grants
  grants_are = reached.grants ∙ ap (λ (v : Guest). v.grants) claimed.seat_is

  -- the guest's life from the filing's start to its end
  later : IsLater w.guest last.guest
  later = later_by w.guest u.guest last.guest (record { birth = ap (λ (v : Guest). v.birth) claimed.seat_is; still_out = ap (λ (v : Guest). v.out) claimed.seat_is; knows = claim_grows w.guest u.guest l (Index i) claimed })
      (later_by u.guest y.guest last.guest reached.later (record { birth = refl; still_out = refl; knows = file_grows y.guest last.guest l c (i % 256) x stands refl }))

  last_ready : IsReady last.guest last.cursors
  last_ready = record {
    is_out = later.still_out ∙ ready.is_out;
    idle = refl;
    granted = λ h left. subst (λ (cs : List Cursor). HasCursor cs h) (sym cursors_are) (has_cursor_still w.cursors at l (i / 256) c h a here list (ready.granted h (left_before l h w.guest.grants some (subst (λ (gs : List Grant). 0 < granted_in h gs) grants_are left))));
    spent = subst (λ (cs : List Cursor). (j : ℕ) (b : Cursor) → IsAt cs j b → IsSpent last.guest b.list b.reached) (sym cursors_are)
        (each_set (λ j b. IsSpent last.guest b.list b.reached) w.cursors at (cursor_at l (i / 256) c) (λ j b n p. spent_still w.guest last.guest b.list b.reached later.knows (ready.spent j b p)) (uses_chunk y.guest l c (i % 256) x stands));
  }

  pub has_filed : KnowsChunk last.guest l (i / 256) c → HasFiled w last l x (answer_of stands c (i % 256))
  has_filed known = record {
    lists = reached.lists ∙ ap (λ (z : WaysValue). z.lists) rest;
    later = later;
    grants = grants_are;
    ready = last_ready;
    shown = shows y.guest l c (i % 256) x (i / 256) stands known;
  }
