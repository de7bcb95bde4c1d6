-- The cursors with which a filer starts.
use Rattle.std.proofs.Common.{◌≡◌, ◌≢◌, ℕ, zero, suc, ◌<◌, ◌≤◌, Bool, false, true, ◌+◌, cond, eqb, ne_eqb, List, [], ◌∷◌, map, length, get_or, sym, refl, ap, ◌∙◌, subst, arith}
use Rattle.std.specs.Prelude.{Option, None, All, AllPairs, nat_eq}
use Rattle.std.specs.List.{IsDistinct}
use Rattle.std.specs.List.Sorted.{IsPermutation, IsNonDecreasingBy}
use Rattle.std.proofs.lemmas.Bool.Decides.{nat_tests}
use Rattle.std.proofs.lemmas.List.{length-map, get_or-map}
use Rattle.std.proofs.lemmas.List.Elements.{All-map}
use Rattle.std.proofs.lemmas.List.Sorted.{All-permutation, Contains-permutation}
use Rattle.std.proofs.lemmas.Map.Keys.{IsDistinct-from_apart, IsDistinct-IsPermutation, apart_from_distinct}
use Rattle.list_machine.specs.Grants.{granted_in, granted_in_all}
use Rattle.list_machine.specs.Facts.{IsAt}
use Rattle.list_machine.specs.declared.views.Grant.{Grant}
use Rattle.list_machine.proofs.Lists.{at_below, at_same, at_nothing}
use Rattle.list_filers.specs.Cursors.{AreSorted, HasCursor, fresh_cursor}
use Rattle.list_filers.specs.declared.cursors.Cursor.{Cursor}
use Rattle.list_filers.specs.declared.cursors.Reached.{Reached}
use Rattle.list_machine.specs.declared.views.Guest.{Guest}
use Rattle.list_table.specs.Tables.{ListsValue}
use Rattle.list_words.specs.declared.leaf_lists.Answer.{Answer}
use Rattle.list_filers.specs.Ways.{WaysValue, at_start, IsReady, IsSpent}
use Rattle.list_filers.specs.Filers.{AreShown, IsFiler, IsNew}

at_index : {A : Type 0} (xs : List A) (i : ℕ) (d : A) → i < length xs → IsAt xs i (get_or xs i d)
at_index [] i d h = absurd (omega arith)
at_index (x ∷ xs) zero d h = refl
at_index (x ∷ xs) (suc i) d h = at_index xs i d (omega arith)

get_is : {A : Type 0} (xs : List A) (i : ℕ) (a d : A) → IsAt xs i a → get_or xs i d ≡ a
get_is xs i a d p = at_same xs i (get_or xs i d) a (at_index xs i d (at_below xs i a p)) p

no_grant : Grant
no_grant = record { list = 0; n = 0 }

-- whether two cursors are of one list
abbrev is_same : Cursor → Cursor → Bool
is_same a b = eqb a.list b.list

flips : (m n : ℕ) → eqb m n ≡ eqb n m
flips m n = grind (arith, nat_tests)

fresh_at : (gs : List Grant) (i : ℕ) (d : Cursor) → i < length gs → (get_or (map fresh_cursor gs) i d).list ≡ (get_or gs i no_grant).list
fresh_at gs i d lt = ap (λ (a : Cursor). a.list) (get_or-map fresh_cursor gs i no_grant d lt)

apart : (gs : List Grant) → AllPairs (λ (g h : Grant). g.list ≢ h.list) gs → IsDistinct is_same (map fresh_cursor gs)
apart gs differ = IsDistinct-from_apart is_same (map fresh_cursor gs) (λ i j d lt small.
    let below : j < length gs = let e = length-map gs fresh_cursor in omega arith in
    ne_eqb (get_or (map fresh_cursor gs) i d).list (get_or (map fresh_cursor gs) j d).list
    (λ e. differ i j no_grant lt below (sym (fresh_at gs i d (omega arith)) ∙ e ∙ fresh_at gs j d below)))

-- sorted by list, they are strictly sorted
pub are_sorted : (gs : List Grant) (cursors : List Cursor) → AllPairs (λ (g h : Grant). g.list ≢ h.list) gs → IsPermutation (map fresh_cursor gs) cursors → IsNonDecreasingBy (λ (a : Cursor). a.list) cursors → AreSorted cursors
are_sorted gs cursors differ same rises i j a b p q lt =
    let below = at_below cursors j b q in
    let distinct = IsDistinct-IsPermutation is_same (λ x y. flips x.list y.list) (map fresh_cursor gs) cursors same (apart gs differ) in
    let le = rises i j a (omega arith) below in
    let ne = apart_from_distinct is_same cursors i j a distinct lt below in
    less a.list b.list (subst (λ (t : Cursor × Cursor). t.0.list ≤ t.1.list) (λ k. (get_is cursors i a a p k, get_is cursors j b a q k)) le) (subst (λ (t : Cursor × Cursor). is_same t.0 t.1 ≡ false) (λ k. (get_is cursors i a a p k, get_is cursors j b a q k)) ne) where
      less : (m n : ℕ) → m ≤ n → eqb m n ≡ false → m < n
      less m n le ne = grind (arith, nat_tests)

pub all_fresh : (gs : List Grant) (cursors : List Cursor) (lists : ℕ) → IsPermutation (map fresh_cursor gs) cursors → All (λ (g : Grant). g.list < lists) gs → All (λ (a : Cursor). (a.reached ≡ None) × (a.list < lists)) cursors
all_fresh gs cursors lists same within = All-permutation (λ (a : Cursor). (a.reached ≡ None) × (a.list < lists)) (map fresh_cursor gs) cursors same (All-map (λ (a : Cursor). (a.reached ≡ None) × (a.list < lists)) fresh_cursor gs (λ k d lt. (refl, within k d lt)))

-- a list in which places are left has a grant
some_grant : (l : ℕ) (gs : List Grant) → 0 < granted_in l gs → (k : ℕ) × (g : Grant) × IsAt gs k g × (g.list ≡ l)
some_grant l [] some = absurd (omega arith)
some_grant l (g ∷ gs) some = by (nat_eq g.list l) refl some (some_grant l gs) where
  by : (b : Bool) → nat_eq g.list l ≡ b → 0 < cond b g.n 0 + granted_in l gs → (0 < granted_in l gs → (k : ℕ) × (h : Grant) × IsAt gs k h × (h.list ≡ l)) → (k : ℕ) × (h : Grant) × IsAt (g ∷ gs) k h × (h.list ≡ l)
  by true is some later = (0, g, refl, let e : g.list ≡ l = grind (arith, nat_tests) in e)
  by false is some later = let t = later (omega arith) in (suc t.0, t.1, t.2, t.3)

at_map : (gs : List Grant) (k : ℕ) (g : Grant) → IsAt gs k g → IsAt (map fresh_cursor gs) k (fresh_cursor g)
at_map gs k g p = let lt = at_below gs k g p in
    subst (λ (a : Cursor). IsAt (map fresh_cursor gs) k a) (get_or-map fresh_cursor gs k g (fresh_cursor g) lt ∙ ap fresh_cursor (get_is gs k g g p))
    (at_index (map fresh_cursor gs) k (fresh_cursor g) (let e = length-map gs fresh_cursor in omega arith))

-- and so it has a cursor
pub each_has_cursor : (gs : List Grant) (cursors : List Cursor) → IsPermutation (map fresh_cursor gs) cursors → (l : ℕ) → 0 < granted_in l gs → HasCursor cursors l
each_has_cursor gs cursors same l some =
    let t = some_grant l gs some in
    let p = at_map gs t.0 t.1 t.2 in
    let c = Contains-permutation (map fresh_cursor gs) cursors (fresh_cursor t.1) same (t.0, at_below (map fresh_cursor gs) t.0 (fresh_cursor t.1) p, get_is (map fresh_cursor gs) t.0 (fresh_cursor t.1) (fresh_cursor t.1) p) in
    (c.0, fresh_cursor t.1, subst (λ (a : Cursor). IsAt cursors c.0 a) c.2 (at_index cursors c.0 (fresh_cursor t.1) c.1), t.3)

spent_at_start : (v : Guest) (l : ℕ) (o : Option Reached) → o ≡ None → IsSpent v l o
spent_at_start v l o e = subst (λ (p : Option Reached). IsSpent v l p) (sym e) tt

-- a new guest may file
pub starts_ready : (v : Guest) (birth lists : ℕ) (gs : List Grant) (cursors : List Cursor) → IsNew v birth gs → AllPairs (λ (g h : Grant). g.list ≢ h.list) gs → All (λ (g : Grant). g.list < lists) gs → IsPermutation (map fresh_cursor gs) cursors → IsReady v cursors
starts_ready v birth lists gs cursors new differ within same = record {
  is_out = ap (λ (u : Guest). u.out) new;
  idle = ap (λ (u : Guest). u.claim) new;
  granted = λ l left. each_has_cursor gs cursors same l (subst (λ (hs : List Grant). 0 < granted_in l hs) (ap (λ (u : Guest). u.grants) new) left);
  spent = λ i a p. spent_at_start v a.list a.reached (ap (λ (b : Cursor). b.reached) (sym (get_is cursors i a a p)) ∙ (all_fresh gs cursors lists same within i a (at_below cursors i a p)).0);
}

none_shown : (v : Guest) → AreShown v []
none_shown v i a p = absurd (at_nothing i a p)

pub starts : (w : WaysValue) (s : ListsValue) (v : Guest) (birth capacity : ℕ) (gs : List Grant) (cursors : List Cursor) (answers : List Answer) → w ≡ at_start s v cursors → answers ≡ [] → granted_in_all gs ≤ capacity
    → IsNew v birth gs → AllPairs (λ (g h : Grant). g.list ≢ h.list) gs → All (λ (g : Grant). g.list < s.lists) gs → IsPermutation (map fresh_cursor gs) cursors → IsFiler w birth answers capacity
starts w s v birth capacity gs cursors answers is empty room new differ within same =
    subst (λ (t : WaysValue × List Answer). IsFiler t.0 birth t.1 capacity) (λ k. (sym is k, sym empty k))
    (record {
      ready = starts_ready v birth s.lists gs cursors new differ within same;
      birth_is = sym (ap (λ (u : Guest). u.birth) new);
      room = let e : granted_in_all v.grants ≡ granted_in_all gs = ap (λ (u : Guest). granted_in_all u.grants) new in omega arith;
      shown = none_shown v;
    })
