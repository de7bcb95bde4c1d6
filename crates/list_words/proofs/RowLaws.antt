-- The rows of a store after a call, for whoever stands on the contract of the lists.
use Rattle.std.proofs.Common.{◌≡◌, ◌≢◌, ℕ, ◌+◌, ◌<◌, inl, inr, cond, ◌==◌, eq-eqb, ne_eqb, List, [], ◌∷◌, ◌++◌, length, take, drop, set, Option, ap, refl, sym, subst, ◌∙◌, arith}
use Rattle.std.specs.List.{Contains, sum_by}
use Rattle.std.proofs.lemmas.Grind.{common_steps}
use Rattle.std.proofs.lemmas.List.Elements.{Contains-append_left, Contains-append_right}
use Rattle.std.proofs.lemmas.List.Sums.{sum_by-set}
use Rattle.std.proofs.lemmas.Bool.{cases_eq, cases_lt}
use Rattle.std.proofs.lemmas.List.{length-set, get_or-set_same, get_or-set_other, get_or_past, set_past}
use Rattle.list_machine.specs.declared.views.Grant.{Grant}
use Rattle.list_machine.specs.Grants.{granted_in}
use Rattle.list_words.specs.Store.{Store, Row, IsCleared, IsKeptOrCleared, IsOpen, IsReclaimed, IsShut, SameBesidesGranted, chunks_of, clear_rows, emptied, grant_rows, held_in, held_of, is_shut, more_granted, no_row, opened, roomier, row, row_in, shut_now, shut_with, with_row}
use Rattle.list_words.specs.declared.leaf_lists.Phase.{Phase}
use Rattle.list_words.specs.declared.leaf_lists.Phase.TheVariants.{Fresh, Open, Shut}

-- an open list is one of the lists
pub open_row : (s : Store) (l : ℕ) → IsOpen s l → l < length s.rows
open_row s l open_now = elim (cases_lt l (length s.rows)) [
  | inl low ↦ low
  | inr high ↦ absurd (differ (sym (ap (λ (r : Row). r.phase) (get_or_past s.rows l no_row high)) ∙ open_now))
]
  where
    differ : Fresh ≡ Open → ⊥
    differ e = cc

pub row-with_row : (s : Store) (l : ℕ) (r : Row) → l < length s.rows → row (with_row s l r) l ≡ r
row-with_row s l r low = get_or-set_same s.rows l r no_row low

pub row-with_row_other : (s : Store) (l m : ℕ) (r : Row) → m ≢ l → row (with_row s l r) m ≡ row s m
row-with_row_other s l m r other = get_or-set_other s.rows l m r no_row other

same_besides : (a b : Row) → a ≡ b → SameBesidesGranted a b
same_besides a b e = record {
  phase = ap (λ (r : Row). r.phase) e;
  claimed = ap (λ (r : Row). r.claimed) e;
  owned = ap (λ (r : Row). r.owned) e;
  placed = ap (λ (r : Row). r.placed) e;
  marked = ap (λ (r : Row). r.marked) e;
  claimed_room = ap (λ (r : Row). r.claimed_room) e;
  owned_room = ap (λ (r : Row). r.owned_room) e;
}

besides_twice : (a b d : Row) → SameBesidesGranted a b → SameBesidesGranted b d → SameBesidesGranted a d
besides_twice a b d h k = record {
  phase = h.phase ∙ k.phase;
  claimed = h.claimed ∙ k.claimed;
  owned = h.owned ∙ k.owned;
  placed = h.placed ∙ k.placed;
  marked = h.marked ∙ k.marked;
  claimed_room = h.claimed_room ∙ k.claimed_room;
  owned_room = h.owned_room ∙ k.owned_room;
}

besides_granted : (a : Row) (n : ℕ) → SameBesidesGranted (more_granted a n) a
besides_granted a n = record { phase = refl; claimed = refl; owned = refl; placed = refl; marked = refl; claimed_room = refl; owned_room = refl }

one_grant : (rows : List Row) (m n l : ℕ) → SameBesidesGranted (row_in (set rows m (more_granted (row_in rows m) n)) l) (row_in rows l)
one_grant rows m n l = elim (cases_eq l m) [
  | inr other ↦ same_besides _ _ (get_or-set_other rows m l (more_granted (row_in rows m) n) no_row other)
  | inl same ↦ elim (cases_lt m (length rows)) [
    | inr high ↦ same_besides _ _ (ap (λ (rs : List Row). row_in rs l) (set_past rows m (more_granted (row_in rows m) n) high))
    | inl low ↦
        let e : row_in (set rows m (more_granted (row_in rows m) n)) l ≡ more_granted (row_in rows m) n = ap (row_in (set rows m (more_granted (row_in rows m) n))) same ∙ get_or-set_same rows m (more_granted (row_in rows m) n) no_row low in
        besides_twice _ (row_in rows m) _ (besides_twice _ (more_granted (row_in rows m) n) _ (same_besides _ _ e) (besides_granted (row_in rows m) n)) (same_besides _ _ (ap (row_in rows) (sym same)))
  ]
]

pub row-grant_rows : (gs : List Grant) (rows : List Row) (l : ℕ) → SameBesidesGranted (row_in (grant_rows gs rows) l) (row_in rows l)
row-grant_rows [] rows l = same_besides _ _ refl
row-grant_rows (g ∷ gs) rows l = besides_twice _ _ _ (row-grant_rows gs (set rows g.list (more_granted (row_in rows g.list) g.n)) l) (one_grant rows g.list g.n l)

-- ---- a list is shut

not_both : Shut ≡ Open → ⊥
not_both e = cc

pub shut_open : (s : Store) (l m : ℕ) (marked : List (Option ℕ)) → IsOpen s l → IsOpen (shut_now s l marked) m → (m ≢ l) × IsOpen s m
shut_open s l m marked o there =
    let apart : m ≢ l = λ same. not_both (sym (ap (λ (r : Row). r.phase) (row-with_row s l (shut_with (row s l) marked) (open_row s l o))) ∙ ap (λ k. (row (shut_now s l marked) k).phase) (sym same) ∙ there) in
    (apart, sym (ap (λ (r : Row). r.phase) (row-with_row_other s l m (shut_with (row s l) marked) apart)) ∙ there)

-- ---- what is held

open_held : (r : Row) → r.phase ≡ Open → held_in r ≡ 0
open_held r o = ap (λ (p : Phase). cond (is_shut p) (length (chunks_of r)) 0) o

pub open_holds : (s : Store) (l : ℕ) (r : Row) → IsOpen s l → r.phase ≡ Open → sum_by held_in (set s.rows l r) ≡ held_of s
open_holds s l r o open_now =
    let e : sum_by held_in (set s.rows l r) + held_in (row s l) ≡ sum_by held_in s.rows + held_in r = sum_by-set held_in s.rows l r no_row (open_row s l o) in
    omega (arith, e, open_held (row s l) o, open_held r open_now)

-- a list that was never opened is opened, or there is room for more chunks of a list
pub fresh_holds : (s : Store) (l : ℕ) → l < length s.rows → (row s l).phase ≡ Fresh → held_of (with_row s l (opened (row s l))) ≡ held_of s
fresh_holds s l low fresh_now =
    let e : sum_by held_in (set s.rows l (opened (row s l))) + held_in (row s l) ≡ sum_by held_in s.rows + held_in (opened (row s l)) = sum_by-set held_in s.rows l (opened (row s l)) no_row low in
    let none : held_in (row s l) ≡ 0 = ap (λ (p : Phase). cond (is_shut p) (length (chunks_of (row s l))) 0) fresh_now in
    let still : held_in (opened (row s l)) ≡ 0 = refl in
    omega (arith, e, none, still)

pub roomier_holds : (s : Store) (l claimed owned : ℕ) → l < length s.rows → held_of (with_row s l (roomier (row s l) claimed owned)) ≡ held_of s
roomier_holds s l claimed owned low =
    let r : Row = roomier (row s l) claimed owned in
    let e : sum_by held_in (set s.rows l r) + held_in (row s l) ≡ sum_by held_in s.rows + held_in r = sum_by-set held_in s.rows l r no_row low in
    let same : held_in r ≡ held_in (row s l) = refl in
    omega (arith, e, same)

pub shut_holds : (s : Store) (l : ℕ) (marked : List (Option ℕ)) → IsOpen s l → held_of (shut_now s l marked) ≡ held_of s + length (chunks_of (row s l))
shut_holds s l marked o =
    let e : sum_by held_in (set s.rows l (shut_with (row s l) marked)) + held_in (row s l) ≡ sum_by held_in s.rows + held_in (shut_with (row s l) marked) = sum_by-set held_in s.rows l (shut_with (row s l) marked) no_row (open_row s l o) in
    omega (arith, e, open_held (row s l) o)

pub granted_holds : (gs : List Grant) (rows : List Row) → sum_by held_in (grant_rows gs rows) ≡ sum_by held_in rows
granted_holds [] rows = refl
granted_holds (g ∷ gs) rows = granted_holds gs (set rows g.list (more_granted (row_in rows g.list) g.n)) ∙ one rows g.list g.n
  where
    one : (rows : List Row) (m n : ℕ) → sum_by held_in (set rows m (more_granted (row_in rows m) n)) ≡ sum_by held_in rows
    one rows m n = elim (cases_lt m (length rows)) [
      | inl low ↦
          let e : sum_by held_in (set rows m (more_granted (row_in rows m) n)) + held_in (row_in rows m) ≡ sum_by held_in rows + held_in (more_granted (row_in rows m) n) = sum_by-set held_in rows m (more_granted (row_in rows m) n) no_row low in
          let same : held_in (more_granted (row_in rows m) n) ≡ held_in (row_in rows m) = refl in
          omega (arith, e, same)
      | inr high ↦ ap (sum_by held_in) (set_past rows m (more_granted (row_in rows m) n) high)
    ]

-- ---- what was granted

plus_none : (n : ℕ) → n ≡ n + 0
plus_none n = omega arith

one_more : (rows : List Row) (g : Grant) (l : ℕ) → l < length rows → (row_in (set rows g.list (more_granted (row_in rows g.list) g.n)) l).granted ≡ (row_in rows l).granted + cond (g.list == l) g.n 0
one_more rows g l low = elim (cases_eq l g.list) [
  | inl same ↦
      let e : row_in (set rows g.list (more_granted (row_in rows g.list) g.n)) l ≡ more_granted (row_in rows l) g.n =
      ap (row_in (set rows g.list (more_granted (row_in rows g.list) g.n))) same ∙ get_or-set_same rows g.list (more_granted (row_in rows g.list) g.n) no_row (subst (λ k. k < length rows) same low) ∙ ap (λ k. more_granted (row_in rows k) g.n) (sym same) in
      ap (λ (q : Row). q.granted) e ∙ ap (λ n. (row_in rows l).granted + n) (sym (ap (λ b. cond b g.n 0) (eq-eqb g.list l (sym same))))
  | inr other ↦
      ap (λ (q : Row). q.granted) (get_or-set_other rows g.list l (more_granted (row_in rows g.list) g.n) no_row other)
      ∙ plus_none (row_in rows l).granted ∙ ap (λ n. (row_in rows l).granted + n) (sym (ap (λ b. cond b g.n 0) (ne_eqb g.list l (λ e. other (sym e)))))
]

pub granted_more : (gs : List Grant) (rows : List Row) (l : ℕ) → l < length rows → (row_in (grant_rows gs rows) l).granted ≡ (row_in rows l).granted + granted_in l gs
granted_more [] rows l low = plus_none (row_in rows l).granted
granted_more (g ∷ gs) rows l low =
    let r : Row = more_granted (row_in rows g.list) g.n in
    let long : l < length (set rows g.list r) = subst (λ n. l < n) (sym (length-set rows g.list r)) low in
    let rest : (row_in (grant_rows gs (set rows g.list r)) l).granted ≡ (row_in (set rows g.list r) l).granted + granted_in l gs = granted_more gs (set rows g.list r) l long in
    let cons : granted_in l (g ∷ gs) ≡ cond (g.list == l) g.n 0 + granted_in l gs = refl in
    omega (arith, rest, cons, one_more rows g l low)

-- ---- lists are cleared

one_cleared : (rows : List Row) (m l : ℕ) → IsKeptOrCleared (row_in rows l) (row_in (set rows m (emptied (row_in rows m))) l)
one_cleared rows m l = elim (cases_eq l m) [
  | inr other ↦ inl (get_or-set_other rows m l (emptied (row_in rows m)) no_row other)
  | inl same ↦ elim (cases_lt m (length rows)) [
    | inr high ↦ inl (ap (λ (rs : List Row). row_in rs l) (set_past rows m (emptied (row_in rows m)) high))
    | inl low ↦ inr (ap (row_in (set rows m (emptied (row_in rows m)))) same ∙ get_or-set_same rows m (emptied (row_in rows m)) no_row low ∙ ap (λ k. emptied (row_in rows k)) (sym same))
  ]
]

cleared_twice : (a b d : Row) → IsKeptOrCleared a b → IsKeptOrCleared b d → IsKeptOrCleared a d
cleared_twice a b d h k = elim k [
  | inl same ↦ elim h [ inl old ↦ inl (same ∙ old) | inr empty ↦ inr (same ∙ empty) ]
  | inr empty ↦ elim h [ inl old ↦ inr (empty ∙ ap emptied old) | inr before ↦ inr (empty ∙ ap emptied before) ]
]

all_cleared : (ls : List ℕ) (rows : List Row) (l : ℕ) → IsKeptOrCleared (row_in rows l) (row_in (clear_rows ls rows) l)
all_cleared [] rows l = inl refl
all_cleared (m ∷ ls) rows l = cleared_twice _ _ _ (one_cleared rows m l) (all_cleared ls (set rows m (emptied (row_in rows m))) l)

first_one : (z : ℕ) (zs : List ℕ) → Contains (z ∷ zs) z
first_one z zs = grind (arith, common_steps)

-- a list that is not among those that are cleared keeps its row
untouched : (ls : List ℕ) (rows : List Row) (l : ℕ) → (Contains ls l → ⊥) → row_in (clear_rows ls rows) l ≡ row_in rows l
untouched [] rows l n = refl
untouched (m ∷ ls) rows l n =
    let other : l ≢ m = λ e. n (subst (λ k. Contains (m ∷ ls) k) (sym e) (first_one m ls)) in
    untouched ls (set rows m (emptied (row_in rows m))) l (λ c. n (Contains-append_right (m ∷ []) ls l c)) ∙ get_or-set_other rows m l (emptied (row_in rows m)) no_row other

take_drop : (xs : List ℕ) (i : ℕ) → take i xs ++ drop i xs ≡ xs
take_drop xs i = grind (arith, common_steps)

in_drop : (xs : List ℕ) (i x : ℕ) → Contains (drop i xs) x → Contains xs x
in_drop xs i x c = subst (λ (l : List ℕ). Contains l x) (take_drop xs i) (Contains-append_right (take i xs) (drop i xs) x c)

in_take : (xs : List ℕ) (i x : ℕ) → Contains (take i xs) x → Contains xs x
in_take xs i x c = subst (λ (l : List ℕ). Contains l x) (take_drop xs i) (Contains-append_left (take i xs) (drop i xs) x c)

module _ (s t : Store) (r : IsReclaimed s t) where
  same_order : t.order ≡ s.order
  same_order = ap (λ (v : Store). v.order) r.rest

  row_is : (l : ℕ) → row t l ≡ row_in (clear_rows (drop s.cleared (take t.cleared s.order)) s.rows) l
  row_is l = ap (λ (v : Store). row v l) r.rest

  pub reclaimed_each : (l : ℕ) → IsKeptOrCleared (row s l) (row t l)
  reclaimed_each l = subst (IsKeptOrCleared (row s l)) (sym (row_is l)) (all_cleared (drop s.cleared (take t.cleared s.order)) s.rows l)

  pub reclaimed_uncleared : (l : ℕ) → (IsCleared t l → ⊥) → row t l ≡ row s l
  reclaimed_uncleared l uncleared =
      row_is l ∙ untouched (drop s.cleared (take t.cleared s.order)) s.rows l (λ c. uncleared (subst (λ (xs : List ℕ). Contains (take t.cleared xs) l) (sym same_order) (in_drop (take t.cleared s.order) s.cleared l c)))

  module _ (shut : (m : ℕ) → Contains s.order m → IsShut s m) where
    pub reclaimed_open : (l : ℕ) → IsOpen s l → row t l ≡ row s l
    reclaimed_open l o = reclaimed_uncleared l (λ c. not_both (sym (shut l (in_take s.order t.cleared l (subst (λ (xs : List ℕ). Contains (take t.cleared xs) l) same_order c))) ∙ o))

    pub reclaimed_shut : (l : ℕ) → Contains t.order l → IsShut t l
    reclaimed_shut l c =
        let was : IsShut s l = shut l (subst (λ (xs : List ℕ). Contains xs l) same_order c) in
        elim (reclaimed_each l) [ inl same ↦ ap (λ (q : Row). q.phase) same ∙ was | inr empty ↦ ap (λ (q : Row). q.phase) empty ∙ was ]
