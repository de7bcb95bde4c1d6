-- An item that comes to its home.
use Rattle.std.proofs.Common.{◌≡◌, ◌≢◌, ℕ, zero, suc, ◌+◌, ◌*◌, ◌<◌, ◌≤◌, inl, inr, Bool, true, false, cond, ◌&&◌, ◌==◌, nat_lt, List, [], ◌∷◌, ◌++◌, length, get_or, set, IsTrue, refl, ap, sym, ◌∙◌, subst, arith, length-append, eq-eqb, add_assoc}
use Rattle.std.specs.List.{range_with_len, count_by}
use Rattle.std.proofs.lemmas.Bool.{cases_eq}
use Rattle.std.proofs.lemmas.List.{get_or-set_same, get_or-set_other}
use Rattle.std.proofs.Math.ListN.{length-set}
use Rattle.std.proofs.lemmas.List.Sums.{sum_by-append, sum_by-cons}
use Rattle.list_words.specs.Store.{Store, Row, IsOpen, Keeps, row, with_row, placed_in}
use Rattle.list_words.proofs.RowLaws.{open_holds, open_row, row-with_row, row-with_row_other}
use Rattle.item_moves.specs.Homes.{AreHomed, IsAlone, IsKnownIn, OnlyPlaced, home_count, guest_count, is_home}

-- ---- counting
-- 1 for yes
abbrev bit : Bool → ℕ
bit b = cond b 1 0

never : false ≡ true → ⊥
never e = cc

here_or_not : (h l : ℕ) → (h == l) ≡ true → h ≡ l
here_or_not h l e = grind arith

not_here : (h l : ℕ) → h ≢ l → (h == l) ≡ false
not_here h l ne = grind arith

count_cons : (p : ℕ → Bool) (x : ℕ) (xs : List ℕ) → count_by p (x ∷ xs) ≡ cond (p x) 1 0 + count_by p xs
count_cons p x xs = sum_by-cons (λ y. cond (p y) 1 0) x xs

-- one more has this home
pub count-set : (homes : List ℕ) (x l : ℕ) → x < length homes → get_or homes x 0 ≢ l → home_count (set homes x l) l ≡ home_count homes l + 1
count-set [] x l low ne = absurd (omega arith)
count-set (h ∷ homes) zero l low ne =
    count_cons (λ k. k == l) l homes ∙ ap (λ b. cond b 1 0 + home_count homes l) (eq-eqb l l refl) ∙ one (home_count homes l)
    ∙ ap (λ b. cond b 1 0 + home_count homes l + 1) (sym (not_here h l ne)) ∙ ap (λ n. n + 1) (sym (count_cons (λ k. k == l) h homes))
  where
    one : (n : ℕ) → 1 + n ≡ 0 + n + 1
    one n = omega arith
count-set (h ∷ homes) (suc x) l low ne =
    let rest : home_count (set homes x l) l ≡ home_count homes l + 1 = count-set homes x l (omega arith) ne in
    count_cons (λ k. k == l) h (set homes x l) ∙ ap (λ n. cond (h == l) 1 0 + n) rest
    ∙ sym (add_assoc (cond (h == l) 1 0) (home_count homes l) 1) ∙ ap (λ n. n + 1) (sym (count_cons (λ k. k == l) h homes))

-- as many have another home, which the item did not have before
pub count-set_other : (homes : List ℕ) (x l m : ℕ) → l ≢ m → get_or homes x 0 ≢ l → home_count (set homes x m) l ≡ home_count homes l
count-set_other [] x l m apart ne = refl
count-set_other (h ∷ homes) zero l m apart ne =
    count_cons (λ k. k == l) m homes ∙ ap (λ b. cond b 1 0 + home_count homes l) (not_here m l (λ e. apart (sym e)) ∙ sym (not_here h l ne))
    ∙ sym (count_cons (λ k. k == l) h homes)
count-set_other (h ∷ homes) (suc x) l m apart ne =
    count_cons (λ k. k == l) h (set homes x m) ∙ ap (λ n. cond (h == l) 1 0 + n) (count-set_other homes x l m apart ne)
    ∙ sym (count_cons (λ k. k == l) h homes)

-- no more have this home than are guests
count_from : (homes : List ℕ) (guest : ℕ → Bool) (k l : ℕ) → ((x : ℕ) → x < length homes → get_or homes x 0 ≡ l → IsTrue (guest (k + x)))
    → home_count homes l ≤ count_by guest (range_with_len k (length homes))
count_from [] guest k l h = omega arith
count_from (g ∷ homes) guest k l h =
    let rest : home_count homes l ≤ count_by guest (range_with_len (k + 1) (length homes)) =
    count_from homes guest (k + 1) l (λ x low e. subst (λ n. IsTrue (guest n)) (behind x) (h (suc x) (omega arith) e)) in
    let step : cond (g == l) 1 0 + home_count homes l ≤ cond (guest k) 1 0 + count_by guest (range_with_len (k + 1) (length homes)) =
    one (g == l) (guest k) (home_count homes l) (count_by guest (range_with_len (k + 1) (length homes)))
    (λ e. subst (λ n. IsTrue (guest n)) front (h 0 (omega arith) (here_or_not g l e))) rest in
    omega (arith, count_cons (λ n. n == l) g homes, count_cons guest k (range_with_len (k + 1) (length homes)))
  where
    behind : (x : ℕ) → k + suc x ≡ k + 1 + x
    behind x = omega arith

    front : k + 0 ≡ k
    front = omega arith

    one : (b c : Bool) (m n : ℕ) → (b ≡ true → IsTrue c) → m ≤ n → cond b 1 0 + m ≤ cond c 1 0 + n
    one true true m n f le = omega arith
    one true false m n f le = absurd (never (f refl))
    one false true m n f le = omega arith
    one false false m n f le = omega arith

pub homes_are_guests : (homes : List ℕ) (guest : ℕ → ℕ → Bool) (l : ℕ) → ((x : ℕ) → x < length homes → get_or homes x 0 ≡ l → IsTrue (guest l x))
    → home_count homes l ≤ guest_count guest (length homes) l
homes_are_guests homes guest l h = count_from homes (guest l) 0 l (λ x low e. subst (λ n. IsTrue (guest l n)) (zero_more x) (h x low e))
  where
    zero_more : (x : ℕ) → x ≡ 0 + x
    zero_more x = omega arith

-- ---- whether a list is an item's home
pub home-set_same : (homes : List ℕ) (x t l : ℕ) → x < length homes → is_home (set homes x t) l x ≡ (t == l)
home-set_same homes x t l low =
    let long : x < length (set homes x t) = omega (arith, length-set homes x t) in
    ap (λ b. b && get_or (set homes x t) x 0 == l) (in_range x (length (set homes x t)) long) ∙ ap (λ k. k == l) (get_or-set_same homes x t 0 low)
  where
    in_range : (a b : ℕ) → a < b → nat_lt a b ≡ true
    in_range a b h = grind arith

pub home-set_other : (homes : List ℕ) (x t l y : ℕ) → y ≢ x → is_home (set homes x t) l y ≡ is_home homes l y
home-set_other homes x t l y ne = (λ i. nat_lt y (length-set homes x t i) && get_or-set_other homes x y t 0 ne i == l)

pub no_home : (homes : List ℕ) (l x : ℕ) → (get_or homes x 0 ≡ l → ⊥) → is_home homes l x ≡ false
no_home homes l x ne = ap (λ b. nat_lt x (length homes) && b) (not_here (get_or homes x 0) l ne) ∙ and_no (nat_lt x (length homes))
  where
    and_no : (b : Bool) → (b && false) ≡ false
    and_no true = refl
    and_no false = refl

-- ---- homes once an item is placed
module _ (s : Store) (knows : ℕ → ℕ → ℕ → Type 0) (guest : ℕ → ℕ → Bool) (homes : List ℕ) (t x : ℕ) (h : AreHomed s knows guest homes) (open_now : IsOpen s t)
    (low : x < length homes)
    (can : IsTrue (guest t x)) (ne : get_or homes x 0 ≢ t) where
  guests_after : (l y : ℕ) → ((z : ℕ) → z < length homes → get_or homes z 0 ≡ l → IsTrue (guest l z)) → y < length (set homes x t)
      → get_or (set homes x t) y 0 ≡ l
      → IsTrue (guest l y)
  guests_after l y old within e =
      elim (cases_eq y x) [
        | inl same ↦
            let is : get_or (set homes x t) y 0 ≡ t = ap (λ k. get_or (set homes x t) k 0) same ∙ get_or-set_same homes x t 0 low in
            subst (λ b. IsTrue (guest b y)) (sym is ∙ e) (subst (λ a. IsTrue (guest t a)) (sym same) can)
        | inr other ↦ old y (omega (arith, length-set homes x t)) (sym (get_or-set_other homes x y t 0 other) ∙ e)
      ]

  -- there is a slot for a guest
  pub slot_free : length (row s t).placed < 256 * length (row s t).owned
  slot_free =
      let more : home_count (set homes x t) t ≡ home_count homes t + 1 = count-set homes x t low ne in
      let most : home_count (set homes x t) t ≤ guest_count guest (length (set homes x t)) t =
      homes_are_guests (set homes x t) guest t (λ y within e. guests_after t y (λ z. h.guests t z open_now) within e) in
      let many : length (set homes x t) ≡ length homes = length-set homes x t in
      let most' : home_count (set homes x t) t ≤ guest_count guest (length homes) t =
      subst (λ n. home_count (set homes x t) t ≤ guest_count guest n t) many most in
      omega (arith, h.counted t open_now, h.room t open_now)

  -- the phase of each list, its owned chunks and its items are those of before, but for one item more
  abbrev new : Row
  new = placed_in (row s t) x

  open_before : (l : ℕ) → IsOpen (with_row s t new) l → IsOpen s l
  open_before l there = elim (cases_eq l t) [
    | inl same ↦ subst (IsOpen s) (sym same) open_now
    | inr other ↦ sym (ap (λ (r : Row). r.phase) (row-with_row_other s t l new other)) ∙ there
  ]

  here : (l : ℕ) → l ≡ t → row (with_row s t new) l ≡ new
  here l same = ap (row (with_row s t new)) same ∙ row-with_row s t new (open_row s t open_now)

  owned_same : (l : ℕ) → (row (with_row s t new) l).owned ≡ (row s l).owned
  owned_same l = elim (cases_eq l t) [
    | inl same ↦ ap (λ (r : Row). r.owned) (here l same) ∙ ap (λ k. (row s k).owned) (sym same)
    | inr other ↦ ap (λ (r : Row). r.owned) (row-with_row_other s t l new other)
  ]

  -- each item was placed once where it is at home, and nowhere else
  module _ (alone : IsAlone s homes x t) where
    once_here : (y : ℕ) → count_by (λ z. z == y) ((row s t).placed ++ x ∷ []) ≡ bit (is_home (set homes x t) t y)
    once_here y =
        let p : ℕ → Bool = λ z. z == y in
        let both : count_by p ((row s t).placed ++ x ∷ []) ≡ count_by p (row s t).placed + count_by p (x ∷ []) =
        sum_by-append (λ z. cond (p z) 1 0) (row s t).placed (x ∷ []) in
        let one : count_by p (x ∷ []) ≡ bit (x == y) + 0 = count_cons p x [] in
        let old : count_by p (row s t).placed ≡ bit (is_home homes t y) = h.once t y open_now in
        elim (cases_eq y x) [
          | inl same ↦
              let none : bit (is_home homes t y) ≡ 0 = ap bit (no_home homes t y (λ e. ne (ap (λ k. get_or homes k 0) (sym same) ∙ e))) in
              let is : bit (is_home (set homes x t) t y) ≡ 1 =
              ap (λ k. bit (is_home (set homes x t) t k)) same ∙ ap bit (home-set_same homes x t t low ∙ eq-eqb t t refl) in
              let it : bit (x == y) ≡ 1 = ap bit (eq-eqb x y (sym same)) in
              omega (arith, both, one, old, none, is, it)
          | inr other ↦
              let is : bit (is_home (set homes x t) t y) ≡ bit (is_home homes t y) = ap bit (home-set_other homes x t t y other) in
              let it : bit (x == y) ≡ 0 = ap bit (not_here x y (λ e. other (sym e))) in
              omega (arith, both, one, old, is, it)
        ]

    home_elsewhere : (l y : ℕ) → l ≢ t → IsOpen s l → is_home homes l y ≡ is_home (set homes x t) l y
    home_elsewhere l y other o = elim (cases_eq y x) [
      | inl same ↦
          no_home homes l y (λ e. other (alone l o (ap (λ k. get_or homes k 0) (sym same) ∙ e)))
          ∙ sym (ap (is_home (set homes x t) l) same ∙ home-set_same homes x t l low ∙ not_here t l (λ e. other (sym e)))
      | inr differs ↦ sym (home-set_other homes x t l y differs)
    ]

    pub homed_after : (knows' : ℕ → ℕ → ℕ → Type 0) → Keeps knows knows' → IsKnownIn knows' t x → AreHomed (with_row s t new) knows' guest (set homes x t)
    homed_after knows' keeps there = record {
      known = λ l y o within e. elim (cases_eq y x) [
        | inl same ↦
            let is : t ≡ l = sym (ap (λ k. get_or (set homes x t) k 0) same ∙ get_or-set_same homes x t 0 low) ∙ e in
            subst (λ k. IsKnownIn knows' k y) is (subst (λ k. IsKnownIn knows' t k) (sym same) there)
        | inr other ↦
            let old : IsKnownIn knows l y =
            h.known l y (open_before l o) (omega (arith, length-set homes x t)) (sym (get_or-set_other homes x y t 0 other) ∙ e) in
            (old.0, keeps l old.0 y old.1)
      ];
      once = λ l y o. elim (cases_eq l t) [
        | inl same ↦
            ap (λ (r : Row). count_by (λ z. z == y) r.placed) (here l same) ∙ once_here y ∙ ap (λ k. cond (is_home (set homes x t) k y) 1 0) (sym same)
        | inr other ↦
            ap (λ (r : Row). count_by (λ z. z == y) r.placed) (row-with_row_other s t l new other) ∙ h.once l y (open_before l o)
            ∙ ap (λ b. cond b 1 0) (home_elsewhere l y other (open_before l o))
      ];
      counted = λ l o. elim (cases_eq l t) [
        | inl same ↦
            ap (λ (r : Row). length r.placed) (here l same) ∙ length-append (row s t).placed (x ∷ [])
            ∙ ap (λ n. n + 1) (h.counted t open_now) ∙ sym (count-set homes x t low ne) ∙ ap (home_count (set homes x t)) (sym same)
        | inr other ↦
            ap (λ (r : Row). length r.placed) (row-with_row_other s t l new other) ∙ h.counted l (open_before l o)
            ∙ sym (count-set_other homes x l t other (λ e. other (alone l (open_before l o) e)))
      ];
      guests = λ l y o within e. guests_after l y (λ z. h.guests l z (open_before l o)) within e;
      room = λ l o.
          let before : guest_count guest (length homes) l ≤ 256 * length (row s l).owned = h.room l (open_before l o) in
          let P : ℕ → List ℕ → Type 0 = λ n owned. guest_count guest n l ≤ 256 * length owned in
          subst (λ n. P n (row (with_row s t new) l).owned) (sym (length-set homes x t))
          (subst (λ owned. P (length homes) owned) (sym (owned_same l)) before);
    }

-- ---- what was placed
pub placed_one : (s : Store) (t x : ℕ) → IsOpen s t → OnlyPlaced s (with_row s t (placed_in (row s t) x))
placed_one s t x open_now =
    let new : Row = placed_in (row s t) x in
    record {
      rest = refl;
      lists = length-set s.rows t new;
      rows = λ l. elim (cases_eq l t) [
        | inl same ↦
            let is : row (with_row s t new) l ≡ new = ap (row (with_row s t new)) same ∙ row-with_row s t new (open_row s t open_now) in
            is ∙ (λ i. record (row s (sym same i)) { placed = (sym is i).placed })
        | inr other ↦
            let is : row (with_row s t new) l ≡ row s l = row-with_row_other s t l new other in
            is ∙ (λ i. record (row s l) { placed = (sym is i).placed })
      ];
      others = λ l not_open. row-with_row_other s t l new (λ same. not_open (subst (IsOpen s) (sym same) open_now));
      held = open_holds s t new open_now open_now;
    }

pub placed_none : (s : Store) → OnlyPlaced s s
placed_none s = record { rest = refl; lists = refl; rows = λ l. refl; others = λ l n. refl; held = refl }

pub open_stays : (s t : Store) (l : ℕ) → OnlyPlaced s t → IsOpen s l → IsOpen t l
open_stays s t l p o = ap (λ (r : Row). r.phase) (p.rows l) ∙ o

pub open_was : (s t : Store) (l : ℕ) → OnlyPlaced s t → IsOpen t l → IsOpen s l
open_was s t l p o = sym (ap (λ (r : Row). r.phase) (p.rows l)) ∙ o

pub placed_more : (s t u : Store) → OnlyPlaced s t → OnlyPlaced t u → OnlyPlaced s u
placed_more s t u p q = record {
  rest = q.rest ∙ ap (λ (v : Store). record v { rows = u.rows }) p.rest;
  lists = q.lists ∙ p.lists;
  rows = λ l. q.rows l ∙ ap (λ (r : Row). record r { placed = (row u l).placed }) (p.rows l);
  others = λ l not_open. q.others l (λ o. not_open (open_was s t l p o)) ∙ p.others l not_open;
  held = q.held ∙ p.held;
}
