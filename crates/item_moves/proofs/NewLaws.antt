-- Items that were admitted and have no home yet.
use Rattle.std.proofs.Common.{◌≡◌, ◌≢◌, ℕ, zero, suc, ◌+◌, ◌-◌, ◌<◌, ◌≤◌, inl, inr, Bool, true, false, cond, ◌==◌, ◌&&◌, nat_lt, List, [], ◌∷◌, ◌++◌, length, replicate, get_or, refl, ap, sym, ◌∙◌, subst, append_assoc, arith, length-append}
use Rattle.std.specs.List.{count_by, range_with_len}
use Rattle.std.proofs.lemmas.Bool.{cases_lt}
use Rattle.std.proofs.lemmas.List.{append-nil, get_or_append_left, get_or-append_right}
use Rattle.std.proofs.lemmas.List.Sums.{sum_by-append, sum_by-cons}
use Rattle.list_words.specs.Store.{Store, IsOpen}
use Rattle.item_moves.specs.Homes.{AreHomed, guest_count, home_count, is_home}

-- 1 for yes
abbrev bit : Bool → ℕ
bit b = cond b 1 0

-- ---- one guest the less
count_cons : (p : ℕ → Bool) (x : ℕ) (xs : List ℕ) → count_by p (x ∷ xs) ≡ cond (p x) 1 0 + count_by p xs
count_cons p x xs = sum_by-cons (λ y. cond (p y) 1 0) x xs

same_count : (p : ℕ → Bool) (k n : ℕ) → p (k + n) ≡ false → count_by p (range_with_len k (suc n)) ≡ count_by p (range_with_len k n)
same_count p k zero e = count_cons p k [] ∙ ap (λ b. cond b 1 0 + 0) (ap p (sym (plus_none k)) ∙ e)
  where
    plus_none : (n : ℕ) → n + 0 ≡ n
    plus_none n = omega arith
same_count p k (suc n) e =
    let rest : count_by p (range_with_len (k + 1) (suc n)) ≡ count_by p (range_with_len (k + 1) n) = same_count p (k + 1) n (ap p (behind k n) ∙ e) in
    count_cons p k (range_with_len (k + 1) (suc n)) ∙ ap (λ m. cond (p k) 1 0 + m) rest ∙ sym (count_cons p k (range_with_len (k + 1) n))
  where
    behind : (k n : ℕ) → k + 1 + n ≡ k + suc n
    behind k n = omega arith

not_here : (h l : ℕ) → h ≢ l → (h == l) ≡ false
not_here h l ne = grind arith

-- ---- one item more
module _ (s : Store) (knows : ℕ → ℕ → ℕ → Type 0) (guest : ℕ → ℕ → Bool) (none : ℕ) (nobody : IsOpen s none → ⊥) where
  module _ (homes : List ℕ) where
    abbrev longer : List ℕ
    longer = homes ++ none ∷ []

    long : length longer ≡ length homes + 1
    long = length-append homes (none ∷ [])

    apart : (l : ℕ) → IsOpen s l → none ≢ l
    apart l o e = nobody (subst (IsOpen s) (sym e) o)

    last : (x : ℕ) → length homes ≤ x → x < length longer → get_or longer x 0 ≡ none
    last x high low =
        let at : x - length homes ≡ 0 = omega (arith, long) in
        get_or-append_right homes (none ∷ []) (length homes) x 0 refl high ∙ ap (λ i. get_or (none ∷ []) i 0) at

    old_home : (l x : ℕ) → IsOpen s l → x < length longer → get_or longer x 0 ≡ l → (x < length homes) × (get_or homes x 0 ≡ l)
    old_home l x o low e = elim (cases_lt x (length homes)) [
      | inl before ↦ (before, sym (get_or_append_left homes (none ∷ []) 0 x before) ∙ e)
      | inr after ↦ absurd (apart l o (sym (last x after low) ∙ e))
    ]

    still_home : (l x : ℕ) → IsOpen s l → is_home longer l x ≡ is_home homes l x
    still_home l x o = elim (cases_lt x (length homes)) [
      | inl before ↦
          both (yes x (length longer) (omega (arith, long))) (ap (λ k. k == l) (get_or_append_left homes (none ∷ []) 0 x before))
          ∙ sym (ap (λ b. b && get_or homes x 0 == l) (yes x (length homes) before))
      | inr after ↦ elim (cases_lt x (length longer)) [
        | inl low ↦
            both (yes x (length longer) low) (ap (λ k. k == l) (last x after low) ∙ not_here none l (apart l o))
            ∙ sym (ap (λ b. b && get_or homes x 0 == l) (no x (length homes) after))
        | inr high ↦
            ap (λ b. b && get_or longer x 0 == l) (no x (length longer) high) ∙ sym (ap (λ b. b && get_or homes x 0 == l) (no x (length homes) after))
      ]
    ]
      where
        yes : (a b : ℕ) → a < b → nat_lt a b ≡ true
        yes a b h = grind arith

        no : (a b : ℕ) → b ≤ a → nat_lt a b ≡ false
        no a b h = grind arith

        both : {a b c : Bool} → a ≡ true → b ≡ c → (a && b) ≡ c
        both {a} {b} {c} e f = ap (λ d. d && b) e ∙ f

    count_still : (l : ℕ) → IsOpen s l → home_count longer l ≡ home_count homes l
    count_still l o =
        let p : ℕ → Bool = λ h. h == l in
        let all : home_count longer l ≡ home_count homes l + count_by p (none ∷ []) = sum_by-append (λ y. cond (p y) 1 0) homes (none ∷ []) in
        let one : count_by p (none ∷ []) ≡ bit (none == l) + 0 = count_cons p none [] in
        let zero_is : bit (none == l) ≡ 0 = ap bit (not_here none l (apart l o)) in
        omega (arith, all, one, zero_is)

    homed_one : AreHomed s knows guest homes → ((l : ℕ) → IsOpen s l → guest l (length homes) ≡ false) → AreHomed s knows guest longer
    homed_one h none_there = record {
      known = λ l x o low e. let old = old_home l x o low e in h.known l x o old.0 old.1;
      once = λ l x o. h.once l x o ∙ ap (λ b. cond b 1 0) (sym (still_home l x o));
      counted = λ l o. h.counted l o ∙ sym (count_still l o);
      guests = λ l x o low e. let old = old_home l x o low e in h.guests l x o old.0 old.1;
      room = λ l o.
          let more : guest_count guest (suc (length homes)) l ≡ guest_count guest (length homes) l =
          same_count (guest l) 0 (length homes) (none_there_at l o) in
          let is : length longer ≡ suc (length homes) = omega (arith, long) in
          let same : guest_count guest (length longer) l ≡ guest_count guest (length homes) l = ap (λ n. guest_count guest n l) is ∙ more in
          omega (arith, same, h.room l o);
    }
      where
        none_there_at : (l : ℕ) → IsOpen s l → guest l (0 + length homes) ≡ false
        none_there_at l o = ap (guest l) (front (length homes)) ∙ none_there l o
          where
            front : (n : ℕ) → 0 + n ≡ n
            front n = omega arith

  pub homed_new : (homes : List ℕ) (n : ℕ) → AreHomed s knows guest homes → ((l x : ℕ) → IsOpen s l → length homes ≤ x → guest l x ≡ false)
      → AreHomed s knows guest (homes ++ replicate n none)
  homed_new homes zero h new = subst (AreHomed s knows guest) (sym (append-nil homes)) h
  homed_new homes (suc n) h new =
      let rest : AreHomed s knows guest (longer homes ++ replicate n none) =
      homed_new (longer homes) n (homed_one homes h (λ l o. new l (length homes) o (omega arith)))
      (λ l x o low. new l x o (omega (arith, low, long homes))) in
      subst (AreHomed s knows guest) (append_assoc homes (none ∷ []) (replicate n none)) rest
