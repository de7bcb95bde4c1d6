-- Ascending lists of numbers by the numbers that stand in them.
use Rattle.std.proofs.Common.{◌≡◌, ℕ, zero, suc, ◌+◌, ◌<◌, ◌≤◌, Bool, true, false, ◌||◌, ◌&&◌, List, [], ◌∷◌, ◌++◌, map, take, ap, refl, sym, arith, ◌∙◌, nat_eq, nat_lt}
use Rattle.std.specs.List.{All, filter}
use Rattle.std.proofs.lemmas.Bool.{lt-ltb, eq-eqb, ltb-true, and_parts}
use Rattle.std.proofs.Math.Bool.{or_assoc, or-true}
use Rattle.std.proofs.lemmas.List.Elements.{All-nil, All-cons, All-head, All-tail}
use Rattle.octree_model.specs.Numbers.{up_to, has, with_number, ascending}
use Rattle.octree_model.proofs.AscendingLaws.{has-ascending}
use Rattle.octree_model.proofs.FilterLaws.{filter_same, filter_none, filter_with, has-filter}

pub or_more : (a b c : Bool) → (b ≡ true → c ≡ true) → (a || b) ≡ true → (a || c) ≡ true
or_more true b c more h = refl
or_more false b c more h = more h

pub has-append : (z : ℕ) (xs ys : List ℕ) → has z (xs ++ ys) ≡ (has z xs || has z ys)
has-append z [] ys = refl
has-append z (x ∷ xs) ys = ap (λ b. nat_eq z x || b) (has-append z xs ys) ∙ sym (or_assoc (nat_eq z x) (has z xs) (has z ys))

pub has_left : (z : ℕ) (xs ys : List ℕ) → has z xs ≡ true → has z (xs ++ ys) ≡ true
has_left z xs ys h = has-append z xs ys ∙ ap (λ b. b || has z ys) h

pub has_right : (z : ℕ) (xs ys : List ℕ) → has z ys ≡ true → has z (xs ++ ys) ≡ true
has_right z xs ys h = has-append z xs ys ∙ ap (λ b. has z xs || b) h ∙ or-true (has z xs)

-- what stands among the first ones stands in the whole list
pub has_first : {X : Type 0} (f : X → ℕ) (z i : ℕ) (xs : List X) → has z (map f (take i xs)) ≡ true → has z (map f xs) ≡ true
has_first f z zero xs h = cc
has_first f z (suc i) [] h = h
has_first f z (suc i) (x ∷ xs) h = or_more (nat_eq z (f x)) (has z (map f (take i xs))) (has z (map f xs)) (has_first f z i xs) h

-- all numbers of a list are below n
abbrev pub AllUnder : ℕ → List ℕ → Type 0
AllUnder n [] = Unit {0}
AllUnder n (x ∷ xs) = (x < n) × AllUnder n xs

pub all_under : (n : ℕ) (xs : List ℕ) → All (λ x. x < n) xs → AllUnder n xs
all_under n [] h = tt
all_under n (x ∷ xs) h = (All-head (λ x. x < n) x xs h, all_under n xs (All-tail (λ x. x < n) x xs h))

pub under_all : (n : ℕ) (xs : List ℕ) → AllUnder n xs → All (λ x. x < n) xs
under_all n [] h = All-nil (λ x. x < n)
under_all n (x ∷ xs) h = All-cons (λ x. x < n) x xs h.0 (under_all n xs h.1)

pub under_by_has : (n : ℕ) (xs : List ℕ) → ((z : ℕ) → has z xs ≡ true → z < n) → AllUnder n xs
under_by_has n [] h = tt
under_by_has n (x ∷ xs) h = (h x (ap (λ b. b || has x xs) (eq-eqb x x refl)), under_by_has n xs (λ z e. h z (ap (λ b. nat_eq z x || b) e ∙ or-true (nat_eq z x))))

-- a number above all of a list
abbrev above : List ℕ → ℕ
above [] = 0
above (x ∷ xs) = (x + 1) + above xs

under_above : (n : ℕ) (xs : List ℕ) → above xs ≤ n → AllUnder n xs
under_above n [] l = tt
under_above n (x ∷ xs) l = (omega arith, under_above n xs (omega arith))

-- an ascending list has the numbers that stand in it
ascending-filter : (n : ℕ) (xs : List ℕ) → AllUnder n xs → ascending xs ≡ filter (λ z. has z xs) (up_to n)
ascending-filter n [] h = sym (filter_none (λ z. has z []) n (λ i l. refl))
ascending-filter n (x ∷ xs) h =
    ap (λ ks. with_number x ks) (ascending-filter n xs h.1)
    ∙ sym (filter_with (λ z. has z xs) (λ z. has z (x ∷ xs)) x n h.0 (λ i k. refl))

-- lists in which the same numbers stand
pub same_numbers : (xs ys : List ℕ) → ((z : ℕ) → has z xs ≡ has z ys) → ascending xs ≡ ascending ys
same_numbers xs ys same =
    let n : ℕ = above xs + above ys in
    ascending-filter n xs (under_above n xs (omega arith))
    ∙ filter_same (λ z. has z ys) (λ z. has z xs) n (λ i l. same i)
    ∙ sym (ascending-filter n ys (under_above n ys (omega arith)))

pub ascending-ascending : (xs : List ℕ) → ascending (ascending xs) ≡ ascending xs
ascending-ascending xs = same_numbers (ascending xs) xs (λ z. has-ascending z xs)

pub ascending_passing : (t : ℕ → Bool) (n : ℕ) → ascending (filter t (up_to n)) ≡ filter t (up_to n)
ascending_passing t n =
    ascending-filter n (filter t (up_to n)) (under_by_has n (filter t (up_to n)) (λ z h. ltb-true z n (and_parts (nat_lt z n) (t z) (sym (has-filter z t n) ∙ h)).0))
    ∙ filter_same t (λ z. has z (filter t (up_to n))) n (λ i l. has-filter i t n ∙ ap (λ b. b && t i) (lt-ltb _ _ l))
