-- The numbers of cards, each of which is on one card, and the records of passes.
use Rattle.std.proofs.Common.{◌≡◌, ℕ, zero, suc, ◌+◌, ◌<◌, ◌≤◌, ◌≢◌, Bool, true, false, cond, nat_eq, nat_le, List, [], ◌∷◌, ◌++◌, map, length, filter, sym, refl, ap, ◌∙◌, arith, append_assoc, append-nil, eq-eqb, ne_eqb}
use mathlib.Core.Logic.{dite}
use native.Mathlib.Decide.{ℕ_discrete}
use Rattle.std.specs.List.{range_with_len}
use Rattle.std.proofs.lemmas.Bool.{le-leb}
use Rattle.std.proofs.lemmas.List.{map-append, length-append}
use Rattle.std.proofs.lemmas.List.Elements.{filter-append}
use Rattle.record_model.specs.Records.{Record, IsPrefix, own}
use Rattle.batch_front.specs.Turns.{total, Each, longer}
use Rattle.record_model.specs.declared.event.Event.{Event}

-- 1 for the number k, and else 0
abbrev pub is : ℕ → ℕ → ℕ
is k x = cond (nat_eq x k) 1 0

pub is_hit : (k x : ℕ) → x ≡ k → is k x ≡ 1
is_hit k x e = ap (λ (b : Bool). cond b 1 0) (eq-eqb x k e)

pub is_miss : (k x : ℕ) → x ≢ k → is k x ≡ 0
is_miss k x ne = ap (λ (b : Bool). cond b 1 0) (ne_eqb x k ne)

-- numbers from a on: none below a, none from the end on, and none twice
pub none_low : (k a n : ℕ) → k < a → total (is k) (range_with_len a n) ≡ 0
none_low k a zero h = refl
none_low k a (suc n) h = let r = none_low k (a + 1) n (omega arith) in let m = is_miss k a (λ e. absurd (omega arith)) in omega arith

pub none_high : (k a n : ℕ) → a + n ≤ k → total (is k) (range_with_len a n) ≡ 0
none_high k a zero h = refl
none_high k a (suc n) h = let r = none_high k (a + 1) n (omega arith) in let m = is_miss k a (λ e. absurd (omega arith)) in omega arith

pub once : (k a n : ℕ) → total (is k) (range_with_len a n) ≤ 1
once k a zero = omega arith
once k a (suc n) = dite (ℕ_discrete a k)
    (λ e. let r = none_low k (a + 1) n (omega arith) in let m = is_hit k a e in omega arith)
    (λ ne. let r = once k (a + 1) n in let m = is_miss k a ne in omega arith)

pub there : (k a n : ℕ) → a ≤ k → k < a + n → total (is k) (range_with_len a n) ≡ 1
there k a zero p q = absurd (omega arith)
there k a (suc n) p q = dite (ℕ_discrete a k)
    (λ e. let r = none_low k (a + 1) n (omega arith) in let m = is_hit k a e in omega arith)
    (λ ne. let r = there k (a + 1) n (omega arith) (omega arith) in let m = is_miss k a ne in omega arith)

pub count : (a n : ℕ) → total (λ _. 1) (range_with_len a n) ≡ n
count a zero = refl
count a (suc n) = let r = count (a + 1) n in omega arith

-- a number that is on no card is the number of none
pub none_is : {C : Type 0} (number : C → ℕ) (k : ℕ) (cards : List C) → total (λ c. is k (number c)) cards ≡ 0 → Each (λ c. number c ≢ k) cards
none_is number k [] h = tt
none_is number k (c ∷ cs) h = ((λ e. let m = is_hit k (number c) e in absurd (omega arith)), none_is number k cs (omega arith))

-- the events of a pass, once one more was added
pub own_hit : (events : Record) (e : Event) (p q : ℕ) → p ≡ q → own (events ++ (e, p) ∷ []) q ≡ own events q ++ e ∷ []
own_hit events e p q is = ap (map (λ (x : Event × ℕ). x.0)) (filter-append (λ (x : Event × ℕ). nat_eq x.1 q) events ((e, p) ∷ []) ∙ ap (λ (b : Bool). filter (λ (x : Event × ℕ). nat_eq x.1 q) events ++ cond b ((e, p) ∷ []) []) (eq-eqb p q is))
    ∙ map-append (λ (x : Event × ℕ). x.0) (filter (λ (x : Event × ℕ). nat_eq x.1 q) events) ((e, p) ∷ [])

pub own_miss : (events : Record) (e : Event) (p q : ℕ) → p ≢ q → own (events ++ (e, p) ∷ []) q ≡ own events q
own_miss events e p q ne = ap (map (λ (x : Event × ℕ). x.0)) (filter-append (λ (x : Event × ℕ). nat_eq x.1 q) events ((e, p) ∷ []) ∙ (ap (λ (b : Bool). filter (λ (x : Event × ℕ). nat_eq x.1 q) events ++ cond b ((e, p) ∷ []) []) (ne_eqb p q ne) ∙ append-nil _))

-- beginnings of one record
pub prefix_more : (seen events : Record) (x : Event × ℕ) → IsPrefix seen events → IsPrefix seen (events ++ x ∷ [])
prefix_more seen events x h = (h.0 ++ x ∷ [], sym (append_assoc seen h.0 (x ∷ [])) ∙ ap (λ (l : Record). l ++ x ∷ []) h.1)

pub prefix_all : (events : Record) → IsPrefix events events
prefix_all events = ([], append-nil events)

-- the shorter of two beginnings of one record begins the longer
pub prefix_prefix : (xs ys events : Record) → IsPrefix xs events → IsPrefix ys events → length xs ≤ length ys → IsPrefix xs ys
prefix_prefix [] ys events p q h = (ys, refl)
prefix_prefix (x ∷ xs) [] events p q h = absurd (omega arith)
prefix_prefix (x ∷ xs) (y ∷ ys) [] p q h = absurd (cc)
prefix_prefix (x ∷ xs) (y ∷ ys) (z ∷ zs) p q h =
    let a : x ≡ z = cc in let b : y ≡ z = cc in let c : xs ++ p.0 ≡ zs = cc in let d : ys ++ q.0 ≡ zs = cc in
    let r = prefix_prefix xs ys zs (p.0, c) (q.0, d) (omega arith) in (r.0, (λ i. (a ∙ sym b) i ∷ r.1 i))

pub longer_is : (xs ys events : Record) → IsPrefix xs events → IsPrefix ys events → IsPrefix (longer xs ys) events × IsPrefix xs (longer xs ys) × IsPrefix ys (longer xs ys)
longer_is xs ys events p q = by (nat_le (length ys) (length xs)) refl where
  by : (b : Bool) → nat_le (length ys) (length xs) ≡ b → IsPrefix (cond b xs ys) events × IsPrefix xs (cond b xs ys) × IsPrefix ys (cond b xs ys)
  by true e = (p, prefix_all xs, prefix_prefix ys xs events q p (grind (arith, e)))
  by false e = (q, prefix_prefix xs ys events p q (grind (arith, e)), prefix_all ys)

-- who has seen all sees no more
pub longer_all : (xs ys : Record) → IsPrefix ys xs → longer xs ys ≡ xs
longer_all xs ys p =
    let long : length (ys ++ p.0) ≡ length xs = ap length p.1 in
    let le : length ys ≤ length xs = omega (arith, length-append ys p.0) in
    ap (λ (b : Bool). cond b xs ys) (le-leb (length ys) (length xs) le)
