-- Grants that are used.
use Rattle.std.proofs.Common.{◌≡◌, ℕ, ◌+◌, ◌-◌, ◌<◌, ◌≢◌, Bool, true, false, cond, List, [], ◌∷◌, sym, refl, ap, ◌∙◌, arith}
use Rattle.std.specs.Prelude.{nat_eq, nat_le, ◌&&◌}
use Rattle.std.proofs.lemmas.Bool.Decides.{nat_tests}
use Rattle.list_machine.specs.Grants.{granted_in, use_grant}
use Rattle.list_machine.specs.declared.views.Grant.{Grant}

left_if : (h : ℕ) (b : Bool) (xs ys : List Grant) → granted_in h (cond b xs ys) ≡ cond b (granted_in h xs) (granted_in h ys)
left_if h true xs ys = refl
left_if h false xs ys = refl

-- one grant of n for the list, or of a later grant
here : (b c : Bool) (n rest used : ℕ) → (c ≡ true → 0 < n) → (c ≡ false → n ≡ 0) → 0 < cond b n 0 + rest → (0 < rest → used + 1 ≡ rest) → cond (b && c) (cond b (n - 1) 0 + rest) (cond b n 0 + used) + 1 ≡ cond b n 0 + rest
here true true n rest used some none h more = let p = some refl in omega arith
here true false n rest used some none h more = let p = none refl in let m = more (omega arith) in omega arith
here false c n rest used some none h more = let m = more (omega arith) in omega arith

there : (b c d : Bool) (n rest used : ℕ) → (b ≡ true → d ≡ true → ⊥) → used ≡ rest → cond (b && c) (cond d (n - 1) 0 + rest) (cond d n 0 + used) ≡ cond d n 0 + rest
there true c true n rest used ne e = absurd (ne refl refl)
there true true false n rest used ne e = refl
there true false false n rest used ne e = omega arith
there false c d n rest used ne e = ap (λ (x : ℕ). cond d n 0 + x) e

-- one grant of the list is gone
pub used_here : (l : ℕ) (gs : List Grant) → 0 < granted_in l gs → granted_in l (use_grant l gs) + 1 ≡ granted_in l gs
used_here l [] h = absurd (omega arith)
used_here l (g ∷ gs) h =
    ap (λ (x : ℕ). x + 1) (left_if l (nat_eq g.list l && nat_le 1 g.n) (record { list = g.list; n = g.n - 1 } ∷ gs) (g ∷ use_grant l gs))
    ∙ here (nat_eq g.list l) (nat_le 1 g.n) g.n (granted_in l gs) (granted_in l (use_grant l gs)) (λ e. grind (arith, nat_tests)) (λ e. grind (arith, nat_tests)) h (used_here l gs)

-- and of no other
pub used_else : (l h : ℕ) (gs : List Grant) → h ≢ l → granted_in h (use_grant l gs) ≡ granted_in h gs
used_else l h [] ne = refl
used_else l h (g ∷ gs) ne =
    left_if h (nat_eq g.list l && nat_le 1 g.n) (record { list = g.list; n = g.n - 1 } ∷ gs) (g ∷ use_grant l gs)
    ∙ there (nat_eq g.list l) (nat_le 1 g.n) (nat_eq g.list h) g.n (granted_in h gs) (granted_in h (use_grant l gs)) (λ e d. let p : g.list ≡ l = grind (arith, nat_tests) in let q : g.list ≡ h = grind (arith, nat_tests) in ne (sym q ∙ p)) (used_else l h gs ne)
