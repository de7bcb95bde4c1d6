-- Words with one change.
use Rattle.std.proofs.Common.{◌≡◌, ℕ, ◌≢◌, cond, sym, refl, subst, eq-eqb, ne_eqb}
use mathlib.Core.Logic.{dite}
use native.Mathlib.Decide.{ℕ_discrete}
use Rattle.list_machine.specs.State.{put}

pub putting : {X : Type 0} (f : ℕ → X) (k : ℕ) (x : X) (j : ℕ) (F : X → Type 0) → (j ≡ k → F x) → (j ≢ k → F (f j)) → F (put f k x j)
putting f k x j F hit miss = dite (ℕ_discrete j k)
    (λ e. subst (λ b. F (cond b x (f j))) (sym (eq-eqb j k e)) (hit e))
    (λ n. subst (λ b. F (cond b x (f j))) (sym (ne_eqb j k n)) (miss n))

pub put_here : {X : Type 0} (f : ℕ → X) (k : ℕ) (x : X) → put f k x k ≡ x
put_here f k x = putting f k x k (λ y. y ≡ x) (λ _. refl) (λ n. absurd (n refl))

pub put_else : {X : Type 0} (f : ℕ → X) (k : ℕ) (x : X) (j : ℕ) → j ≢ k → put f k x j ≡ f j
put_else f k x j n = putting f k x j (λ y. y ≡ f j) (λ e. absurd (n e)) (λ _. refl)

-- a table with one change
pub putting_slot : {X : Type 0} (f : ℕ → ℕ → X) (c k : ℕ) (x : X) (d j : ℕ) (F : X → Type 0) → (d ≡ c → j ≡ k → F x) → ((d ≡ c → j ≡ k → ⊥) → F (f d j)) → F (put f c (put (f c) k x) d j)
putting_slot {X} f c k x d j F hit miss = putting f c (put (f c) k x) d (λ (g : ℕ → X). F (g j))
    (λ e. putting (f c) k x j F (λ e'. hit e e') (λ n. subst (λ (y : ℕ). F (f y j)) e (miss (λ _ e'. n e'))))
    (λ n. miss (λ e _. n e))
