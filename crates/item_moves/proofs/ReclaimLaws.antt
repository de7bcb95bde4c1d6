-- Swept lists that are cleared.
use Rattle.std.proofs.Common.{◌≡◌, ℕ, inl, inr, Bool, List, length, count_by, ◌==◌, Contains, ap, sym, ◌∙◌, subst, arith}
use Rattle.list_words.specs.Store.{Store, Row, IsOpen, IsShut, IsReclaimed, IsCleared, found_in, row}
use Rattle.list_words.proofs.RowLaws.{reclaimed_each, reclaimed_open}
use Rattle.item_moves.specs.Homes.{AreHomed}
use Rattle.item_moves.specs.Settled.{AreSettled}
use Rattle.item_moves.proofs.SweepAllLaws.{in_take, no_one}
use Rattle.item_moves.proofs.SweepLaws.{not_both}

module _ (s t : Store) (r : IsReclaimed s t) (shut : (l : ℕ) → Contains s.order l → IsShut s l) where
  same_phase : (l : ℕ) → (row t l).phase ≡ (row s l).phase
  same_phase l = elim (reclaimed_each s t r l) [ inl same ↦ ap (λ (q : Row). q.phase) same | inr empty ↦ ap (λ (q : Row). q.phase) empty ]

  was : (l : ℕ) → IsOpen t l → IsOpen s l
  was l o = sym (same_phase l) ∙ o

  same_row : (l : ℕ) → IsOpen t l → row t l ≡ row s l
  same_row l o = reclaimed_open s t r shut l (was l o)

  pub not_cleared : (l : ℕ) → IsOpen s l → IsCleared t l → ⊥
  not_cleared l o c = not_both (sym (shut l (subst (λ (q : List ℕ). Contains q l) (ap (λ (v : Store). v.order) r.rest) (in_take t.order t.cleared l c))) ∙ o)

  pub homed_reclaimed : (knows knows' : ℕ → ℕ → ℕ → Type 0) (guest : ℕ → ℕ → Bool) (homes : List ℕ) → AreHomed s knows guest homes
      → ((l c x : ℕ) → (IsCleared t l → ⊥) → knows l c x → knows' l c x) → AreHomed t knows' guest homes
  homed_reclaimed knows knows' guest homes h keeps = record {
    known = λ l x o low e. let k = h.known l x (was l o) low e in (k.0, keeps l k.0 x (not_cleared l (was l o)) k.1);
    once = λ l x o. ap (λ (q : Row). count_by (λ y. y == x) q.placed) (same_row l o) ∙ h.once l x (was l o);
    counted = λ l o. ap (λ (q : Row). length q.placed) (same_row l o) ∙ h.counted l (was l o);
    guests = λ l x o. h.guests l x (was l o);
    room = λ l o. omega (arith, h.room l (was l o), ap (λ (q : Row). length q.owned) (same_row l o));
  }

  pub settled_reclaimed : (leaf : ℕ → ℕ) (covers : ℕ → ℕ → Bool) (homes left : List ℕ) → AreSettled s leaf covers homes left
      → AreSettled t leaf covers homes left
  unfolding AreSettled
  settled_reclaimed leaf covers homes left old l x there among can = elim (reclaimed_each s t r l) [
    | inl same ↦ old l x (sym (same_phase l) ∙ there) (subst (λ (q : Row). Contains (found_in q) x) same among) can
    | inr empty ↦ absurd (no_one x (subst (λ (q : Row). Contains (found_in q) x) empty among))
  ]
