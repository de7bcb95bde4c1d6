-- The numbers below n.
use Rattle.std.proofs.Common.{◌≡◌, ℕ, zero, suc, ◌<◌, inl, inr, [], ◌∷◌, ◌++◌, map, length, get_or, refl, arith, ◌∙◌}
use Rattle.std.proofs.lemmas.List.{map-append, get_or_append_left, get_or_push, length-map, length_push}
use Rattle.std.proofs.lemmas.Bool.{cases_lt}
use Rattle.octree_model.specs.Numbers.{up_to}

pub length-up_to : (n : ℕ) → length (up_to n) ≡ n
length-up_to zero = refl
length-up_to (suc n) = grind (arith, length_push (up_to n) n, length-up_to n)

pub at_up_to : {X : Type 0} (f : ℕ → X) (n g : ℕ) (d : X) → g < n → get_or (map f (up_to n)) g d ≡ f g
at_up_to f zero g d l = absurd (omega arith)
at_up_to f (suc n) g d l =
    let parts : map f (up_to n ++ n ∷ []) ≡ map f (up_to n) ++ f n ∷ [] = map-append f (up_to n) (n ∷ []) in
    let long : length (map f (up_to n)) ≡ n = length-map (up_to n) f ∙ length-up_to n in
    elim (cases_lt g n) [
      | inl below ↦ rw parts (get_or_append_left _ _ d g (omega arith) ∙ at_up_to f n g d below)
      | inr above ↦ let same : g ≡ n = omega arith in rw (parts, same) (get_or_push _ (f n) d n long)
    ]
