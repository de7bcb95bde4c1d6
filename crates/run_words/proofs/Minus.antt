-- Texts that begin with a minus sign.
use Rattle.std.proofs.Common.{◌≡◌, ◌≢◌, ℕ, ◌==◌, ◌&&◌, Bool, true, false, List, [], ◌∷◌, ap, refl, arith}
use Rattle.std.specs.Prelude.{Option, Some, None, option_map, if◌then◌else◌, drop}
use Rattle.std.specs.Option.{MatchOption}
use Rattle.std.specs.Borrow.{Bor}
use Rattle.std.proofs.lemmas.Bool.Decides.{nat_tests}
use Rattle.run_words.specs.Numbers.{has_minus}

none_without : (byte : ℕ) (rest : List ℕ) → (byte ≡ 45 → ⊥) → None ≡ (if byte == 45 then Some rest else None)
none_without byte rest other = grind (arith, nat_tests)

-- what is left behind a minus sign
pub behind_minus : (text : List ℕ) (r : Option (Bor (List ℕ))) → MatchOption r ((rest : List ℕ) → text ≢ 45 ∷ rest) (λ x. text ≡ 45 ∷ x.now)
    → option_map (λ x. x.now) r ≡ (if has_minus text then Some (drop 1 text) else None)
behind_minus [] None none = refl
behind_minus (byte ∷ rest) None none = none_without byte rest (λ e. none rest (ap (λ b. b ∷ rest) e))
behind_minus text (Some x) is = rw is refl

pub and_true : (test : Bool) → (test && true) ≡ test
and_true true = refl
and_true false = refl
