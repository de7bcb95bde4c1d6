-- Texts between commas.
use Rattle.std.proofs.Common.{◌≡◌, ℕ, List, ◌∙◌, ap, refl}
use Rattle.std.specs.Prelude.{Option, Some, None, option_map, unwrap_or, slice_get, slice_index_or}
use Rattle.std.specs.Borrow.{Bor}
use Rattle.std.proofs.lemmas.Option.{unwrap_or-slice_get}

now_unwrapped : {A : Type 0} (r : Option (Bor A)) (d : Bor A) → (unwrap_or r d).now ≡ unwrap_or (option_map (λ x. x.now) r) d.now
now_unwrapped None d = refl
now_unwrapped (Some x) d = refl

-- the element at a place, or a default, behind references
pub unwrapped : {A : Type 0} (r : Option (Bor A)) (d : Bor A) (xs : List A) (place : ℕ) → option_map (λ x. x.now) r ≡ slice_get xs place
    → (unwrap_or r d).now ≡ slice_index_or xs place d.now
unwrapped r d xs place is = now_unwrapped r d ∙ ap (λ o. unwrap_or o d.now) is ∙ unwrap_or-slice_get xs place d.now
