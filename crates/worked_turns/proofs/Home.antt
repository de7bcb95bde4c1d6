-- New passes are home.
use Rattle.std.proofs.Common.{ℕ, List, map, refl, All}
use Rattle.std.proofs.lemmas.List.Elements.{All-map}
use Rattle.batch_front.specs.Passes.{FrontValue, IsHome, new_pass}

pub new_home : {S : Type 0} (front : FrontValue S) (numbers : List ℕ) → All (IsHome front) (map (new_pass front) numbers)
new_home front numbers = All-map (IsHome front) (new_pass front) numbers (λ k d lt. (refl, refl))
