-- Bytes that come or go piece by piece.
use Rattle.std.proofs.Common.{◌≡◌, ℕ, ◌+◌, ◌-◌, List, ◌++◌, take, drop, length, Option, Some, None, ap, ◌∙◌, sym, append_assoc}
use Rattle.std.proofs.Math.Seq.{take-add}
use Rattle.std.proofs.lemmas.List.{take_rest}
use Rattle.std.specs.Io.KnownBytes.{Appends}

-- two pieces that were appended one after the other were appended as one
pub appends_more : (old mid new : Option (List ℕ)) (xs ys zs : List ℕ) → Appends old mid xs → Appends mid new ys → xs ++ ys ≡ zs → Appends old new zs
appends_more None mid new xs ys zs p q e = tt
appends_more (Some a) None new xs ys zs p q e = absurd p
appends_more (Some a) (Some b) None xs ys zs p q e = absurd q
appends_more (Some a) (Some b) (Some c) xs ys zs p q e = q ∙ ap (λ (l : List ℕ). l ++ ys) p ∙ append_assoc a xs ys ∙ ap (λ (l : List ℕ). a ++ l) e

-- the first m bytes and the next n are the first m + n
pub take_then : (m n : ℕ) (xs : List ℕ) → take m xs ++ take n (take (length xs - m) (drop m xs)) ≡ take (m + n) xs
take_then m n xs = ap (λ (l : List ℕ). take m xs ++ take n l) (take_rest xs m) ∙ sym (take-add m n xs)
