-- Searches over lists that a function was mapped over.
use Rattle.std.proofs.Common.{◌≡◌, ◌+◌, Bool, true, false, List, [], ◌∷◌, ◌||◌, ◌&&◌, length, ap, ◌∙◌, refl, cond, map}
use Rattle.std.specs.Prelude.{Option, Some, option_map, find, position, not, suc}
use Rattle.std.specs.List.{list_any, list_all, position_or_len}

module _ {X Y : Type 0} (f : X → Y) where
  pub list_any-map : (p : Y → Bool) (xs : List X) → list_any p (map f xs) ≡ list_any (λ x. p (f x)) xs
  list_any-map p [] = refl
  list_any-map p (x ∷ xs) = ap (λ b. p (f x) || b) (list_any-map p xs)

  pub list_all-map : (p : Y → Bool) (xs : List X) → list_all p (map f xs) ≡ list_all (λ x. p (f x)) xs
  list_all-map p [] = refl
  list_all-map p (x ∷ xs) = ap (λ b. p (f x) && b) (list_all-map p xs)

  option_map-cond : (test : Bool) (x : X) (o : Option X) → cond test (Some (f x)) (option_map f o) ≡ option_map f (cond test (Some x) o)
  option_map-cond true x o = refl
  option_map-cond false x o = refl

  pub find-map : (p : Y → Bool) (xs : List X) → find p (map f xs) ≡ option_map f (find (λ x. p (f x)) xs)
  find-map p [] = refl
  find-map p (x ∷ xs) = ap (λ o. cond (p (f x)) (Some (f x)) o) (find-map p xs) ∙ option_map-cond (p (f x)) x (find (λ x. p (f x)) xs)

  position_or_len-map : (p : Y → Bool) (xs : List X) → position_or_len p (map f xs) ≡ position_or_len (λ x. p (f x)) xs
  position_or_len-map p [] = refl
  position_or_len-map p (x ∷ xs) = ap (λ n. cond (not (p (f x))) (1 + n) 0) (position_or_len-map p xs)

  length-mapped : (xs : List X) → length (map f xs) ≡ length xs
  length-mapped [] = refl
  length-mapped (x ∷ xs) = ap (λ n. suc n) (length-mapped xs)

  pub position-map : (p : Y → Bool) (xs : List X) → position p (map f xs) ≡ position (λ x. p (f x)) xs
  position-map p xs = rw (position_or_len-map p xs, length-mapped xs) refl
