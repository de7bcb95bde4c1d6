-- Portions of a list.
use Rattle.std.proofs.Common.{◌≡◌, ℕ, zero, suc, ◌+◌, ◌-◌, ◌≤◌, min, List, [], ◌∷◌, ◌++◌, length, map, take, drop, ap, ◌∙◌, sym, refl, arith}
use Rattle.std.proofs.lemmas.List.{drop-take, drop-map, take-map, take_all}
use Rattle.frame_words.specs.Parts.{portion}

module _ {X : Type 0} where
  abbrev nil : List X
  nil = []

  take_nil : (n : ℕ) → take n nil ≡ nil
  take_nil zero = refl
  take_nil (suc n) = refl

  drop_nil : (n : ℕ) → drop n nil ≡ nil
  drop_nil zero = refl
  drop_nil (suc n) = refl

  of_nil : (a b : ℕ) → portion a b nil ≡ nil
  of_nil a b = ap (drop a) (take_nil b) ∙ drop_nil a

  before_all : (a : ℕ) (xs : List X) → portion a 0 xs ≡ []
  before_all a xs = drop_nil a

  -- a slice is a portion
  pub sliced : (first end : ℕ) (xs : List X) → first ≤ end → take (end - first) (drop first xs) ≡ portion first end xs
  sliced first end xs l =
      let e : first + (end - first) ≡ end = omega arith in
      sym (drop-take first (end - first) xs) ∙ ap (λ (n : ℕ). drop first (take n xs)) e

  -- the whole list
  pub whole : (n : ℕ) (xs : List X) → n ≡ length xs → portion 0 n xs ≡ xs
  whole n xs e = take_all n xs (omega (arith, e))

  -- two portions, one after the other
  pub one_after : (a b c : ℕ) (xs : List X) → a ≤ b → b ≤ c → portion a b xs ++ portion b c xs ≡ portion a c xs
  one_after a b c [] l m = ap (λ (ys : List X). ys ++ portion b c []) (of_nil a b) ∙ of_nil b c ∙ sym (of_nil a c)
  one_after zero zero c (x ∷ xs) l m = refl
  one_after zero (suc b) zero (x ∷ xs) l m = absurd (omega arith)
  one_after zero (suc b) (suc c) (x ∷ xs) l m = ap (λ (ys : List X). x ∷ ys) (one_after zero b c xs (omega arith) (omega arith))
  one_after (suc a) zero c (x ∷ xs) l m = absurd (omega arith)
  one_after (suc a) (suc b) zero (x ∷ xs) l m = absurd (omega arith)
  one_after (suc a) (suc b) (suc c) (x ∷ xs) l m = one_after a b c xs (omega arith) (omega arith)

  -- no item lies past the end
  capped : (a b : ℕ) (xs : List X) → portion (min a (length xs)) (min b (length xs)) xs ≡ portion a b xs
  capped a b [] = of_nil (min a 0) (min b 0) ∙ sym (of_nil a b)
  capped zero zero (x ∷ xs) = let e : min 0 (suc (length xs)) ≡ 0 = omega arith in λ j. portion (e j) (e j) (x ∷ xs)
  capped zero (suc b) (x ∷ xs) =
      let still_none : min 0 (suc (length xs)) ≡ 0 = omega arith in
      let still : 0 ≡ min 0 (length xs) = omega arith in
      let more : min (suc b) (suc (length xs)) ≡ suc (min b (length xs)) = omega arith in
      (λ j. portion (still_none j) (more j) (x ∷ xs)) ∙ ap (λ (ys : List X). x ∷ ys) ((λ j. portion (still j) (min b (length xs)) xs) ∙ capped zero b xs)
  capped (suc a) zero (x ∷ xs) =
      let still_none : min 0 (suc (length xs)) ≡ 0 = omega arith in
      (λ j. portion (min (suc a) (suc (length xs))) (still_none j) (x ∷ xs)) ∙ drop_nil (min (suc a) (suc (length xs)))
  capped (suc a) (suc b) (x ∷ xs) =
      let e : min (suc a) (suc (length xs)) ≡ suc (min a (length xs)) = omega arith in
      let f : min (suc b) (suc (length xs)) ≡ suc (min b (length xs)) = omega arith in
      (λ j. portion (e j) (f j) (x ∷ xs)) ∙ capped a b xs

  -- a portion of a list with another behind it
  pub behind : (a b : ℕ) (xs ys : List X) → portion a b (xs ++ ys) ≡ portion a b xs ++ portion (min (a - length xs) (length ys)) (min (b - length xs)
      (length ys)) ys
  behind a b [] ys =
      let e : a - 0 ≡ a = omega arith in
      let f : b - 0 ≡ b = omega arith in
      sym ((λ j. of_nil a b j ++ portion (min (e j) (length ys)) (min (f j) (length ys)) ys) ∙ capped a b ys)
  behind a zero (x ∷ xs) ys =
      let e : min (0 - suc (length xs)) (length ys) ≡ 0 = omega arith in
      before_all a ((x ∷ xs) ++ ys) ∙ sym ((λ j. before_all a (x ∷ xs) j ++ portion (min (a - suc (length xs)) (length ys)) (e j) ys)
      ∙ before_all (min (a - suc (length xs)) (length ys)) ys)
  behind zero (suc b) (x ∷ xs) ys =
      let e : 0 - suc (length xs) ≡ 0 - length xs = omega arith in
      let f : suc b - suc (length xs) ≡ b - length xs = omega arith in
      ap (λ (zs : List X). x ∷ zs) (behind zero b xs ys) ∙ (λ j. x ∷ (portion 0 b xs ++ portion (min (sym e j) (length ys)) (min (sym f j) (length ys)) ys))
  behind (suc a) (suc b) (x ∷ xs) ys =
      let e : suc a - suc (length xs) ≡ a - length xs = omega arith in
      let f : suc b - suc (length xs) ≡ b - length xs = omega arith in
      behind a b xs ys ∙ (λ j. portion a b xs ++ portion (min (sym e j) (length ys)) (min (sym f j) (length ys)) ys)

pub mapped : {X Y : Type 0} (f : X → Y) (a b : ℕ) (xs : List X) → portion a b (map f xs) ≡ map f (portion a b xs)
mapped f a b xs = ap (drop a) (take-map f b xs) ∙ drop-map f a (take b xs)
