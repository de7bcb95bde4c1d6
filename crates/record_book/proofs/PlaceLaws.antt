-- Places in lists that grow or change.
use Rattle.std.proofs.Common.{◌≡◌, ℕ, ◌+◌, ◌<◌, List, [], ◌∷◌, ◌++◌, length, set, count_by, cond, Some, ap, sym, ◌∙◌, refl, arith}
use Rattle.std.specs.Prelude.{slice_get, suc, zero}
use Rattle.std.proofs.lemmas.List.{length-set}
use Rattle.std.proofs.lemmas.List.Sums.{count_by-le-length, sum_by-cons}
use Rattle.std.proofs.lemmas.Option.{none-some, same_Some}
use Rattle.record_book.specs.BookKept.{is_published}
use Rattle.record_book.specs.declared.row.Standing.{Standing}
use Rattle.record_book.specs.declared.row.Standing.TheVariants.{Out, Published, Abandoned}

module _ {X : Type 0} where
  pub get_left : (xs ys : List X) (i : ℕ) → i < length xs → slice_get (xs ++ ys) i ≡ slice_get xs i
  get_left [] ys i low = absurd (omega arith)
  get_left (x ∷ xs) ys zero low = refl
  get_left (x ∷ xs) ys (suc i) low = get_left xs ys i (omega arith)

  pub get_last : (xs : List X) (y : X) → slice_get (xs ++ y ∷ []) (length xs) ≡ Some y
  get_last [] y = refl
  get_last (x ∷ xs) y = get_last xs y

  pub get_set_other : (xs : List X) (i j : ℕ) (y : X) → (i ≡ j → ⊥) → slice_get (set xs i y) j ≡ slice_get xs j
  get_set_other [] i j y other = refl
  get_set_other (x ∷ xs) zero zero y other = absurd (other refl)
  get_set_other (x ∷ xs) zero (suc j) y other = refl
  get_set_other (x ∷ xs) (suc i) zero y other = refl
  get_set_other (x ∷ xs) (suc i) (suc j) y other = get_set_other xs i j y (λ e. other (ap suc e))

  pub get_set_same : (xs : List X) (i : ℕ) (x y : X) → slice_get xs i ≡ Some x → slice_get (set xs i y) i ≡ Some y
  get_set_same [] i x y there = absurd (none-some x there)
  get_set_same (z ∷ xs) zero x y there = refl
  get_set_same (z ∷ xs) (suc i) x y there = get_set_same xs i x y there

-- how many are published, of one more
count_cons : (s : Standing) (standings : List Standing) → count_by is_published (s ∷ standings) ≡ cond (is_published s) 1 0 + count_by is_published standings
count_cons s standings = sum_by-cons (λ (t : Standing). cond (is_published t) 1 0) s standings

-- one that is out is published: one more is
pub published_more : (standings : List Standing) (place : ℕ) → slice_get standings place ≡ Some Out
    → count_by is_published (set standings place Published) ≡ count_by is_published standings + 1
published_more [] place there = absurd (none-some Out there)
published_more (s ∷ standings) zero there =
    let e : ◌≡◌ {A = ℕ} (cond (is_published s) 1 0) 0 = ap (λ (t : Standing). cond (is_published t) 1 0) (same_Some s Out there) in
    omega (arith, e, count_cons s standings, count_cons Published standings)
published_more (s ∷ standings) (suc place) there =
    omega (arith, published_more standings place there, count_cons s standings, count_cons s (set standings place Published))

-- it is abandoned: as many are
pub published_still : (standings : List Standing) (place : ℕ) → slice_get standings place ≡ Some Out
    → count_by is_published (set standings place Abandoned) ≡ count_by is_published standings
published_still [] place there = absurd (none-some Out there)
published_still (s ∷ standings) zero there =
    let e : ◌≡◌ {A = ℕ} (cond (is_published s) 1 0) 0 = ap (λ (t : Standing). cond (is_published t) 1 0) (same_Some s Out there) in
    omega (arith, e, count_cons s standings, count_cons Abandoned standings)
published_still (s ∷ standings) (suc place) there =
    omega (arith, published_still standings place there, count_cons s standings, count_cons s (set standings place Abandoned))

-- of some of which one is out, fewer are published than there are
pub published_few : (standings : List Standing) (place : ℕ) → slice_get standings place ≡ Some Out → count_by is_published standings < length standings
published_few standings place there =
    omega (arith, published_more standings place there, count_by-le-length is_published (set standings place Published), length-set standings place Published)

-- what is published is not out
pub out_is_not_published : (standings : List Standing) (place other : ℕ) → slice_get standings place ≡ Some Out → slice_get standings other ≡ Some Published
    → place ≡ other → ⊥
out_is_not_published standings place other out published e =
    differ (same_Some Out Published (sym out ∙ ap (slice_get standings) e ∙ published))
  where
    differ : Out ≡ Published → ⊥
    differ e = cc
