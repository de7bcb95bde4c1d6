-- The published batches where an event comes or a batch is given up.
use Rattle.std.proofs.Common.{◌≡◌, ℕ, ◌+◌, Bool, List, [], ◌∷◌, ◌++◌, length, set, count_by, cond, Some, ap, ◌∙◌, refl, arith}
use Rattle.std.specs.Prelude.{slice_get, suc, zero}
use Rattle.std.proofs.lemmas.List.Sums.{sum_by-append}
use Rattle.std.proofs.lemmas.Option.{none-some, same_Some}
use Rattle.cube_math.specs.Points.{PointValue}
use Rattle.record_book.specs.KeptBatches.{KeptValue, points_in}
use Rattle.record_book.specs.PublishedItems.{published_batches}
use Rattle.record_book.specs.declared.row.Standing.{Standing}
use Rattle.record_book.specs.declared.row.Standing.TheVariants.{Out, Published, Abandoned}

-- as many of two lists pass a test as of each, added up
pub count_both : (test : PointValue → Bool) (ps qs : List PointValue) → count_by test (ps ++ qs) ≡ count_by test ps + count_by test qs
count_both test ps qs = sum_by-append (λ (p : PointValue). cond (test p) 1 0) ps qs

-- a batch that is out is not published
pub published_batches-admission : (kept : List KeptValue) (standings : List Standing) (b : KeptValue) → length standings ≡ length kept
    → published_batches (kept ++ b ∷ []) (standings ++ Out ∷ []) ≡ published_batches kept standings
published_batches-admission [] [] b e = refl
published_batches-admission [] (s ∷ standings) b e = absurd (omega arith)
published_batches-admission (k ∷ kept) [] b e = absurd (omega arith)
published_batches-admission (k ∷ kept) (Out ∷ standings) b e = published_batches-admission kept standings b (omega arith)
published_batches-admission (k ∷ kept) (Published ∷ standings) b e =
    ap (λ (l : List KeptValue). k ∷ l) (published_batches-admission kept standings b (omega arith))
published_batches-admission (k ∷ kept) (Abandoned ∷ standings) b e = published_batches-admission kept standings b (omega arith)

-- nor is one that is given up
pub published_batches-abandonment : (kept : List KeptValue) (standings : List Standing) (place : ℕ) → slice_get standings place ≡ Some Out
    → published_batches kept (set standings place Abandoned) ≡ published_batches kept standings
published_batches-abandonment [] standings place out = refl
published_batches-abandonment (k ∷ kept) [] place out = absurd (none-some Out out)
published_batches-abandonment (k ∷ kept) (Out ∷ standings) zero out = refl
published_batches-abandonment (k ∷ kept) (Published ∷ standings) zero out = absurd (cc)
published_batches-abandonment (k ∷ kept) (Abandoned ∷ standings) zero out = absurd (cc)
published_batches-abandonment (k ∷ kept) (Out ∷ standings) (suc place) out = published_batches-abandonment kept standings place out
published_batches-abandonment (k ∷ kept) (Published ∷ standings) (suc place) out =
    ap (λ (l : List KeptValue). k ∷ l) (published_batches-abandonment kept standings place out)
published_batches-abandonment (k ∷ kept) (Abandoned ∷ standings) (suc place) out = published_batches-abandonment kept standings place out

-- a publication adds the points of its batch to those of the published ones
pub published_batches-publication : (test : PointValue → Bool) (kept : List KeptValue) (standings : List Standing) (place : ℕ) (b : KeptValue)
    → slice_get kept place ≡ Some b → slice_get standings place ≡ Some Out
    → count_by test (points_in (published_batches kept (set standings place Published)))
    ≡ count_by test (points_in (published_batches kept standings)) + count_by test b.points
published_batches-publication test [] standings place b there out = absurd (none-some b there)
published_batches-publication test (k ∷ kept) [] place b there out = absurd (none-some Out out)
published_batches-publication test (k ∷ kept) (Out ∷ standings) zero b there out =
    let e : count_by test k.points ≡ count_by test b.points = ap (λ (x : KeptValue). count_by test x.points) (same_Some k b there) in
    let both = count_both test k.points (points_in (published_batches kept standings)) in
    omega (arith, e, both)
published_batches-publication test (k ∷ kept) (Published ∷ standings) zero b there out = absurd (cc)
published_batches-publication test (k ∷ kept) (Abandoned ∷ standings) zero b there out = absurd (cc)
published_batches-publication test (k ∷ kept) (Out ∷ standings) (suc place) b there out =
    published_batches-publication test kept standings place b there out
published_batches-publication test (k ∷ kept) (Published ∷ standings) (suc place) b there out =
    let rest = published_batches-publication test kept standings place b there out in
    let before = count_both test k.points (points_in (published_batches kept standings)) in
    let after = count_both test k.points (points_in (published_batches kept (set standings place Published))) in
    omega (arith, rest, before, after)
published_batches-publication test (k ∷ kept) (Abandoned ∷ standings) (suc place) b there out =
    published_batches-publication test kept standings place b there out

-- so does the record
pub same_more : (test : PointValue → Bool) (points published before : List PointValue) (after : ℕ) → count_by test points ≡ count_by test before
    → after ≡ count_by test before + count_by test published → count_by test (points ++ published) ≡ after
same_more test points published before after same more = omega (arith, same, more, count_both test points published)
