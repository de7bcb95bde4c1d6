use Rattle.std.proofs.Common.{◌≡◌, ℕ, ◌+◌, ◌<◌, ◌≤◌, All, AllPairs, List, [], ◌∷◌, ◌++◌, length, take, get_or, refl, subst, sym, arith}
use Rattle.std.proofs.lemmas.List.{take_all, take_more}
use Rattle.std.proofs.lemmas.List.Quantifiers.{all_pairs_push}
use Rattle.pinned_version.specs.Books.{BatchItems, end_of}
use Rattle.pinned_version.proofs.tests.in_book_order.Goals as goal

-- one ends before the other begins
abbrev EndsBefore : BatchItems → BatchItems → Type 0
EndsBefore a b = end_of a ≤ b.first

-- batches that end at a number or before it
abbrev EndBy : ℕ → List BatchItems → Type 0
EndBy number batches = All (λ (b : BatchItems). end_of b ≤ number) batches

-- one batch more
one_more : (xs : List BatchItems) (at first : ℕ) (last : BatchItems) → at < length xs → last ≡ get_or xs at last → first ≡ last.first
    → AllPairs EndsBefore (take at xs) → EndBy first (take at xs) → AllPairs EndsBefore (take (at + 1) xs)
one_more xs at first last within read begins apart ends =
    let number : first ≡ (get_or xs at last).first = subst (λ (b : BatchItems). first ≡ b.first) read begins in
    subst (AllPairs EndsBefore) (sym (take_more xs at last within))
    (all_pairs_push EndsBefore (take at xs) (get_or xs at last) apart
    (λ k d less. subst (λ (n : ℕ). end_of (get_or (take at xs) k d) ≤ n) number (ends k d less)))

pub loop-at-preserved : goal.loop-at-preserved
loop-at-preserved c =
    one_more c.args.batches.now c.loop-at.at c.first.result c.index-batches-at.result c.loop-at-test.true c.index-batches-at.is c.first.ensures
    c.loop-at.invariant (c.if-not-end_by.ensures refl)

pub returns : goal.returns
returns c small = record {
  apart = subst (AllPairs EndsBefore) (take_all c.loop-at.at c.args.batches.now c.loop-at-test.false) c.loop-at.invariant;
  small = λ k d less. omega (arith, c.end_by-2.ensures small k d less);
}
