use Rattle.std.proofs.Common.{◌≡◌, false, true, ap, sym, ◌∙◌}
use Rattle.std.specs.Ordering.{nat_cmp}
use Rattle.std.specs.FinSet as set
use Rattle.chunk_pool.specs.Numbers.{Numbers}
use Rattle.chunk_pool.proofs.tests.least_number_comes_first_and_none_where_none_is_free.Goals as goal

pub give-requires-clause-taken : goal.give-requires-clause-taken
give-requires-clause-taken g c = λ free.
    let lacks : set.contains c.take-3.new.self.free 0 ≡ false = ap (λ (p : Numbers). set.contains p.free 0) c.in-None.ensures.after ∙ ap (λ s. set.contains s 0) c.in-None.ensures.least ∙ set.contains-empty nat_cmp 0 in
    let both : false ≡ true = sym lacks ∙ free in
    absurd (not_both both)
  where
    not_both : false ≡ true → ⊥
    not_both e = cc
