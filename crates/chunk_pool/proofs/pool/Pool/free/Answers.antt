use Rattle.std.proofs.Common.{◌≤◌, arith, ap, subst, ◌∙◌}
use Rattle.std.specs.FinSet as set
use Rattle.chunk_pool.specs.Numbers.{Numbers}
use Rattle.chunk_pool.proofs.HeapLaws.{Counted, counted}
use Rattle.chunk_pool.proofs.pool.Pool.free.Goals as goal

pub overflow_cast-result : goal.overflow_cast-result
overflow_cast-result c = let counts : Counted c.self.inside = counted c.self.inside c.self.invariant in omega arith

pub returns-clause-count : goal.returns-clause-count
returns-clause-count c =
    let counts : Counted c.self.inside = counted c.self.inside c.self.invariant in
    c.len.ensures ∙ counts.count ∙ ap (λ (p : Numbers). set.len p.free) c.self.view_is

pub returns-clause-few : goal.returns-clause-few
returns-clause-few c =
    let counts : Counted c.self.inside = counted c.self.inside c.self.invariant in
    subst (λ (p : Numbers). c.len.result ≤ p.size) c.self.view_is (omega (arith, counts.few))
