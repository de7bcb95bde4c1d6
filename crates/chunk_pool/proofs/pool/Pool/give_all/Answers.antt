use Rattle.std.proofs.Common.{◌≡◌, ℕ, ◌+◌, ◌<◌, get_or, Some, sym, subst, arith}
use Rattle.std.specs.List.{slice_get}
use Rattle.std.proofs.lemmas.Option.{slice_get-get_or}
use Rattle.chunk_pool.specs.Numbers.{Numbers}
use Rattle.chunk_pool.proofs.GiveLaws.{GivenBack, given_more, given_none, not_given}
use Rattle.chunk_pool.proofs.pool.Pool.give_all.Goals as goal

pub give-requires-clause-below : goal.give-requires-clause-below
give-requires-clause-below c =
    let k : ℕ = get_or c.args.ids.now c.loop-id.id-index 0 in
    let at : slice_get c.args.ids.now c.loop-id.id-index ≡ Some k = slice_get-get_or c.args.ids.now c.loop-id.id-index 0 c.loop-id-test.true in
    let low : k < c.args.self.now.size = c.requires.below c.loop-id.id-index k at in
    omega (arith, c.loop-id.invariant.size)

pub give-requires-clause-taken : goal.give-requires-clause-taken
give-requires-clause-taken c =
    let k : ℕ = get_or c.args.ids.now c.loop-id.id-index 0 in
    let at : slice_get c.args.ids.now c.loop-id.id-index ≡ Some k = slice_get-get_or c.args.ids.now c.loop-id.id-index 0 c.loop-id-test.true in
    not_given c.args.self.now c.loop-id.self c.args.ids.now c.loop-id.id-index k c.loop-id.invariant c.requires.taken c.requires.apart at

pub loop-id-init : goal.loop-id-init
loop-id-init c = given_none _ _

pub loop-id-preserved : goal.loop-id-preserved
loop-id-preserved c =
    let k : ℕ = get_or c.args.ids.now c.loop-id.id-index 0 in
    let at : slice_get c.args.ids.now c.loop-id.id-index ≡ Some k = slice_get-get_or c.args.ids.now c.loop-id.id-index 0 c.loop-id-test.true in
    subst (λ (p : Numbers). GivenBack c.args.self.now p c.args.ids.now (c.loop-id.id-index + 1)) (sym c.give.ensures)
    (given_more c.args.self.now c.loop-id.self c.args.ids.now c.loop-id.id-index 0 c.loop-id.invariant c.loop-id-test.true at
    (not_given c.args.self.now c.loop-id.self c.args.ids.now c.loop-id.id-index k c.loop-id.invariant c.requires.taken c.requires.apart at))
