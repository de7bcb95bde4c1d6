use Rattle.std.proofs.Common.{◌≡◌, ℕ, suc, ◌+◌, ◌*◌, ◌<◌, ◌≤◌, All, sym, subst, ap, ◌∙◌, arith}
use Rattle.std.proofs.Math.Nat.{mul-le-mul_left, mul-le-mul_right, suc-mul}
use Rattle.std.proofs.lemmas.List.Elements.{All-push}
use Rattle.list_words.specs.Filing.{Filing}
use Rattle.chunk_lists.specs.Knives.{lists_of}
use Rattle.worked_lists.specs.Layouts.{IsLaidOut}
use Rattle.worked_lists.proofs.crowd.hire.Goals as goal

pub hire_one-requires-clause-laid_out : goal.hire_one-requires-clause-laid_out
hire_one-requires-clause-laid_out c =
    let l = c.requires.laid_out in
    let crew = c.args.crew in
    let n : ℕ = c.loop-number.number in
    let more : n < crew.workers = c.loop-number-test.true in
    let one = suc-mul n crew.places in
    let places : suc n * crew.places ≤ crew.workers * crew.places = mul-le-mul_right crew.places more in
    let fits : n * crew.places + crew.places ≤ crew.workers * crew.places = omega (arith, one, places) in
    let all : crew.lists * (n * crew.places + crew.places) ≤ crew.lists * (crew.workers * crew.places) = mul-le-mul_left crew.lists fits in
    let room = l.2 in
    let slots = room.0 in let few = room.1 in let seats = room.2 in
    (l.0, n * crew.places, n, c.loop-number.invariant.0 l.0 l.1, (omega (arith, fits, slots), omega (arith, all, few), omega (arith, more, seats)))

pub loop-number-preserved : goal.loop-number-preserved
loop-number-preserved c =
    let n : ℕ = c.loop-number.number in
    let crew = c.args.crew in
    let before = c.loop-number.invariant in
    let one = c.in_ok-worker.ensures in
    let pushed = c.in_ok-push.ensures in
    let named = λ (w : Filing). w.name ≡ (lists_of c.args.knife.now).name in
    let product : n * crew.places + crew.places ≡ (n + 1) * crew.places = sym (suc-mul n crew.places) ∙ ap (λ k. k * crew.places) (omega arith) in (
      λ chunks laid. subst (λ k. IsLaidOut (lists_of c.hire_one.new.knife) crew.lists chunks k (n + 1)) product (one.laid_out chunks (n * crew.places) n (before.0 chunks laid)),
      one.name ∙ before.1,
      subst (All named) (sym pushed.items) (All-push named c.loop-number.workers.items c.in_ok-worker.worker before.2 (one.worker ∙ before.1)),
      pushed.len ∙ ap (λ k. k + 1) before.3,
    )

pub returns-clause-laid_out : goal.returns-clause-laid_out
returns-clause-laid_out c chunks laid =
    let crew = c.args.crew in
    let low = c.loop-number.auto.number-end in
    let high = c.loop-number-test.false in
    let all : c.loop-number.number ≡ crew.workers = omega (arith, low, high) in
    subst (λ k. IsLaidOut (lists_of c.loop-number.knife) crew.lists chunks (k * crew.places) k) all (c.loop-number.invariant.0 chunks laid)
