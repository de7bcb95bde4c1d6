use Rattle.std.proofs.Common.{◌≡◌, ◌∙◌, ◌+◌, ◌<◌, [], List, ℕ, ap, arith, get_or, length, map, refl, subst, sym, vec_items}
use Rattle.std.proofs.lemmas.List.{get_or-map, length-map, map-set}
use Rattle.leaf_items.proofs.PartLaws.{AreSoFar, more_so_far}
use Rattle.leaf_items.proofs.parts.parts_of.Goals as goal

pub loop-k-preserved : goal.loop-k-preserved
loop-k-preserved c =
    let k : ℕ = c.loop-k.k in
    let aim : ℕ = get_or c.args.aims.now k 0 in
    let item : ℕ = get_or c.args.items.now k 0 in
    let parts : List (List ℕ) = map vec_items c.loop-k.parts.items in
    let aim_low : aim < c.args.count = c.requires.within k 0 (omega (arith, c.requires.many, c.loop-k-test.true)) in
    let low : aim < length c.loop-k.parts.items = omega (arith, aim_low, c.loop-k.invariant.many, length-map c.loop-k.parts.items vec_items) in
    let P : List (List ℕ) → Type 0 = λ s. AreSoFar c.args.items.now c.args.aims.now s c.args.count (k + 1) in
    let known : c.index_mut-part.result.now.items ≡ get_or parts aim [] =
    ap vec_items c.index_mut-part.ensures.value ∙ sym (get_or-map vec_items c.loop-k.parts.items aim c.index_mut-part.result.now [] low) in
    subst P (sym (map-set vec_items c.loop-k.parts.items aim c.push.new.self))
    (more_so_far c.args.items.now c.args.aims.now parts c.args.count k aim item c.index_mut-part.result.now.items c.push.new.self.items
    c.loop-k-test.true c.requires.many c.loop-k.invariant refl refl aim_low known c.in_ok-push.ensures.items)
