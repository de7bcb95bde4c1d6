use Rattle.std.proofs.Common.{◌≡◌, ◌+◌, ◌*◌, refl, ap, ◌∙◌, arith}
use Rattle.chunk_lists.specs.Wipes.{wiped_to}
use Rattle.chunk_lists.proofs.Clearings.{wiped_self, may_slot, may_link, next_word}
use Rattle.chunk_lists.proofs.wiping.wipe_chunk.Goals as goal

pub loop-slot-init : goal.loop-slot-init
loop-slot-init c =
    let g = c.args.seat.now.ledger in let l = c.args.list in
    (refl, λ r e. wiped_self g l c.args.lists.now.lists c.requires.leaves c.requires.list (257 * r + 1) e ∙ (let z : 257 * r + 1 ≡ 257 * r + 0 + 1 = omega arith in ap (wiped_to g l) z))

pub clear_slot-requires-clause-next : goal.clear_slot-requires-clause-next
clear_slot-requires-clause-next c =
    let g = c.args.seat.now.ledger in let l = c.args.list in let w = c.requires.wiped in let k = c.loop-slot.slot in
    may_slot g l c.args.lists.now.lists c.requires.leaves c.requires.list c.loop-slot.seat.ledger (257 * w.0 + k + 1) w.0 c.args.chunk k (c.loop-slot.invariant.1 w.0 w.1) refl c.loop-slot-test.true w.2

pub loop-slot-preserved : goal.loop-slot-preserved
loop-slot-preserved c =
    let g = c.args.seat.now.ledger in let l = c.args.list in let k = c.loop-slot.slot in (
      c.clear_slot.ensures.name ∙ c.loop-slot.invariant.0,
      λ r e. c.clear_slot.ensures.ledger ∙ next_word g l c.args.lists.now.lists c.requires.leaves c.requires.list c.loop-slot.seat.ledger (257 * r + k + 1) (257 * r + (k + 1) + 1) (c.loop-slot.invariant.1 r e) (omega arith),
    )

pub clear_link-requires-clause-next : goal.clear_link-requires-clause-next
clear_link-requires-clause-next c =
    let g = c.args.seat.now.ledger in let l = c.args.list in let w = c.requires.wiped in let k = c.loop-slot.slot in
    let end = c.loop-slot-test.false in let most = c.loop-slot.auto.slot-end in
    may_link g l c.args.lists.now.lists c.requires.leaves c.requires.list c.loop-slot.seat.ledger (257 * w.0 + k + 1) w.0 c.args.chunk (c.loop-slot.invariant.1 w.0 w.1) (omega (arith, end, most)) w.2

pub returns-clause-ledger : goal.returns-clause-ledger
returns-clause-ledger c r e =
    let g = c.args.seat.now.ledger in let l = c.args.list in let k = c.loop-slot.slot in
    let end = c.loop-slot-test.false in let most = c.loop-slot.auto.slot-end in
    c.clear_link.ensures.ledger ∙ next_word g l c.args.lists.now.lists c.requires.leaves c.requires.list c.loop-slot.seat.ledger (257 * r + k + 1) (257 * (r + 1) + 1) (c.loop-slot.invariant.1 r e) (omega (arith, end, most))
