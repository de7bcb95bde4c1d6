use Rattle.std.proofs.Common.{◌≡◌, ℕ, ◌+◌, ◌*◌, List, length, refl, sym, ap, ◌∙◌, subst, arith, slice_index_or}
use Rattle.std.proofs.lemmas.Option.{slice_get-get_or}
use Rattle.list_machine.specs.Facts.{IsAt}
use Rattle.list_table.specs.Ledgers.{leaf_of}
use Rattle.list_table.specs.OwnerMoves.{chunks_in}
use Rattle.list_table.specs.declared.views.Ledger.{Ledger}
use Rattle.chunk_lists.specs.Wipes.{AreWiped, wiped_to}
use Rattle.chunk_lists.proofs.Clearings.{wiped_self, wiped_more, wiped_stage, wiped_chunks, wiped_long}
use Rattle.chunk_lists.proofs.wiping.wipe_chain.Goals as goal

pub loop-rank-init : goal.loop-rank-init
loop-rank-init c =
    let g = c.args.seat.now.ledger in let l = c.args.list in let b = c.args.before in
    (refl, wiped_self g l c.args.lists.now.lists c.requires.leaves c.requires.list (257 * b + 1) c.requires.wiped ∙ (let z : 257 * b + 1 ≡ 257 * (b + 0) + 1 = omega arith in ap (wiped_to g l) z))

pub wipe_chunk-requires-clause-leaves : goal.wipe_chunk-requires-clause-leaves
wipe_chunk-requires-clause-leaves c =
    let g = c.args.seat.now.ledger in let l = c.args.list in
    ap (λ (h : Ledger). length h.owner.book.leaves) c.loop-rank.invariant.1 ∙ wiped_long g l c.args.lists.now.lists c.requires.leaves c.requires.list (257 * (c.args.before + c.loop-rank.rank) + 1)

pub wipe_chunk-requires-clause-chunk : goal.wipe_chunk-requires-clause-chunk
wipe_chunk-requires-clause-chunk c =
    let r = c.loop-rank.rank in c.requires.chunks r (slice_index_or c.args.chain.now r 0) (slice_get-get_or c.args.chain.now r 0 c.loop-rank-test.true)

pub wipe_chunk-requires-clause-wiped : goal.wipe_chunk-requires-clause-wiped
wipe_chunk-requires-clause-wiped c =
    let g = c.args.seat.now.ledger in let l = c.args.list in let r = c.loop-rank.rank in let b = c.args.before in
    let n = c.args.lists.now.lists in
    let m = 257 * (b + r) + 1 in
    let k = slice_index_or c.args.chain.now r 0 in (
      b + r,
      subst (λ (h : Ledger). AreWiped h l m) (sym c.loop-rank.invariant.1) (wiped_stage g l n c.requires.leaves c.requires.list m),
      subst (λ (h : Ledger). IsAt (chunks_in (leaf_of h l)) (b + r) k) (sym c.loop-rank.invariant.1)
          (subst (λ (cs : List ℕ). IsAt cs (b + r) k) (sym (wiped_chunks g l n c.requires.leaves c.requires.list m)) (c.requires.chain r k (slice_get-get_or c.args.chain.now r 0 c.loop-rank-test.true))),
    )

pub loop-rank-preserved : goal.loop-rank-preserved
loop-rank-preserved c =
    let g = c.args.seat.now.ledger in let l = c.args.list in let r = c.loop-rank.rank in let b = c.args.before in
    let n = c.args.lists.now.lists in
    let m = 257 * (b + r) + 1 in (
      c.wipe_chunk.ensures.name ∙ c.loop-rank.invariant.0,
      c.wipe_chunk.ensures.ledger (b + r) (subst (λ (h : Ledger). AreWiped h l m) (sym c.loop-rank.invariant.1) (wiped_stage g l n c.requires.leaves c.requires.list m))
          ∙ (ap (λ (h : Ledger). wiped_to h l (257 * (b + r + 1) + 1)) c.loop-rank.invariant.1
          ∙ (wiped_more g l n c.requires.leaves c.requires.list m (257 * (b + r + 1) + 1)
          ∙ (let z : 257 * (b + r + 1) + 1 ≡ 257 * (b + (r + 1)) + 1 = omega arith in ap (wiped_to g l) z))),
    )

pub returns-clause-ledger : goal.returns-clause-ledger
returns-clause-ledger c =
    let g = c.args.seat.now.ledger in let l = c.args.list in let b = c.args.before in
    let end = c.loop-rank-test.false in let most = c.loop-rank.auto.rank-end in
    c.loop-rank.invariant.1 ∙ (let z : 257 * (b + c.loop-rank.rank) + 1 ≡ 257 * (b + length c.args.chain.now) + 1 = omega (arith, end, most) in ap (wiped_to g l) z)
