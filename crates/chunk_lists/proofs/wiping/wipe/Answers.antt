use Rattle.std.proofs.Common.{◌≡◌, ℕ, ◌+◌, ◌*◌, length, sym, ap, ◌∙◌}
use Rattle.std.proofs.lemmas.List.{length-append}
use Rattle.list_table.specs.Ledgers.{leaf_of}
use Rattle.list_table.specs.OwnerMoves.{chunks_in, after_begin}
use Rattle.chunk_lists.specs.Wipes.{wiped_to}
use Rattle.chunk_lists.proofs.Clearings.{begun_long, wiped_more, all_clear, ended}
use Rattle.chunk_lists.proofs.wiping.wipe.Goals as goal

pub end_clearing-requires-clause-all : goal.end_clearing-requires-clause-all
end_clearing-requires-clause-all c =
    let g = c.args.seat.now.ledger in let l = c.args.list in let n = c.args.lists.now.lists in
    let h = after_begin g l in
    let a = length c.args.claimed.now in let b = length c.args.owned.now in
    let long = begun_long g l n c.requires.leaves c.requires.list in
    let is = c.wipe_chain-2.ensures.ledger ∙ ((λ i. wiped_to (c.wipe_chain.ensures.ledger i) l (257 * (a + b) + 1)) ∙ ((λ i. wiped_to (wiped_to (c.begin_clearing.ensures.ledger i) l (257 * (0 + a) + 1)) l (257 * (a + b) + 1)) ∙ wiped_more h l n long c.requires.list (257 * (0 + a) + 1) (257 * (a + b) + 1))) in
    let both : a + b ≡ length (chunks_in (leaf_of g l)) = (λ i. length (c.requires.claimed i) + length (c.requires.owned i)) ∙ sym (length-append (leaf_of g l).claimed (leaf_of g l).owned) in
    all_clear g l n c.requires.leaves c.requires.list c.wipe_chain-2.new.seat.ledger (257 * (a + b) + 1) is (ap (λ (k : ℕ). 257 * k + 1) both)

pub returns-clause-ledger : goal.returns-clause-ledger
returns-clause-ledger c =
    let g = c.args.seat.now.ledger in let l = c.args.list in let n = c.args.lists.now.lists in
    let h = after_begin g l in
    let a = length c.args.claimed.now in let b = length c.args.owned.now in
    let long = begun_long g l n c.requires.leaves c.requires.list in
    let is = c.wipe_chain-2.ensures.ledger ∙ ((λ i. wiped_to (c.wipe_chain.ensures.ledger i) l (257 * (a + b) + 1)) ∙ ((λ i. wiped_to (wiped_to (c.begin_clearing.ensures.ledger i) l (257 * (0 + a) + 1)) l (257 * (a + b) + 1)) ∙ wiped_more h l n long c.requires.list (257 * (0 + a) + 1) (257 * (a + b) + 1))) in
    let both : a + b ≡ length (chunks_in (leaf_of g l)) = (λ i. length (c.requires.claimed i) + length (c.requires.owned i)) ∙ sym (length-append (leaf_of g l).claimed (leaf_of g l).owned) in
    c.end_clearing.ensures.ledger ∙ ended g l n c.requires.leaves c.requires.list c.wipe_chain-2.new.seat.ledger (257 * (a + b) + 1) is (ap (λ (k : ℕ). 257 * k + 1) both)
