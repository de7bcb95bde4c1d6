use Rattle.std.proofs.Common.{ℕ, ap, sym, subst, ◌∙◌, replicate}
use Rattle.list_table.specs.Ledgers.{opening_ledger}
use Rattle.list_table.specs.Tables.{IsOwnerSeat}
use Rattle.list_table.proofs.Opens.{opens, opening_possible}
use Rattle.list_table.proofs.Splits.{owner_seat}
use Rattle.list_table.proofs.lists.SharedLists.new.Goals as goal

pub of_words-requires : goal.of_words-requires
of_words-requires c =
    let zeros = c.in_ok-words.ensures.items_if_clones_equal (λ y same. same) in
    opens c.args.lists c.args.chunks c.deref.result.now (c.deref.ensures.value ∙ (zeros ∙ ap (λ (n : ℕ). replicate n 0) c.word_count.ensures))

pub invariant_of-owner : goal.invariant_of-owner
invariant_of-owner c = subst (λ z. IsOwnerSeat z.lists z.chunks c.in_ok-desk.seat.me) (sym c.of.ensures)
    (owner_seat c.args.lists c.args.chunks c.in_ok-desk.seat.me (opening_ledger c.args.lists) c.in_ok-desk.ensures.4 (opening_possible c.args.lists c.args.chunks))
