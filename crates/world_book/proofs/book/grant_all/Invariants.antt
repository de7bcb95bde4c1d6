use Rattle.world_book.proofs.GrantLaws.{IsGranting}
use Rattle.world_book.proofs.book.grant_all.Given as goal

abbrev pub invariant-loop-grant : goal.invariant-loop-grant
invariant-loop-grant l = IsGranting l.grants l.fn.rows.items l.rows.items l.grant-index
