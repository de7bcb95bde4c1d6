use Rattle.list_book.proofs.GrantLaws.{IsGrantingRows}
use Rattle.list_book.proofs.book.grant_all.Given as goal

abbrev pub invariant-loop-grant : goal.invariant-loop-grant
invariant-loop-grant l = IsGrantingRows l.grants l.fn.rows.items l.rows.items l.all l.grant-index
