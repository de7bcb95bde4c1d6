use Rattle.list_words.proofs.GrantLaws.{IsGranting}
use Rattle.list_words.proofs.plain_lists.grant_all.Given as goal

abbrev pub invariant-loop-grant : goal.invariant-loop-grant
invariant-loop-grant l = IsGranting l.grants l.fn.rows.items l.rows.items l.all l.grant-index
