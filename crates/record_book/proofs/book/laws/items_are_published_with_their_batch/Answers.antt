use Rattle.record_book.proofs.BagLaws.{as_many_points, item_stands}
use Rattle.record_book.proofs.book.laws.items_are_published_with_their_batch.Goals as goal

pub returns-clause-batch : goal.returns-clause-batch
returns-clause-batch c = item_stands c.book.inside _ c.book.invariant c.book.view_is

pub returns-clause-number : goal.returns-clause-number
returns-clause-number c = as_many_points c.book.inside _ c.book.invariant c.book.view_is
