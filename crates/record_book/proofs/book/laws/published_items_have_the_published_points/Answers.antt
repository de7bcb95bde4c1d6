use Rattle.record_book.proofs.BagLaws.{same_all, same_passing}
use Rattle.record_book.proofs.book.laws.published_items_have_the_published_points.Goals as goal

pub returns-clause-all : goal.returns-clause-all
returns-clause-all c = same_all c.book.inside _ c.book.invariant c.book.view_is

pub returns-clause-passing : goal.returns-clause-passing
returns-clause-passing c = same_passing c.book.inside _ c.book.invariant c.book.view_is
