use Rattle.std.proofs.Common.{arith}
use Rattle.list_book.proofs.PlaceLaws.{order_few}
use Rattle.list_book.proofs.book.Book.birth.Goals as goal

pub overflow_cast-result : goal.overflow_cast-result
overflow_cast-result c = omega (
  arith,
  c.len.ensures,
  c.self.inside.order.ok.0,
  c.self.inside.rows.ok.0,
  c.self.invariant.few_lists,
  order_few c.self.inside.rows.items c.self.inside.pool c.self.inside.held c.self.inside.order.items c.self.inside.cleared c.self.inside.out.items c.self.inside.seats c.self.invariant.sound,
)
