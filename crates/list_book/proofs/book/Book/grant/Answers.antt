use Rattle.std.proofs.Common.{◌+◌, ◌<◌, List, sym, subst, arith}
use Rattle.list_machine.specs.Grants.{granted_in_all}
use Rattle.list_book.specs.Books.{BookRow, BookValue}
use Rattle.list_book.specs.BookKept.{IsSound}
use Rattle.list_book.proofs.SoundLaws.{sound-grants}
use Rattle.list_book.proofs.book.Book.grant.Goals as goal

pub invariant_of-self : goal.invariant_of-self
invariant_of-self c =
    let few : c.self.inside.given + granted_in_all c.args.grants.now < 2147483648 = subst (λ (b : BookValue). b.given + granted_in_all c.args.grants.now < 2147483648) (sym c.self.view_is) c.requires.few in
    record {
      sound = subst (λ (rs : List BookRow). IsSound rs c.self.inside.pool c.self.inside.held c.self.inside.order.items c.self.inside.cleared c.self.inside.out.items c.self.inside.seats) (sym c.grant_all.ensures.rows)
          (sound-grants c.args.grants.now c.self.inside.rows.items c.self.inside.pool c.self.inside.held c.self.inside.order.items c.self.inside.cleared c.self.inside.out.items c.self.inside.seats c.self.invariant.sound);
      sized = c.grant_all.ensures.sized;
      order_room = omega (arith, c.grant_all.ensures.len, c.self.invariant.order_room);
      out_room = omega (arith, c.grant_all.ensures.len, c.self.invariant.out_room);
      few_lists = omega (arith, c.grant_all.ensures.len, c.self.invariant.few_lists);
      few_chunks = c.self.invariant.few_chunks;
      few_given = omega (arith, few, c.grant_all.ensures.all);
    }
