use Rattle.std.proofs.Common.{sym, ap, subst}
use Rattle.list_words.specs.Store.{Store, IsReclaimed}
use Rattle.chunk_lists.specs.Keepers.{KnownIn}
use Rattle.chunk_lists.specs.Knives.{with_room, lists_of}
use Rattle.std.specs.Prelude.{Some}
use Rattle.chunk_lists.specs.Keepers.{ShownIn}
use Rattle.chunk_lists.proofs.knife.KnifeLeafLists.reclaim.Goals as goal

pub returns-clause-store : goal.returns-clause-store
returns-clause-store c =
    let e = c.reclaim.ensures.store in
    let r = c.self.inside.room in
    subst (λ k. IsReclaimed (lists_of k) (lists_of (record { keeper = c.reclaim.new.self; grants = r.grants; items = r.items }))) c.self.view_is (record {
      to = record { rises = e.to.rises; within = e.to.within; nobody = e.to.nobody; stops = e.to.stops };
      free = e.free;
      rest = ap (λ (s : Store). with_room s r.grants r.items) e.rest;
    })

pub returns-clause-known : goal.returns-clause-known
returns-clause-known c h d x uncleared q =
    let z = subst (λ k. KnownIn k.keeper h d x) (sym c.self.view_is) q in (z.0, c.reclaim.ensures.known h d z.0 (Some x) uncleared z.1)

pub returns-clause-kept : goal.returns-clause-kept
returns-clause-kept c h d i y uncleared q = c.reclaim.ensures.known h d i y uncleared (subst (λ k. ShownIn k.keeper h d i y) (sym c.self.view_is) q)
