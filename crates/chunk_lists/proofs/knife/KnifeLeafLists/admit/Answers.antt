use Rattle.std.proofs.Common.{◌≡◌, length, get_or, sym, ap, ◌∙◌, subst, arith}
use Rattle.list_words.specs.Store.{Store, MayAdmit}
use Rattle.list_words.proofs.RowLaws.{open_row}
use Rattle.chunk_lists.specs.Keepers.{KnownIn, store_of}
use Rattle.chunk_lists.specs.Knives.{lists_of}
use Rattle.chunk_lists.proofs.Knowing.{grant_rows_long}
use Rattle.list_machine.specs.declared.views.Fact.TheVariants.{Item}
use Rattle.list_table.specs.Ledgers.{shown}
use Rattle.chunk_lists.specs.Keepers.{ShownIn}
use Rattle.chunk_lists.proofs.knife.KnifeLeafLists.admit.Goals as goal

pub new-requires-clause-within : goal.new-requires-clause-within
new-requires-clause-within c k d lt =
    let gs = c.args.grants.now in
    let old = c.self.inside.keeper in
    let may = subst (λ v. MayAdmit (lists_of v) gs) (sym c.self.view_is) c.requires in
    let low = open_row (store_of old) (get_or gs k d).list (may.takes k d lt).0 in
    let rows : length (store_of c.lend-seat.new.self).rows ≡ length (store_of old).rows = ap (λ (s : Store). length s.rows) c.lend-seat.ensures.store ∙ grant_rows_long gs (store_of old).rows in
    let lists = c.shared-lists.ensures.lists in
    omega (arith, low, rows, lists)

pub returns-clause-known : goal.returns-clause-known
returns-clause-known c h d x q =
    let z = subst (λ k. KnownIn k.keeper h d x) (sym c.self.view_is) q in (z.0, c.lend-seat.ensures.known (Item h d z.0 x) z.1)

pub returns-clause-kept : goal.returns-clause-kept
returns-clause-kept c h d i y q = c.lend-seat.ensures.known (shown h d i y) (subst (λ k. ShownIn k.keeper h d i y) (sym c.self.view_is) q)
