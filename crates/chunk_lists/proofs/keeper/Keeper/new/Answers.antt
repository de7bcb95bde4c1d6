use Rattle.std.proofs.Common.{◌≡◌, ℕ, sym, ap, ◌∙◌, subst}
use Rattle.list_book.specs.Books.{BookValue, fresh_book}
use Rattle.list_table.specs.Ledgers.{opening_ledger}
use Rattle.list_table.specs.Tables.{ListsValue, OwnerValue}
use Rattle.chunk_lists.specs.Keepers.{IsKeeper, AreTied}
use Rattle.chunk_lists.proofs.Knowing.{opening_tied}
use Rattle.chunk_lists.proofs.keeper.Keeper.new.Goals as goal

pub invariant_of-keeper : goal.invariant_of-keeper
invariant_of-keeper c =
    let shared : c.in_ok-clone.field-0.value ≡ c.in_ok-shared.shared = c.in_ok-clone.ensures.cases ∙ c.in_ok-shared-2.ensures.ok in
    let size = c.in_ok-shared.ensures.size in
    let owner : OwnerValue = record { name = c.in_ok-shared.shared.name; ledger = opening_ledger c.args.lists } in
    subst {A = ListsValue × OwnerValue × BookValue} (λ z. IsKeeper z.0 z.1 z.2) (λ i. (sym shared i, sym c.in_ok-shared.ensures.owner i, sym c.in_ok-book.ensures i))
    (record {
      name = ap (λ (v : ListsValue). v.name) (λ i. c.in_ok-shared.shared);
      tied = subst (λ (z : ℕ × ℕ). AreTied z.0 z.1 (opening_ledger c.args.lists) (fresh_book c.args.lists c.args.chunks)) (λ i. (sym size.0 i, sym size.1 i)) (opening_tied c.args.lists c.args.chunks);
    })
