use Rattle.std.proofs.Common.{◌≡◌, ℕ, List, ◌∷◌, slice_index, ap, ◌∙◌, subst}
use Rattle.list_words.specs.Store.{Row}
use Rattle.list_table.specs.Ledgers.{opening_ledger}
use Rattle.list_table.specs.Tables.{ListsValue}
use Rattle.list_book.specs.Books.{fresh_book}
use Rattle.list_filers.specs.Filers.{shared_name}
use Rattle.chunk_lists.specs.Knives.{KnifeValue, fresh_store, full_name, lists_of}
use Rattle.chunk_lists.proofs.Rows.{rows_fresh}
use Rattle.chunk_lists.proofs.knife.Knife.new.Goals as goal

-- the lists of a new owner, by its name
abbrev named : List ℕ → ℕ → ℕ → KnifeValue
named name lists chunks = record { keeper = record { name = name; ledger = opening_ledger lists; book = fresh_book lists chunks }; grants = 0; items = 0 }

fresh : (name : List ℕ) (lists chunks : ℕ) → lists_of (named name lists chunks) ≡ fresh_store (full_name name) lists chunks
fresh name lists chunks = ap (λ (rows : List Row). record (fresh_store (full_name name) lists chunks) { rows = rows }) (rows_fresh lists)

pub returns-clause-store : goal.returns-clause-store
returns-clause-store c =
    let shared = c.in_ok-shared.shared.value in
    let seen : c.deref.result.now ≡ shared = c.deref.ensures in
    let laws = c.name_tells_size.ensures in
    let lists : slice_index shared.name 0 ≡ shared.lists = subst (λ (v : ListsValue). slice_index v.name 0 ≡ v.lists) seen laws.lists in
    let chunks : slice_index shared.name 1 ≡ shared.chunks = subst (λ (v : ListsValue). slice_index v.name 1 ≡ v.chunks) seen laws.chunks in
    let full : full_name shared.name ≡ shared_name shared = λ i. lists i ∷ chunks i ∷ shared.name in
    let value : c.in_ok-shared.keeper ≡ (named shared.name c.args.lists c.args.chunks).keeper = c.in_ok-shared.ensures.keeper in
    let room = c.new-room.ensures in
    (λ i. lists_of (record { keeper = value i; grants = (room i).grants; items = (room i).items }))
    ∙ (fresh shared.name c.args.lists c.args.chunks ∙ (λ i. fresh_store (full i) c.args.lists c.args.chunks))
