-- A name tells the size of its lists and their table.
use Rattle.std.proofs.Common.{◌≡◌, ℕ, List, ap}
use Rattle.std.specs.List.{slice_index_or}
use Rattle.std.specs.Prelude.{drop}
use Rattle.atomic_table.specs.Seated.{TableId}
use Rattle.list_table.specs.Tables.{name_of}

-- the table of a name
abbrev table_in : List ℕ → TableId
table_in ns = record {
  words = slice_index_or ns 2 0;
  slots = slice_index_or ns 3 0;
  views_name = slice_index_or ns 4 0;
  atom = slice_index_or ns 5 0;
  block = slice_index_or ns 6 0;
  offset = slice_index_or ns 7 0;
  slot_names = drop 8 ns;
}

pub same_lists : (l c m d : ℕ) (t u : TableId) → name_of l c t ≡ name_of m d u → l ≡ m
same_lists l c m d t u e = ap (λ (ns : List ℕ). slice_index_or ns 0 0) e

pub same_chunks : (l c m d : ℕ) (t u : TableId) → name_of l c t ≡ name_of m d u → c ≡ d
same_chunks l c m d t u e = ap (λ (ns : List ℕ). slice_index_or ns 1 0) e

pub same_table : (l c m d : ℕ) (t u : TableId) → name_of l c t ≡ name_of m d u → t ≡ u
same_table l c m d t u e = ap table_in e
