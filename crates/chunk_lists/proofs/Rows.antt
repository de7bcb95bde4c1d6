-- The rows of a store, by the rows of a book and the notes.
use Rattle.std.proofs.Common.{◌≡◌, ℕ, zero, suc, ◌+◌, cond, sum_by, List, [], ◌∷◌, length, get_or, set, replicate, refl, sym, ap, ◌∙◌, arith}
use Rattle.std.proofs.lemmas.List.{length-append}
use Rattle.std.proofs.lemmas.List.Sums.{sum_by-cons}
use Rattle.list_words.specs.Store.{Row, no_row, row_in, held_in, is_shut}
use Rattle.list_book.specs.Books.{BookRow, fresh_row, row_at, row_held}
use Rattle.list_table.specs.Ledgers.{no_notes}
use Rattle.list_table.specs.declared.views.Notes.{Notes}
use Rattle.chunk_lists.specs.Keepers.{row_of, rows_of}

pub rows_length : (rs : List BookRow) (ts : List Notes) → length ts ≡ length rs → length (rows_of rs ts) ≡ length rs
rows_length [] ts e = refl
rows_length (r ∷ rs) [] e = absurd (omega arith)
rows_length (r ∷ rs) (t ∷ ts) e = ap suc (rows_length rs ts (omega arith))

pub rows_at : (rs : List BookRow) (ts : List Notes) (l : ℕ) → length ts ≡ length rs → row_in (rows_of rs ts) l ≡ row_of (row_at rs l) (get_or ts l no_notes)
rows_at [] [] l e = refl
rows_at [] (t ∷ ts) l e = absurd (omega arith)
rows_at (r ∷ rs) [] l e = absurd (omega arith)
rows_at (r ∷ rs) (t ∷ ts) zero e = refl
rows_at (r ∷ rs) (t ∷ ts) (suc l) e = rows_at rs ts l (omega arith)

pub rows_set : (rs : List BookRow) (ts : List Notes) (l : ℕ) (r : BookRow) (t : Notes) → length ts ≡ length rs → rows_of (set rs l r) (set ts l t) ≡ set (rows_of rs ts) l (row_of r t)
rows_set [] [] l r t e = refl
rows_set [] (s ∷ ts) l r t e = absurd (omega arith)
rows_set (q ∷ rs) [] l r t e = absurd (omega arith)
rows_set (q ∷ rs) (s ∷ ts) zero r t e = refl
rows_set (q ∷ rs) (s ∷ ts) (suc l) r t e = ap (λ (xs : List Row). row_of q s ∷ xs) (rows_set rs ts l r t (omega arith))

held_row : (r : BookRow) (t : Notes) → held_in (row_of r t) ≡ row_held r
held_row r t = ap (λ (n : ℕ). cond (is_shut r.phase) n 0) (length-append r.claimed r.owned)

pub held-rows : (rs : List BookRow) (ts : List Notes) → length ts ≡ length rs → sum_by held_in (rows_of rs ts) ≡ sum_by row_held rs
held-rows [] ts e = refl
held-rows (r ∷ rs) [] e = absurd (omega arith)
held-rows (r ∷ rs) (t ∷ ts) e = sum_by-cons held_in (row_of r t) (rows_of rs ts) ∙ ((λ i. held_row r t i + held-rows rs ts (omega arith) i) ∙ sym (sum_by-cons row_held r rs))

-- the rows of lists that were never opened
pub rows_fresh : (n : ℕ) → rows_of (replicate n fresh_row) (replicate n no_notes) ≡ replicate n no_row
rows_fresh zero = refl
rows_fresh (suc n) = ap (λ (xs : List Row). no_row ∷ xs) (rows_fresh n)
