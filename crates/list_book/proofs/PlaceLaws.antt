-- Where the chunks of a book stand, how many they are, and how the book looks after a call.
use Rattle.std.proofs.Common.{◌≡◌, ℕ, suc, ◌+◌, ◌-◌, ◌<◌, ◌≤◌, Bool, cond, List, length, map, set, get_or, Some, ap, sym, subst, ◌∙◌, arith}
use Rattle.std.specs.List.{Contains, slice_get, sum, sum_by}
use Rattle.std.specs.FinSet as set_of
use Rattle.std.proofs.lemmas.List.{length-map}
use Rattle.std.proofs.lemmas.List.Sums.{get_or-le-sum_by, sum-map}
use Rattle.std.proofs.lemmas.Option.{slice_get-get_or, slice_get_within}
use Rattle.std.proofs.lemmas.Simd.{map-map}
use Rattle.chunk_pool.specs.Numbers.{Numbers, IsFree}
use Rattle.list_words.specs.Store.{chunks_of, is_shut}
use Rattle.list_words.specs.PlainRows.{PlainList}
use Rattle.list_words.specs.Plain.{Plain, all_chunks, chain, chunk_at, chunk_count, held_chunks, list_in}
use Rattle.list_words.specs.PlainKept.{home_of}
use Rattle.list_words.specs.declared.leaf_lists.Phase.TheVariants.{Shut}
use Rattle.list_words.proofs.ChunkLaws.{SamePlace, contained, one_place}
use Rattle.list_words.proofs.PlainLaws.{count-le, row-map}
use Rattle.list_words.proofs.StoreLaws.{held-le, nowhere, shut-le}
use Rattle.list_book.specs.Books.{BookRow, BookValue, IsNowhere, IsOrderOfShut, book_row, chunk_in, emptied_row, fresh_row, next_in_order, row_at, row_chain, row_chunks, row_count, row_held, with_next_cleared, with_taken_chunk}
use Rattle.list_book.specs.BookKept.{IsSound, bare_list}
use Rattle.list_book.proofs.RowLaws.{bare-row}
use Rattle.list_book.proofs.SoundLaws.{next_low}

-- ---- places of chunks

bare_chunk : (rows : List BookRow) (owned : Bool) (l r c : ℕ) → chunk_in rows owned l r ≡ Some c → chunk_at (map bare_list rows) owned l r ≡ Some c
bare_chunk rows owned l r c at = ap (λ (p : PlainList). slice_get (chain owned p) r) (bare-row rows l) ∙ at

-- a chunk of a chain of the list l, where a call has its row and that chain
pub in_chain : (rows : List BookRow) (owned : Bool) (l : ℕ) (r : BookRow) (chunks : List ℕ) → r ≡ row_at rows l → chunks ≡ row_chain owned r → (i c : ℕ) → slice_get chunks i ≡ Some c → chunk_in rows owned l i ≡ Some c
in_chain rows owned l r chunks is chain_is i c at = sym (ap (λ (cs : List ℕ). slice_get cs i) (chain_is ∙ ap (row_chain owned) is)) ∙ at

pub chunk_below : (rows : List BookRow) (pool : Numbers) (held : ℕ) (order : List ℕ) (cleared : ℕ) (out : List ℕ) (seats : ℕ) → IsSound rows pool held order cleared out seats
    → (owned : Bool) (l r c : ℕ) → chunk_in rows owned l r ≡ Some c → c < pool.size
chunk_below rows pool held order cleared out seats kept owned l r c at =
    let small : c < length kept.homes = slice_get_within kept.homes c (home_of l owned r) (kept.homed.home owned l r c (bare_chunk rows owned l r c at)) in
    omega (arith, kept.homed.size)

pub chunk_taken : (rows : List BookRow) (pool : Numbers) (held : ℕ) (order : List ℕ) (cleared : ℕ) (out : List ℕ) (seats : ℕ) → IsSound rows pool held order cleared out seats
    → (owned : Bool) (l r c : ℕ) → chunk_in rows owned l r ≡ Some c → IsFree pool c → ⊥
chunk_taken rows pool held order cleared out seats kept owned l r c at = kept.homed.taken owned l r c (bare_chunk rows owned l r c at)

pub chunk_place : (rows : List BookRow) (pool : Numbers) (held : ℕ) (order : List ℕ) (cleared : ℕ) (out : List ℕ) (seats : ℕ) → IsSound rows pool held order cleared out seats
    → (owned w : Bool) (l h r q c : ℕ) → chunk_in rows owned l r ≡ Some c → chunk_in rows w h q ≡ Some c → SamePlace owned w l h r q
chunk_place rows pool held order cleared out seats kept owned w l h r q c at there =
    one_place (map bare_list rows) kept.homes pool kept.homed owned w l h r q c (bare_chunk rows owned l r c at) (bare_chunk rows w h q c there)

-- a free chunk is in no chain
pub free_nowhere : (rows : List BookRow) (pool : Numbers) (held : ℕ) (order : List ℕ) (cleared : ℕ) (out : List ℕ) (seats c : ℕ) → IsSound rows pool held order cleared out seats → IsFree pool c
    → (l : ℕ) → Contains (row_chunks (row_at rows l)) c → ⊥
free_nowhere rows pool held order cleared out seats c kept free l inside =
    let lists : List PlainList = map bare_list rows in
    let p : Plain = record { lists = lists; chunks = 0; free = 0; order = order; cleared = cleared; out = out; grants_room = 0; items_room = 0; given = 0 } in
    nowhere p kept.homes pool c kept.homed free l (subst (λ (cs : List ℕ). Contains cs c) (sym (ap chunks_of (row-map lists l) ∙ ap all_chunks (bare-row rows l))) inside)

-- and a chunk that stands nowhere is free
pub nowhere_free : (rows : List BookRow) (pool : Numbers) (held : ℕ) (order : List ℕ) (cleared : ℕ) (out : List ℕ) (seats c : ℕ)
    → IsSound rows pool held order cleared out seats → c < pool.size → IsNowhere rows c → IsFree pool c
nowhere_free rows pool held order cleared out seats c kept small none =
    kept.homed.unplaced c small (λ owned l r at.
    none l (subst (λ (cs : List ℕ). Contains cs c) (ap all_chunks (bare-row rows l)) (contained owned (list_in (map bare_list rows) l) r c at)))

-- ---- how many they are

bare_total : (rows : List BookRow) → sum_by chunk_count (map bare_list rows) ≡ sum_by row_count rows
bare_total rows = sym (sum-map chunk_count (map bare_list rows)) ∙ ap sum (map-map chunk_count bare_list rows) ∙ sum-map row_count rows

pub total_is : (rows : List BookRow) (pool : Numbers) (held : ℕ) (order : List ℕ) (cleared : ℕ) (out : List ℕ) (seats : ℕ) → IsSound rows pool held order cleared out seats
    → sum_by row_count rows + set_of.len pool.free ≡ pool.size
total_is rows pool held order cleared out seats kept = ap (λ n. n + set_of.len pool.free) (sym (bare_total rows)) ∙ kept.summed.total

pub order_few : (rows : List BookRow) (pool : Numbers) (held : ℕ) (order : List ℕ) (cleared : ℕ) (out : List ℕ) (seats : ℕ) → IsSound rows pool held order cleared out seats → length order ≤ length rows
order_few rows pool held order cleared out seats kept =
    let long : length (map bare_list rows) ≡ length rows = length-map rows bare_list in
    omega (arith, kept.summed.shuts, shut-le (map bare_list rows))

pub held_few : (rows : List BookRow) (pool : Numbers) (held : ℕ) (order : List ℕ) (cleared : ℕ) (out : List ℕ) (seats : ℕ) → IsSound rows pool held order cleared out seats → held ≤ pool.size
held_few rows pool held order cleared out seats kept = held-le (map bare_list rows) pool held (length order) kept.summed

pub count_few : (rows : List BookRow) (pool : Numbers) (held : ℕ) (order : List ℕ) (cleared : ℕ) (out : List ℕ) (seats l : ℕ) → IsSound rows pool held order cleared out seats → l < length rows → row_count (row_at rows l) ≤ pool.size
count_few rows pool held order cleared out seats l kept low =
    let long : length (map bare_list rows) ≡ length rows = length-map rows bare_list in
    let is : chunk_count (list_in (map bare_list rows) l) ≡ row_count (row_at rows l) = ap chunk_count (bare-row rows l) in
    omega (arith, count-le (map bare_list rows) pool held (length order) l kept.summed (omega arith))

-- the chunks of a list that is shut are held
pub held_part : (rows : List BookRow) (pool : Numbers) (held : ℕ) (order : List ℕ) (cleared : ℕ) (out : List ℕ) (seats l : ℕ) → IsSound rows pool held order cleared out seats → l < length rows → (row_at rows l).phase ≡ Shut
    → row_count (row_at rows l) ≤ held
held_part rows pool held order cleared out seats l kept low was =
    let all : sum_by held_chunks (map bare_list rows) ≡ sum_by row_held rows = sym (sum-map held_chunks (map bare_list rows)) ∙ ap sum (map-map held_chunks bare_list rows) ∙ sum-map row_held rows in
    let part : row_held (row_at rows l) ≤ sum_by row_held rows = get_or-le-sum_by row_held rows l fresh_row low in
    let whole : row_held (row_at rows l) ≡ row_count (row_at rows l) = ap (λ s. cond s (row_count (row_at rows l)) 0) (ap is_shut was) in
    omega (arith, kept.summed.held)

-- ---- the book after a chunk was taken

pub taken_view : (b : BookValue) (l : ℕ) (old new : BookRow) (f : BookRow → BookRow) (s n : ℕ) → old ≡ book_row b l → new ≡ f old → s ≡ b.chunks → n + 1 ≡ b.free
    → (let q : BookValue = record b { chunks = s; rows = set b.rows l new; free = n } in q) ≡ with_taken_chunk b l (f (book_row b l))
taken_view b l old new f s n is changed size one =
    let less : n ≡ b.free - 1 = omega arith in
    ap (λ (r : BookRow). let q : BookValue = record b { chunks = s; rows = set b.rows l r; free = n } in q) (changed ∙ ap f is)
    ∙ ap (λ k. let q : BookValue = record b { chunks = k; rows = set b.rows l (f (book_row b l)); free = n } in q) size
    ∙ ap (λ k. let q : BookValue = record b { rows = set b.rows l (f (book_row b l)); free = k } in q) less

-- ---- the next list to be cleared

-- a list stands in the order at the place of the next that is cleared, is one of the lists, and was shut
pub record IsNext (rows : List BookRow) (order : List ℕ) (cleared l : ℕ) : Type 0 where
  pub next : slice_get order cleared ≡ Some l
  pub place : l ≡ get_or order cleared 0
  pub some : cleared < length order
  pub low : l < length rows
  pub was : (row_at rows l).phase ≡ Shut

pub is_next : (rows : List BookRow) (order : List ℕ) (cleared l : ℕ) → IsOrderOfShut rows order cleared → cleared < length order → l ≡ get_or order cleared 0 → IsNext rows order cleared l
is_next rows order cleared l listed some place =
    let next : slice_get order cleared ≡ Some l = slice_get-get_or order cleared 0 some ∙ ap Some (sym place) in
    record { next = next; place = place; some = some; low = next_low rows order cleared l listed next; was = listed.shut cleared l next }

pub cleared_view : (b : BookValue) (l n k s : ℕ) (new : BookRow) → l ≡ next_in_order b → new ≡ emptied_row (book_row b l) → n ≡ b.free + row_count (book_row b l) → k ≡ suc b.cleared → s ≡ b.chunks
    → (let q : BookValue = record b { chunks = s; rows = set b.rows l new; free = n; cleared = k } in q) ≡ with_next_cleared b
cleared_view b l n k s new l_is new_is n_is k_is s_is =
    ap (λ (r : BookRow). let q : BookValue = record b { chunks = s; rows = set b.rows l r; free = n; cleared = k } in q) new_is
    ∙ ap (λ m. let q : BookValue = record b { chunks = s; rows = set b.rows l (emptied_row (book_row b l)); free = m; cleared = k } in q) n_is
    ∙ ap (λ m. let q : BookValue = record b { chunks = s; rows = set b.rows l (emptied_row (book_row b l)); free = b.free + row_count (book_row b l); cleared = m } in q) k_is
    ∙ ap (λ m. let q : BookValue = record b { chunks = m; rows = set b.rows l (emptied_row (book_row b l)); free = b.free + row_count (book_row b l); cleared = suc b.cleared } in q) s_is
    ∙ ap (λ j. let q : BookValue = record b { rows = set b.rows j (emptied_row (book_row b j)); free = b.free + row_count (book_row b j); cleared = suc b.cleared } in q) l_is
