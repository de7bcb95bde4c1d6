-- What a change of one list, of the order or of the counts does to what a book keeps.
use Rattle.std.proofs.Common.{◌≡◌, ◌≢◌, ◌&&◌, ℕ, ◌+◌, ◌-◌, ◌<◌, ◌⊎◌, inl, inr, Bool, true, false, not, List, [], ◌∷◌, ◌++◌, length, map, set, get_or, Some, ap, refl, sym, subst, ◌∙◌, arith}
use Rattle.std.specs.List.{Contains, slice_get, sum}
use Rattle.std.specs.FinSet as set_of
use Rattle.std.proofs.lemmas.Bool.{cases_eq, cases_lt, ne_eqb}
use Rattle.std.proofs.lemmas.Option.{slice_get_within}
use Rattle.std.proofs.lemmas.List.{length-append, length-map, set_past}
use Rattle.std.proofs.lemmas.List.Elements.{Contains-append_cases, Contains-append_left, Contains-append_right, Contains-push}
use Rattle.chunk_pool.specs.Numbers.{Numbers, IsFree, without}
use Rattle.chunk_pool.proofs.Sets.{contains_removed}
use Rattle.list_machine.specs.declared.views.Grant.{Grant}
use Rattle.list_words.specs.Store.{Unreached, counted_off, is_shut}
use Rattle.list_words.specs.PlainRows.{PlainList, emptied_list}
use Rattle.list_words.specs.Plain.{all_chunks, chain, chunk_at, chunk_count, list_in}
use Rattle.list_words.specs.PlainKept.{AreHomed, AreOrdered, AreSummed, home_of}
use Rattle.list_words.specs.declared.leaf_lists.Phase.TheVariants.{Fresh, Open, Shut}
use Rattle.list_words.specs.declared.plain_homes.Home.{Home}
use Rattle.list_words.proofs.ChunkLaws.{homed-emptied, homed-more, summed-emptied, summed-more, summed-shut}
use Rattle.list_words.proofs.PlainLaws.{homed-set, ordered-set}
use Rattle.list_words.proofs.SeatLaws.{counted_here, ordered-cleared, ordered-counted_off, ordered-shut}
use Rattle.list_words.proofs.StoreLaws.{SameShape, homed-same, ordered-same, summed-same}
use Rattle.list_book.specs.Books.{BookRow, IsNowhere, IsOrderOfShut, chunk_in, emptied_row, granted_row, granted_rows, row_at, row_chain, row_chunks, row_count, shut_row}
use Rattle.list_book.specs.BookKept.{IsSound, bare_list}
use Rattle.list_book.proofs.OrderLaws.{listed-cleared, listed-open, listed-set, listed-shut}
use Rattle.list_book.proofs.RowLaws.{bare-row, bare-set, begun_low, open_is_not_shut, open_low, put_here, put_other, shut_is_not_fresh}

bare_low : (rows : List BookRow) (l : ℕ) → l < length rows → l < length (map bare_list rows)
bare_low rows l low = let long : length (map bare_list rows) ≡ length rows = length-map rows bare_list in omega arith

-- what is kept after the row of a list was replaced, from its parts
sound_set : (rows : List BookRow) (l : ℕ) (b : BookRow) (homes : List Home) (pool : Numbers) (held : ℕ) (order : List ℕ) (cleared : ℕ) (out : List ℕ) (seats : ℕ) → AreHomed (set (map bare_list rows) l (bare_list b)) homes pool
    → AreSummed (set (map bare_list rows) l (bare_list b)) pool held (length order) → AreOrdered (set (map bare_list rows) l (bare_list b)) order cleared out seats → IsOrderOfShut (set rows l b) order cleared
    → IsSound (set rows l b) pool held order cleared out seats
sound_set rows l b homes pool held order cleared out seats homed summed ordered listed = record {
  homes = homes;
  homed = subst (λ (ls : List PlainList). AreHomed ls homes pool) (sym (bare-set rows l b)) homed;
  summed = subst (λ (ls : List PlainList). AreSummed ls pool held (length order)) (sym (bare-set rows l b)) summed;
  ordered = subst (λ (ls : List PlainList). AreOrdered ls order cleared out seats) (sym (bare-set rows l b)) ordered;
  listed = listed;
}

-- ---- a list with the same chunks and the same phase

pub record SamePlaces (b q : BookRow) : Type 0 where
  pub claimed : b.claimed ≡ q.claimed
  pub owned : b.owned ≡ q.owned
  pub phase : b.phase ≡ q.phase

same_bare : (rows : List BookRow) (l : ℕ) (b : BookRow) → SamePlaces b (row_at rows l) → SameShape (bare_list b) (list_in (map bare_list rows) l)
same_bare rows l b same = subst (λ (q : PlainList). SameShape (bare_list b) q) (sym (bare-row rows l)) (record { chains = chains; as_shut = ap is_shut same.phase; still = λ shut_now. same.phase ∙ shut_now })
  where
    chains : (owned : Bool) → chain owned (bare_list b) ≡ chain owned (bare_list (row_at rows l))
    chains true = same.owned
    chains false = same.claimed

pub sound-same : (rows : List BookRow) (pool : Numbers) (held : ℕ) (order : List ℕ) (cleared : ℕ) (out : List ℕ) (seats l : ℕ) (b : BookRow) → IsSound rows pool held order cleared out seats → l < length rows → SamePlaces b (row_at rows l)
    → IsSound (set rows l b) pool held order cleared out seats
sound-same rows pool held order cleared out seats l b kept low same =
    let lists : List PlainList = map bare_list rows in
    let shape : SameShape (bare_list b) (list_in lists l) = same_bare rows l b same in
    let within : l < length lists = bare_low rows l low in
    sound_set rows l b kept.homes pool held order cleared out seats
    (homed-same lists kept.homes pool l (bare_list b) kept.homed within shape)
    (summed-same lists pool held (length order) l (bare_list b) kept.summed within shape)
    (ordered-same lists order cleared out seats l (bare_list b) kept.ordered within shape)
    (listed-set rows order cleared l b kept.listed low (λ shut_now. sym same.phase ∙ shut_now) (λ shut_now. same.phase ∙ shut_now) (λ shut_now none. (same.claimed ∙ none.0, same.owned ∙ none.1)))

-- a list that was never opened is opened
pub sound-opened : (rows : List BookRow) (pool : Numbers) (held : ℕ) (order : List ℕ) (cleared : ℕ) (out : List ℕ) (seats l : ℕ) (b : BookRow) → IsSound rows pool held order cleared out seats → l < length rows
    → (row_at rows l).phase ≡ Fresh → b.phase ≡ Open → b.claimed ≡ (row_at rows l).claimed → b.owned ≡ (row_at rows l).owned → IsSound (set rows l b) pool held order cleared out seats
sound-opened rows pool held order cleared out seats l b kept low fresh takes claimed owned =
    let lists : List PlainList = map bare_list rows in
    let q : BookRow = row_at rows l in
    let shape : SameShape (bare_list b) (list_in lists l) = subst (λ (p : PlainList). SameShape (bare_list b) p) (sym (bare-row rows l)) (record { chains = chains b q claimed owned; as_shut = ap is_shut takes ∙ sym (ap is_shut fresh); still = λ shut_now. absurd (shut_is_not_fresh q shut_now fresh) }) in
    let within : l < length lists = bare_low rows l low in
    sound_set rows l b kept.homes pool held order cleared out seats
    (homed-same lists kept.homes pool l (bare_list b) kept.homed within shape)
    (summed-same lists pool held (length order) l (bare_list b) kept.summed within shape)
    (ordered-same lists order cleared out seats l (bare_list b) kept.ordered within shape)
    (listed-set rows order cleared l b kept.listed low (λ shut_now. absurd (open_is_not_shut b takes shut_now)) (λ shut_now. absurd (shut_is_not_fresh q shut_now fresh)) (λ shut_now. absurd (shut_is_not_fresh q shut_now fresh)))
  where
    chains : (b q : BookRow) → b.claimed ≡ q.claimed → b.owned ≡ q.owned → (owned : Bool) → chain owned (bare_list b) ≡ chain owned (bare_list q)
    chains b q claimed owned true = owned
    chains b q claimed owned false = claimed

-- ---- a chunk is taken for a chain

count_more : (owned : Bool) (b q : BookRow) (c : ℕ) → row_chain owned b ≡ row_chain owned q ++ c ∷ [] → row_chain (not owned) b ≡ row_chain (not owned) q → row_count b ≡ row_count q + 1
count_more true b q c more rest = let one : length b.owned ≡ length (q.owned ++ c ∷ []) = ap length more in let same : length b.claimed ≡ length q.claimed = ap length rest in omega (arith, length-append q.owned (c ∷ []))
count_more false b q c more rest = let one : length b.claimed ≡ length (q.claimed ++ c ∷ []) = ap length more in let same : length b.owned ≡ length q.owned = ap length rest in omega (arith, length-append q.claimed (c ∷ []))

pub sound-more : (rows : List BookRow) (pool : Numbers) (held : ℕ) (order : List ℕ) (cleared : ℕ) (out : List ℕ) (seats l c : ℕ) (b : BookRow) (owned : Bool) → IsSound rows pool held order cleared out seats
    → IsFree pool c → c < pool.size → (row_at rows l).phase ≡ Open → b.phase ≡ Open
    → row_chain owned b ≡ row_chain owned (row_at rows l) ++ c ∷ [] → row_chain (not owned) b ≡ row_chain (not owned) (row_at rows l) → IsSound (set rows l b) (without pool c) held order cleared out seats
sound-more rows pool held order cleared out seats l c b owned kept free small was takes more rest =
    let lists : List PlainList = map bare_list rows in
    let is : list_in lists l ≡ bare_list (row_at rows l) = bare-row rows l in
    let low : l < length rows = open_low rows l was in
    let within : l < length lists = bare_low rows l low in
    let opened : (list_in lists l).phase ≡ Open = ap (λ (q : PlainList). q.phase) is ∙ was in
    let one : chunk_count (bare_list b) ≡ chunk_count (list_in lists l) + 1 = count_more owned b (row_at rows l) c more rest ∙ ap (λ (q : PlainList). chunk_count q + 1) (sym is) in
    let home : Home = home_of l owned (length (chain owned (list_in lists l))) in
    sound_set rows l b (set kept.homes c home) (without pool c) held order cleared out seats
    (homed-more lists kept.homes pool l c (bare_list b) owned kept.homed within free (omega (arith, kept.homed.size)) (more ∙ ap (λ (q : PlainList). chain owned q ++ c ∷ []) (sym is)) (rest ∙ ap (chain (not owned)) (sym is)))
    (summed-more lists pool held (length order) l c (bare_list b) kept.summed within free one (ap is_shut takes) (ap is_shut opened))
    (ordered-set lists order cleared out seats l (bare_list b) kept.ordered within (λ shut_now. absurd (open_is_not_shut (row_at rows l) was (sym (ap (λ (q : PlainList). q.phase) is) ∙ shut_now))))
    (listed-open rows order cleared l b kept.listed was takes)

-- ---- a list is shut

pub sound-shut : (rows : List BookRow) (pool : Numbers) (held : ℕ) (order : List ℕ) (cleared : ℕ) (out : List ℕ) (seats l : ℕ) (b : BookRow) → IsSound rows pool held order cleared out seats → (row_at rows l).phase ≡ Open
    → b ≡ shut_row (row_at rows l) → IsSound (set rows l b) pool (held + row_count (row_at rows l)) (order ++ l ∷ []) cleared (out ++ 0 ∷ []) seats
sound-shut rows pool held order cleared out seats l b kept was shut_is =
    let lists : List PlainList = map bare_list rows in
    let is : list_in lists l ≡ bare_list (row_at rows l) = bare-row rows l in
    let low : l < length rows = open_low rows l was in
    let within : l < length lists = bare_low rows l low in
    let opened : (list_in lists l).phase ≡ Open = ap (λ (q : PlainList). q.phase) is ∙ was in
    let shut_now : b.phase ≡ Shut = ap (λ (r : BookRow). r.phase) shut_is in
    let count : chunk_count (bare_list b) ≡ chunk_count (list_in lists l) = ap row_count shut_is ∙ ap chunk_count (sym is) in
    let longer : length order + 1 ≡ length (order ++ l ∷ []) = omega (arith, length-append order (l ∷ [])) in
    sound_set rows l b kept.homes pool (held + row_count (row_at rows l)) (order ++ l ∷ []) cleared (out ++ 0 ∷ []) seats
    (homed-set lists kept.homes pool l (bare_list b) kept.homed within (λ owned. ap (row_chain owned) shut_is ∙ ap (chain owned) (sym is)))
    (subst (λ n. AreSummed (set lists l (bare_list b)) pool (held + row_count (row_at rows l)) n) longer
    (subst (λ n. AreSummed (set lists l (bare_list b)) pool (held + n) (length order + 1)) (ap chunk_count is)
    (summed-shut lists pool held (length order) l (bare_list b) kept.summed within count (ap is_shut shut_now) (ap is_shut opened))))
    (ordered-shut lists order cleared out seats l (bare_list b) kept.ordered within shut_now)
    (listed-shut rows order cleared l b kept.listed kept.ordered.begun was shut_now)

-- ---- the next list of the order is cleared

-- it is one of the lists, and was shut
pub next_low : (rows : List BookRow) (order : List ℕ) (cleared l : ℕ) → IsOrderOfShut rows order cleared → slice_get order cleared ≡ Some l → l < length rows
next_low rows order cleared l listed next = begun_low rows l (shut_is_not_fresh (row_at rows l) (listed.shut cleared l next))

pub sound-cleared : (rows : List BookRow) (pool after : Numbers) (held : ℕ) (order : List ℕ) (cleared : ℕ) (out : List ℕ) (seats l : ℕ) → IsSound rows pool held order cleared out seats → slice_get order cleared ≡ Some l
    → Unreached out cleared → after.size ≡ pool.size → set_of.len after.free ≡ set_of.len pool.free + row_count (row_at rows l)
    → ((q : ℕ) → IsFree after q → IsFree pool q ⊎ ((w : Bool) × (i : ℕ) × (chunk_in rows w l i ≡ Some q))) → ((q : ℕ) → IsFree after q ⊎ ((IsFree pool q → ⊥) × (Contains (row_chunks (row_at rows l)) q → ⊥)))
    → IsSound (set rows l (emptied_row (row_at rows l))) after (held - row_count (row_at rows l)) order (cleared + 1) out seats
sound-cleared rows pool after held order cleared out seats l kept next nobody size more given lost =
    let lists : List PlainList = map bare_list rows in
    let is : list_in lists l ≡ bare_list (row_at rows l) = bare-row rows l in
    let b : BookRow = emptied_row (row_at rows l) in
    let low : l < length rows = next_low rows order cleared l kept.listed next in
    let within : l < length lists = bare_low rows l low in
    let some : cleared < length order = slice_get_within order cleared l next in
    let was : (row_at rows l).phase ≡ Shut = kept.listed.shut cleared l next in
    let shut_there : (list_in lists l).phase ≡ Shut = ap (λ (q : PlainList). q.phase) is ∙ was in
    let emptied : emptied_list (list_in lists l) ≡ bare_list b = ap emptied_list is in
    let count : chunk_count (list_in lists l) ≡ row_count (row_at rows l) = ap chunk_count is in
    let back : (q : ℕ) → IsFree after q → IsFree pool q ⊎ ((w : Bool) × (i : ℕ) × (chunk_at lists w l i ≡ Some q)) = λ q free. elim (given q free) [
      | inl before ↦ inl before
      | inr place ↦ inr (place.0, place.1, ap (λ (p : PlainList). slice_get (chain place.0 p) place.1) is ∙ place.2)
    ] in
    let gone : (q : ℕ) → IsFree after q ⊎ ((IsFree pool q → ⊥) × (Contains (all_chunks (list_in lists l)) q → ⊥)) = λ q.
    subst (λ (p : PlainList). IsFree after q ⊎ ((IsFree pool q → ⊥) × (Contains (all_chunks p) q → ⊥))) (sym is) (lost q) in
    sound_set rows l b kept.homes after (held - row_count (row_at rows l)) order (cleared + 1) out seats
    (subst (λ (p : PlainList). AreHomed (set lists l p) kept.homes after) emptied
    (homed-emptied lists kept.homes pool after l kept.homed within size back gone))
    (subst (λ n. AreSummed (set lists l (bare_list b)) after (held - n) (length order)) count
    (subst (λ (p : PlainList). AreSummed (set lists l p) after (held - chunk_count (list_in lists l)) (length order)) emptied
    (summed-emptied lists pool after held (length order) l kept.summed within (ap is_shut shut_there) size (more ∙ ap (λ n. set_of.len pool.free + n) (sym count)))))
    (ordered-cleared (set lists l (bare_list b)) order cleared out seats (ordered-set lists order cleared out seats l (bare_list b) kept.ordered within (λ shut_now. was)) some nobody)
    (listed-cleared rows order cleared l b kept.listed low next was (refl, refl))

-- ---- seats

pub sound-seat : (rows : List BookRow) (pool : Numbers) (held : ℕ) (order : List ℕ) (cleared : ℕ) (out : List ℕ) (seats b v : ℕ) → IsSound rows pool held order cleared out seats → b ≡ length order → v ≡ get_or out b 0
    → IsSound rows pool held order cleared (set out b (v + 1)) (seats + 1)
sound-seat rows pool held order cleared out seats b v kept place value = record {
  homes = kept.homes;
  homed = kept.homed;
  summed = kept.summed;
  ordered = counted_here (map bare_list rows) order cleared out seats b v kept.ordered place value;
  listed = kept.listed;
}

pub sound-seat_off : (rows : List BookRow) (pool : Numbers) (held : ℕ) (order : List ℕ) (cleared : ℕ) (out : List ℕ) (seats b n : ℕ) → IsSound rows pool held order cleared out seats → n ≡ sum (counted_off out b)
    → IsSound rows pool held order cleared (counted_off out b) n
sound-seat_off rows pool held order cleared out seats b n kept is = record {
  homes = kept.homes;
  homed = kept.homed;
  summed = kept.summed;
  ordered = ordered-counted_off (map bare_list rows) order cleared out seats b n kept.ordered is;
  listed = kept.listed;
}

-- ---- grants

pub sound-grants : (gs : List Grant) (rows : List BookRow) (pool : Numbers) (held : ℕ) (order : List ℕ) (cleared : ℕ) (out : List ℕ) (seats : ℕ) → IsSound rows pool held order cleared out seats
    → IsSound (granted_rows gs rows) pool held order cleared out seats
sound-grants [] rows pool held order cleared out seats kept = kept
sound-grants (g ∷ gs) rows pool held order cleared out seats kept = sound-grants gs (set rows g.list (granted_row (row_at rows g.list) g.n)) pool held order cleared out seats (elim (cases_lt g.list (length rows)) [
  | inl low ↦ sound-same rows pool held order cleared out seats g.list (granted_row (row_at rows g.list) g.n) kept low (record { claimed = refl; owned = refl; phase = refl })
  | inr high ↦ subst (λ (rs : List BookRow). IsSound rs pool held order cleared out seats) (sym (set_past rows g.list (granted_row (row_at rows g.list) g.n) high)) kept
])
