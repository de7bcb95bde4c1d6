-- The bits and the words of pages.
use Rattle.std.proofs.Common.{◌≡◌, ℕ, suc, ◌+◌, ◌*◌, ◌/◌, ◌%◌, ◌^◌, ◌<◌, ◌≤◌, ◌≢◌, ◌⊎◌, inl, inr, Bool, true, false, ◌||◌, ◌&&◌, not, List, [], ◌∷◌, ◌++◌, map, take, length, get_or, set, ap, refl, sym, arith, ◌∙◌, nat_eq, cond, append_assoc}
use Rattle.std.specs.List.{filter}
use Rattle.std.specs.Int.{w64}
use Rattle.std.proofs.lemmas.Bool.{cases_lt, cases_eq, lt-ltb, eq-eqb, ne_eqb}
use Rattle.std.proofs.lemmas.List.{length-set, get_or-set_same, get_or-set_other, get_or_past, map-set, length-map, get_or-map, set-get_or, get_or_read, map_more}
use Rattle.std.proofs.lemmas.List.Elements.{filter-append}
use Rattle.std.proofs.lemmas.List.Sums.{length-filter, count_by-le-length}
use Rattle.std.specs.Int.{from_bool}
use Rattle.std.proofs.lemmas.Nat.Bits.{bit_at_set_same, bit_at_set_other, bit_at-zero}
use Rattle.octree_model.specs.Numbers.{up_to, has, with_number, ascending}
use Rattle.octree_model.proofs.AscendingLaws.{with_number_before, with_number_behind}
use Rattle.octree_model.proofs.NumberLaws.{length-up_to}
use Rattle.octree_model.proofs.FilterLaws.{filter_same, filter_none, filter_with, has-filter}
use Rattle.octree_plain.specs.CellSets.{is_marked as is_set_in, marked_cells as cells_in}
use Rattle.octree_plain.proofs.Words.{is_set, with_bit, up_to-add, filter-map}
use Rattle.occupancy_grid.proofs.NumberSets.{ascending_passing, or_more, has_left, has_first, has-append}
use Rattle.occupancy_grid.specs.Grids.{GridValue, AddsSomePages}
use Rattle.octree_model.proofs.AscendingLaws.{ascending_push, has-ascending}
use Rattle.occupancy_grid.specs.Pages.{page_of, words_of, is_made, is_marked, marked_cells, made_pages, IsPaged, HasNoPages, IsFullOfZeros, IsMadeOf}

-- ---- one page written
words_of-set_same : (pages : List (List ℕ)) (p : ℕ) (words : List ℕ) → p < length pages → words_of (set pages p words) p ≡ words
words_of-set_same pages p words l = get_or-set_same pages p words [] l

words_of-set_other : (pages : List (List ℕ)) (p q : ℕ) (words : List ℕ) → q ≢ p → words_of (set pages p words) q ≡ words_of pages q
words_of-set_other pages p q words other = get_or-set_other pages p q words [] other

-- the cells of other pages stay
marked_elsewhere : (pages : List (List ℕ)) (p : ℕ) (words : List ℕ) (i : ℕ) → page_of i ≢ p → is_marked (set pages p words) i ≡ is_marked pages i
marked_elsewhere pages p words i other = ap (λ ws. is_set (get_or ws (i / 64 % 512) 0) (i % 64)) (words_of-set_other pages p (page_of i) words other)

-- ---- a cell put in
same_cell : (i z : ℕ) → i / 32768 ≡ z / 32768 → i / 64 % 512 ≡ z / 64 % 512 → i % 64 ≡ z % 64 → i ≡ z
same_cell i z page word bit = omega arith

-- the words of a page with the bit of a cell
abbrev pub with_cell : List ℕ → ℕ → List ℕ
with_cell words z = set words (z / 64 % 512) (with_bit (get_or words (z / 64 % 512) 0) (z % 64))

in_page : (words : List ℕ) (z i : ℕ) → z / 64 % 512 < length words → i / 32768 ≡ z / 32768
    → is_set (get_or (with_cell words z) (i / 64 % 512) 0) (i % 64) ≡ (nat_eq i z || is_set (get_or words (i / 64 % 512) 0) (i % 64))
in_page words z i l page =
    let k : ℕ = z / 64 % 512 in
    let w : ℕ = with_bit (get_or words k 0) (z % 64) in
    let within : z % 64 < 64 = omega arith in
    elim (cases_eq (i / 64 % 512) k) [
      | inl word ↦ ap (λ q. is_set (get_or (set words k w) q 0) (i % 64)) word ∙ ap (λ v. is_set v (i % 64)) (get_or-set_same words k w 0 l)
          ∙ elim (cases_eq (i % 64) (z % 64)) [
            | inl bit ↦
                ap (λ b. is_set w b) bit ∙ ap (λ n. nat_eq n 1) (bit_at_set_same w64 (get_or words k 0) (z % 64) within)
                ∙ sym (ap (λ b. b || is_set (get_or words (i / 64 % 512) 0) (i % 64)) (eq-eqb _ _ (same_cell i z page word bit)))
            | inr other ↦
                ap (λ n. nat_eq n 1) (bit_at_set_other w64 (get_or words k 0) (z % 64) within (i % 64) other)
                ∙ ap (λ q. is_set (get_or words q 0) (i % 64)) (sym word)
                ∙ sym (ap (λ b. b || is_set (get_or words (i / 64 % 512) 0) (i % 64)) (ne_eqb i z (λ e. other (ap (λ n. n % 64) e))))
          ]
      | inr other ↦
          ap (λ v. is_set v (i % 64)) (get_or-set_other words k (i / 64 % 512) w 0 other)
          ∙ sym (ap (λ b. b || is_set (get_or words (i / 64 % 512) 0) (i % 64)) (ne_eqb i z (λ e. other (ap (λ n. n / 64 % 512) e))))
    ]

-- a cell of a page that is made, and the pages with its bit
pub record PutsCell (pages pages' : List (List ℕ)) (z : ℕ) : Type 0 where
  pub page : page_of z < length pages
  pub word : z / 64 % 512 < length (words_of pages (page_of z))
  pub written : pages' ≡ set pages (page_of z) (with_cell (words_of pages (page_of z)) z)

is_marked-with_cell : (pages pages' : List (List ℕ)) (z i : ℕ) → PutsCell pages pages' z → is_marked pages' i ≡ (nat_eq i z || is_marked pages i)
is_marked-with_cell pages pages' z i puts =
    let words : List ℕ = words_of pages (page_of z) in
    ap (λ ps. is_marked ps i) puts.written ∙ elim (cases_eq (page_of i) (page_of z)) [
      | inl same ↦
          ap (λ p. is_set (get_or (words_of (set pages (page_of z) (with_cell words z)) p) (i / 64 % 512) 0) (i % 64)) same
          ∙ ap (λ ws. is_set (get_or ws (i / 64 % 512) 0) (i % 64)) (words_of-set_same pages (page_of z) (with_cell words z) puts.page)
          ∙ in_page words z i puts.word same
          ∙ ap (λ p. nat_eq i z || is_set (get_or (words_of pages p) (i / 64 % 512) 0) (i % 64)) (sym same)
      | inr other ↦
          marked_elsewhere pages (page_of z) (with_cell words z) i other
          ∙ sym (ap (λ b. b || is_marked pages i) (ne_eqb i z (λ e. other (ap page_of e))))
    ]

same_length : (pages pages' : List (List ℕ)) (z : ℕ) → PutsCell pages pages' z → length pages' ≡ length pages
same_length pages pages' z puts = ap length puts.written ∙ length-set pages (page_of z) (with_cell (words_of pages (page_of z)) z)

same_words : (pages pages' : List (List ℕ)) (z p : ℕ) → PutsCell pages pages' z → length (words_of pages' p) ≡ length (words_of pages p)
same_words pages pages' z p puts =
    let words : List ℕ = words_of pages (page_of z) in
    ap (λ ps. length (words_of ps p)) puts.written ∙ elim (cases_eq p (page_of z)) [
      | inl same ↦
          ap (λ q. length (words_of (set pages (page_of z) (with_cell words z)) q)) same
          ∙ ap length (words_of-set_same pages (page_of z) (with_cell words z) puts.page)
          ∙ length-set words (z / 64 % 512) _
          ∙ ap (λ q. length (words_of pages q)) (sym same)
      | inr other ↦ ap length (words_of-set_other pages (page_of z) p (with_cell words z) other)
    ]

pub marked_cells-with_cell : (pages pages' : List (List ℕ)) (z : ℕ) → PutsCell pages pages' z → z < 32768 * length pages → marked_cells pages' ≡ with_number z (marked_cells pages)
unfolding marked_cells
marked_cells-with_cell pages pages' z puts l =
    ap (λ n. filter (is_marked pages') (up_to (32768 * n))) (same_length pages pages' z puts)
    ∙ filter_with (is_marked pages) (is_marked pages') z (32768 * length pages) l (λ i k. is_marked-with_cell pages pages' z i puts)

pub made_pages-with_cell : (pages pages' : List (List ℕ)) (z : ℕ) → PutsCell pages pages' z → made_pages pages' ≡ made_pages pages
unfolding made_pages
made_pages-with_cell pages pages' z puts =
    ap (λ n. filter (is_made pages') (up_to n)) (same_length pages pages' z puts)
    ∙ filter_same (is_made pages) (is_made pages') (length pages) (λ p l. ap (λ n. not (nat_eq n 0)) (same_words pages pages' z p puts))

-- ---- which cells and pages there are
pub has-marked_cells : (pages : List (List ℕ)) (z : ℕ) → z < 32768 * length pages → has z (marked_cells pages) ≡ is_marked pages z
unfolding marked_cells
has-marked_cells pages z l = has-filter z (is_marked pages) (32768 * length pages) ∙ ap (λ b. b && is_marked pages z) (lt-ltb _ _ l)

pub has-made_pages : (pages : List (List ℕ)) (p : ℕ) → p < length pages → has p (made_pages pages) ≡ is_made pages p
unfolding made_pages
has-made_pages pages p l = has-filter p (is_made pages) (length pages) ∙ ap (λ b. b && is_made pages p) (lt-ltb _ _ l)

-- the page of a cell that may be put in has all its words
pub all_words : (pages : List (List ℕ)) (count z : ℕ) → IsPaged pages count → z < 2 ^ 21 → has (page_of z) (made_pages pages) ≡ true → length (words_of pages (page_of z)) ≡ 512
all_words pages count z paged l made = paged.whole (page_of z) (sym (has-made_pages pages (page_of z) (omega (arith, paged.many))) ∙ made)

pub few_cells : (pages : List (List ℕ)) → length (marked_cells pages) ≤ 32768 * length pages
unfolding marked_cells
few_cells pages = omega (arith, length-filter (is_marked pages) (up_to (32768 * length pages)), count_by-le-length (is_marked pages) (up_to (32768 * length pages)), length-up_to (32768 * length pages))

-- ---- the number of cells
new_number : (n : ℕ) (ks : List ℕ) → has n ks ≡ false → length (with_number n ks) ≡ length ks + 1
new_number n [] h = refl
new_number n (k ∷ ks) h =
    elim (cases_lt n k) [
      | inl before ↦ ap length (with_number_before n k ks before) ∙ omega arith
      | inr not_before ↦ elim (cases_eq n k) [
        | inl same ↦ let e : true ≡ false = sym (ap (λ b. b || has n ks) (eq-eqb _ _ same)) ∙ h in cc
        | inr other ↦ let rest : has n ks ≡ false = sym (ap (λ b. b || has n ks) (ne_eqb _ _ other)) ∙ h in
            ap length (with_number_behind n k ks (omega arith)) ∙ ap suc (new_number n ks rest) ∙ omega arith
      ]
    ]

-- a cell that is in the set already changes nothing
known_cell : (pages pages' : List (List ℕ)) (z : ℕ) → PutsCell pages pages' z → is_marked pages z ≡ true → marked_cells pages' ≡ marked_cells pages
unfolding marked_cells
known_cell pages pages' z puts known =
    ap (λ n. filter (is_marked pages') (up_to (32768 * n))) (same_length pages pages' z puts)
    ∙ filter_same (is_marked pages) (is_marked pages') (32768 * length pages) (λ i l. is_marked-with_cell pages pages' z i puts ∙ elim (cases_eq i z) [
      | inl same ↦ ap (λ b. b || is_marked pages i) (eq-eqb _ _ same) ∙ sym (ap (is_marked pages) same ∙ known)
      | inr other ↦ ap (λ b. b || is_marked pages i) (ne_eqb _ _ other)
    ])

pub one_more : (pages pages' : List (List ℕ)) (z : ℕ) (new : Bool) → PutsCell pages pages' z → z < 32768 * length pages → new ≡ not (is_marked pages z)
    → length (marked_cells pages) + cond new 1 0 ≡ length (marked_cells pages')
one_more pages pages' z new puts l is = elim (is_marked pages z) as (λ b. is_marked pages z ≡ b → new ≡ not b → length (marked_cells pages) + cond new 1 0 ≡ length (marked_cells pages')) [
  | true ↦ λ known old. ap (λ b. length (marked_cells pages) + cond b 1 0) old ∙ omega (arith, ap length (known_cell pages pages' z puts known))
  | false ↦ λ unknown fresh. ap (λ b. length (marked_cells pages) + cond b 1 0) fresh
      ∙ sym (ap length (marked_cells-with_cell pages pages' z puts l) ∙ new_number z (marked_cells pages) (has-marked_cells pages z l ∙ unknown))
] refl is

pub puts_paged : (pages pages' : List (List ℕ)) (count count' z : ℕ) (new : Bool) → IsPaged pages count → PutsCell pages pages' z → z < 2 ^ 21 → new ≡ not (is_marked pages z) → count' ≡ count + cond new 1 0 → IsPaged pages' count'
puts_paged pages pages' count count' z new paged puts l is more = record {
  many = same_length pages pages' z puts ∙ paged.many;
  whole = λ p made. same_words pages pages' z p puts ∙ paged.whole p (sym (ap (λ n. not (nat_eq n 0)) (same_words pages pages' z p puts)) ∙ made);
  counted = more ∙ ap (λ n. n + cond new 1 0) paged.counted ∙ one_more pages pages' z new puts (omega (arith, paged.many)) is;
}

-- ---- a page made
-- a page that had no words gets those without a cell
pub record MakesPage (pages pages' : List (List ℕ)) (p : ℕ) : Type 0 where
  pub words : List ℕ
  pub within : p < length pages
  pub unmade : words_of pages p ≡ []
  pub zeros : IsFullOfZeros words
  pub written : pages' ≡ set pages p words

made_length : (pages pages' : List (List ℕ)) (p : ℕ) → MakesPage pages pages' p → length pages' ≡ length pages
made_length pages pages' p makes = ap length makes.written ∙ length-set pages p makes.words

no_bit : (words : List ℕ) (k b : ℕ) → IsFullOfZeros words → is_set (get_or words k 0) b ≡ false
no_bit words k b zeros = ap (λ w. is_set w b) (zero_at words k zeros) ∙ ap (λ n. nat_eq n 1) (bit_at-zero b)
  where
    zero_at : (words : List ℕ) (k : ℕ) → IsFullOfZeros words → get_or words k 0 ≡ 0
    zero_at words k zeros = elim (cases_lt k (length words)) [ inl l ↦ zeros.zeros k l | inr l ↦ get_or_past words k 0 l ]

is_marked-made : (pages pages' : List (List ℕ)) (p i : ℕ) → MakesPage pages pages' p → is_marked pages' i ≡ is_marked pages i
is_marked-made pages pages' p i makes = ap (λ ps. is_marked ps i) makes.written ∙ elim (cases_eq (page_of i) p) [
  | inl same ↦
      ap (λ q. is_set (get_or (words_of (set pages p makes.words) q) (i / 64 % 512) 0) (i % 64)) same
      ∙ ap (λ ws. is_set (get_or ws (i / 64 % 512) 0) (i % 64)) (words_of-set_same pages p makes.words makes.within)
      ∙ no_bit makes.words (i / 64 % 512) (i % 64) makes.zeros
      ∙ sym (ap (λ q. is_set (get_or (words_of pages q) (i / 64 % 512) 0) (i % 64)) same
      ∙ ap (λ (ws : List ℕ). is_set (get_or ws (i / 64 % 512) 0) (i % 64)) makes.unmade ∙ ap (λ n. nat_eq n 1) (bit_at-zero (i % 64)))
  | inr other ↦ marked_elsewhere pages p makes.words i other
]

is_made-made : (pages pages' : List (List ℕ)) (p i : ℕ) → MakesPage pages pages' p → is_made pages' i ≡ (nat_eq i p || is_made pages i)
is_made-made pages pages' p i makes = ap (λ ps. is_made ps i) makes.written ∙ elim (cases_eq i p) [
  | inl same ↦
      ap (λ q. not (nat_eq (length (words_of (set pages p makes.words) q)) 0)) same
      ∙ ap (λ ws. not (nat_eq (length ws) 0)) (words_of-set_same pages p makes.words makes.within)
      ∙ ap not (ne_eqb _ _ (λ e. absurd (omega (arith, makes.zeros.long))))
      ∙ sym (ap (λ b. b || is_made pages i) (eq-eqb _ _ same))
  | inr other ↦ ap (λ ws. not (nat_eq (length ws) 0)) (words_of-set_other pages p i makes.words other) ∙ sym (ap (λ b. b || is_made pages i) (ne_eqb _ _ other))
]

pub marked_cells-made : (pages pages' : List (List ℕ)) (p : ℕ) → MakesPage pages pages' p → marked_cells pages' ≡ marked_cells pages
unfolding marked_cells
marked_cells-made pages pages' p makes =
    ap (λ n. filter (is_marked pages') (up_to (32768 * n))) (made_length pages pages' p makes)
    ∙ filter_same (is_marked pages) (is_marked pages') (32768 * length pages) (λ i l. is_marked-made pages pages' p i makes)

pub made_pages-made : (pages pages' : List (List ℕ)) (p : ℕ) → MakesPage pages pages' p → made_pages pages' ≡ with_number p (made_pages pages)
unfolding made_pages
made_pages-made pages pages' p makes =
    ap (λ n. filter (is_made pages') (up_to n)) (made_length pages pages' p makes)
    ∙ filter_with (is_made pages) (is_made pages') p (length pages) makes.within (λ i l. is_made-made pages pages' p i makes)

pub made_paged : (pages pages' : List (List ℕ)) (count p : ℕ) → IsPaged pages count → MakesPage pages pages' p → IsPaged pages' count
made_paged pages pages' count p paged makes = record {
  many = made_length pages pages' p makes ∙ paged.many;
  whole = λ q made. elim (cases_eq q p) [
    | inl same ↦ ap (λ ps. length (words_of ps q)) makes.written ∙ ap (λ i. length (words_of (set pages p makes.words) i)) same ∙ ap length (words_of-set_same pages p makes.words makes.within) ∙ makes.zeros.long
    | inr other ↦
        let old : words_of pages' q ≡ words_of pages q = ap (λ ps. words_of ps q) makes.written ∙ words_of-set_other pages p q makes.words other in
        ap length old ∙ paged.whole q (ap (λ ws. not (nat_eq (length ws) 0)) (sym old) ∙ made)
  ];
  counted = paged.counted ∙ ap length (sym (marked_cells-made pages pages' p makes));
}

-- a page that is made already
pub made_already : (pages : List (List ℕ)) (p : ℕ) → p < length pages → is_made pages p ≡ true → made_pages pages ≡ with_number p (made_pages pages)
unfolding made_pages
made_already pages p l made = filter_with (is_made pages) (is_made pages) p (length pages) l (λ i k. elim (cases_eq i p) [
  | inl same ↦ ap (is_made pages) same ∙ made ∙ sym (ap (λ b. b || is_made pages i) (eq-eqb _ _ same))
  | inr other ↦ sym (ap (λ b. b || is_made pages i) (ne_eqb _ _ other))
])

-- ---- no pages
pub no_cells : (pages : List (List ℕ)) → HasNoPages pages → marked_cells pages ≡ []
unfolding marked_cells
no_cells pages none = filter_none (is_marked pages) (32768 * length pages) (λ i l.
    ap (λ (ws : List ℕ). is_set (get_or ws (i / 64 % 512) 0) (i % 64)) (none.unmade (page_of i)) ∙ ap (λ n. nat_eq n 1) (bit_at-zero (i % 64)))

pub none_made : (pages : List (List ℕ)) → HasNoPages pages → made_pages pages ≡ []
unfolding made_pages
none_made pages none = filter_none (is_made pages) (length pages) (λ p l. ap (λ (ws : List ℕ). not (nat_eq (length ws) 0)) (none.unmade p))

pub unmade_paged : (pages : List (List ℕ)) → HasNoPages pages → IsPaged pages 0
unmade_paged pages none = record {
  many = none.many;
  whole = λ p made. let e : false ≡ true = sym (ap (λ (ws : List ℕ). not (nat_eq (length ws) 0)) (none.unmade p)) ∙ made in cc;
  counted = sym (ap length (no_cells pages none));
}

-- ---- pages as vectors
pub words_read : {V : Type 0} (items : V → List ℕ) (pages : List V) (p : ℕ) (page : V) → page ≡ get_or pages p page → p < length pages → items page ≡ words_of (map items pages) p
words_read items pages p page is l = ap items is ∙ sym (get_or-map items pages p page [] l)

pub puts_cell : {V : Type 0} (items : V → List ℕ) (pages : List V) (z word : ℕ) (page page' : V) → page ≡ get_or pages (page_of z) page → page_of z < length pages
    → z / 64 % 512 < length (items page) → word ≡ get_or (items page) (z / 64 % 512) word → items page' ≡ set (items page) (z / 64 % 512) (with_bit word (z % 64))
    → PutsCell (map items pages) (map items (set pages (page_of z) page')) z
puts_cell items pages z word page page' is here within read written =
    let words : items page ≡ words_of (map items pages) (page_of z) = words_read items pages (page_of z) page is here in
    let bits : word ≡ get_or (items page) (z / 64 % 512) 0 = get_or_read (items page) (z / 64 % 512) word within read 0 in
    record {
      page = omega (arith, length-map pages items);
      word = omega (arith, ap length words);
      written = map-set items pages (page_of z) page' ∙ ap (set (map items pages) (page_of z))
          (written ∙ ap (λ w. set (items page) (z / 64 % 512) (with_bit w (z % 64))) bits ∙ ap (λ ws. with_cell ws z) words);
    }

pub one_or_none : (b : Bool) → from_bool b ≡ cond b 1 0
one_or_none true = refl
one_or_none false = refl

pub from_bool-lt : (b : Bool) → from_bool b < 2
from_bool-lt true = omega arith
from_bool-lt false = omega arith

-- a page is made where it was not
pub record MadeMore (pages pages' : List (List ℕ)) (count p : ℕ) : Type 0 where
  pub paged : IsPaged pages' count
  pub cells : marked_cells pages' ≡ marked_cells pages
  pub made : made_pages pages' ≡ with_number p (made_pages pages)

pub same_page : {V : Type 0} (items : V → List ℕ) (pages : List V) (p : ℕ) (page page' : V) → page ≡ get_or pages p page → p < length pages → items page' ≡ items page
    → map items (set pages p page') ≡ map items pages
same_page items pages p page page' is l same =
    map-set items pages p page' ∙ ap (set (map items pages) p) (same ∙ words_read items pages p page is l) ∙ set-get_or (map items pages) p []

pub page_made : {V : Type 0} (items : V → List ℕ) (pages : List V) (count p : ℕ) (page page' : V) → page ≡ get_or pages p page → p < length pages → IsMadeOf (items page) (items page')
    → IsPaged (map items pages) count → MadeMore (map items pages) (map items (set pages p page')) count p
page_made items pages count p page page' is l makes paged =
    let words : items page ≡ words_of (map items pages) p = words_read items pages p page is l in
    let within : p < length (map items pages) = omega (arith, length-map pages items) in
    elim (cases_lt 0 (length (items page))) [
      | inl some ↦
          let same : map items (set pages p page') ≡ map items pages = same_page items pages p page page' is l (makes.kept some) in
          let made : is_made (map items pages) p ≡ true = ap (λ ws. not (nat_eq (length ws) 0)) (sym words) ∙ ap not (ne_eqb _ _ (λ e. absurd (omega arith))) in
          rw same record { paged = paged; cells = refl; made = made_already (map items pages) p within made }
      | inr none ↦
          let empty : length (items page) ≡ 0 = omega arith in
          let makes' : MakesPage (map items pages) (map items (set pages p page')) p = record {
            words = items page';
            within = within;
            unmade = sym words ∙ nothing (items page) empty;
            zeros = makes.filled empty;
            written = map-set items pages p page';
          } in
          record {
            paged = made_paged (map items pages) (map items (set pages p page')) count p paged makes';
            cells = marked_cells-made (map items pages) (map items (set pages p page')) p makes';
            made = made_pages-made (map items pages) (map items (set pages p page')) p makes';
          }
    ]
  where
    nothing : (ws : List ℕ) → length ws ≡ 0 → ws ≡ []
    nothing [] e = refl
    nothing (w ∷ ws) e = absurd (omega arith)

-- ---- pages of more and more cells
pub made_canonical : (pages : List (List ℕ)) → ascending (made_pages pages) ≡ made_pages pages
unfolding made_pages
made_canonical pages = ascending_passing (is_made pages) (length pages)

pub pages_more : (old : List ℕ) (cells : List ℕ) (i : ℕ) → i < length cells
    → with_number (page_of (get_or cells i 0)) (ascending (old ++ map page_of (take i cells))) ≡ ascending (old ++ map page_of (take (i + 1) cells))
pages_more old cells i l =
    sym (ascending_push (old ++ map page_of (take i cells)) (page_of (get_or cells i 0)))
    ∙ ap ascending (append_assoc old (map page_of (take i cells)) (page_of (get_or cells i 0) ∷ []) ∙ ap (λ (ks : List ℕ). old ++ ks) (sym (map_more page_of cells i 0 l)))

pub some_pages : (old new : GridValue) (cells : List ℕ) (i : ℕ) → new.cells ≡ old.cells → new.pages ≡ ascending (old.pages ++ map page_of (take i cells)) → AddsSomePages old new cells
some_pages old new cells i same pages = record {
  same = same;
  kept = λ p h. ap (has p) pages ∙ has-ascending p (old.pages ++ map page_of (take i cells)) ∙ has_left p old.pages (map page_of (take i cells)) h;
  few = λ p h.
      let h' : has p (old.pages ++ map page_of (take i cells)) ≡ true = sym (ap (has p) pages ∙ has-ascending p (old.pages ++ map page_of (take i cells))) ∙ h in
      has-append p old.pages (map page_of cells) ∙ or_more (has p old.pages) (has p (map page_of (take i cells))) (has p (map page_of cells)) (has_first page_of p i cells) (sym (has-append p old.pages (map page_of (take i cells))) ∙ h');
}

-- ---- the cells of a page
unset : (words : List ℕ) (i : ℕ) → length words ≡ 0 → is_set_in words i ≡ false
unset words i none = ap (λ w. is_set w (i % 64)) (get_or_past words (i / 64) 0 (omega arith)) ∙ ap (λ n. nat_eq n 1) (bit_at-zero (i % 64))

-- a page of no words or of all
whole_page : (words : List ℕ) (n : ℕ) → (length words ≡ 0) ⊎ (64 * length words ≡ n) → filter (is_set_in words) (up_to n) ≡ cells_in words
unfolding cells_in
whole_page words n (inl none) = filter_none (is_set_in words) n (λ i l. unset words i none) ∙ sym (filter_none (is_set_in words) (64 * length words) (λ i l. unset words i none))
whole_page words n (inr all) = ap (λ k. filter (is_set_in words) (up_to k)) (sym all)

-- the cells of the first pages
abbrev pub cells_of_pages : List (List ℕ) → ℕ → List ℕ
cells_of_pages pages p = filter (is_marked pages) (up_to (32768 * p))

next_page_of : (pages : List (List ℕ)) (p n : ℕ) → n ≡ 32768 → (length (words_of pages p) ≡ 0) ⊎ (64 * length (words_of pages p) ≡ n)
    → filter (is_marked pages) (up_to (32768 * p + n)) ≡ cells_of_pages pages p ++ map (λ z. 32768 * p + z) (cells_in (words_of pages p))
next_page_of pages p n long whole =
    ap (filter (is_marked pages)) (up_to-add (32768 * p) n)
    ∙ filter-append (is_marked pages) (up_to (32768 * p)) (map (λ i. 32768 * p + i) (up_to n))
    ∙ ap (λ (ks : List ℕ). cells_of_pages pages p ++ ks)
    (filter-map (is_marked pages) (λ i. 32768 * p + i) (up_to n)
    ∙ ap (map (λ z. 32768 * p + z)) (filter_same (is_set_in (words_of pages p)) (λ i. is_marked pages (32768 * p + i)) n (λ i l.
    let page : (32768 * p + i) / 32768 ≡ p = omega arith in
    let word : (32768 * p + i) / 64 % 512 ≡ i / 64 = omega arith in
    let bit : (32768 * p + i) % 64 ≡ i % 64 = omega arith in
    ap (λ q. is_set (get_or (words_of pages q) ((32768 * p + i) / 64 % 512) 0) ((32768 * p + i) % 64)) page
    ∙ ap (λ k. is_set (get_or (words_of pages p) k 0) ((32768 * p + i) % 64)) word
    ∙ ap (λ b. is_set (get_or (words_of pages p) (i / 64) 0) b) bit)
    ∙ whole_page (words_of pages p) n whole))

none_or_all : (pages : List (List ℕ)) (count p : ℕ) → IsPaged pages count → (length (words_of pages p) ≡ 0) ⊎ (length (words_of pages p) ≡ 512)
none_or_all pages count p paged = elim (cases_eq (length (words_of pages p)) 0) [
  | inl none ↦ inl none
  | inr some ↦ inr (paged.whole p (ap not (ne_eqb _ _ some)))
]

pub at_most_a_page : (pages : List (List ℕ)) (count p : ℕ) → IsPaged pages count → length (words_of pages p) ≤ 512
at_most_a_page pages count p paged = elim (none_or_all pages count p paged) [ inl none ↦ omega arith | inr all ↦ omega arith ]

-- one page more
pub next_page : (pages : List (List ℕ)) (count p : ℕ) (words cells cells' : List ℕ) → IsPaged pages count → words ≡ words_of pages p → cells ≡ cells_of_pages pages p
    → cells' ≡ cells ++ map (λ z. 32768 * p + z) (cells_in words) → cells' ≡ cells_of_pages pages (p + 1)
next_page pages count p words cells cells' paged is before pushed =
    let e : 32768 * (p + 1) ≡ 32768 * p + 32768 = omega arith in
    pushed ∙ ap (λ (ks : List ℕ). ks ++ map (λ z. 32768 * p + z) (cells_in words)) before
    ∙ ap (λ ws. cells_of_pages pages p ++ map (λ z. 32768 * p + z) (cells_in ws)) is
    ∙ sym (ap (λ n. filter (is_marked pages) (up_to n)) e ∙ next_page_of pages p 32768 refl (elim (none_or_all pages count p paged) [ inl none ↦ inl none | inr all ↦ inr (omega arith) ]))

pub all_pages : (pages : List (List ℕ)) (p : ℕ) → p ≡ length pages → cells_of_pages pages p ≡ marked_cells pages
unfolding marked_cells
all_pages pages p e = ap (cells_of_pages pages) e
