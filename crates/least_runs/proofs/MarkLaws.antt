-- Sets of cells as bits in words, with a bit for each word.
use Rattle.std.proofs.Common.{◌≡◌, ℕ, zero, suc, ◌+◌, ◌-◌, ◌*◌, ◌/◌, ◌%◌, ◌^◌, ◌<◌, ◌≤◌, ◌≢◌, ◌⊎◌, inl, inr, Bool, true, false, ◌||◌, ◌&&◌, not, List, [], ◌∷◌, ◌++◌, map, take, drop, length, get_or, set, ap, refl, sym, arith, ◌∙◌, nat_eq, nat_lt, cond}
use Rattle.std.specs.List.{filter, flat_map, All}
use Rattle.std.specs.Int.{bit_at}
use Rattle.std.proofs.lemmas.Bool.{cases_eq, cases_lt, eq-eqb, ne_eqb, ltb-true}
use Rattle.std.proofs.lemmas.Grind.{flat_map-append}
use Rattle.std.proofs.lemmas.List.{append-nil, length-set, get_or-set_same, get_or-set_other, get_or_past, flat_map_more, drop_more, take_more}
use Rattle.std.proofs.lemmas.Nat.Bits.{bit_at-zero}
use Rattle.octree_model.specs.Numbers.{up_to, has, with_number}
use Rattle.octree_model.proofs.AscendingLaws.{filter_next, has-with_number}
use Rattle.octree_model.proofs.FilterLaws.{filter_same, has-filter}
use Rattle.octree_model.proofs.HasLaws.{has_at}
use Rattle.octree_plain.specs.CellSets.{is_marked, marked_cells, set_bits}
use Rattle.octree_plain.proofs.Words.{cells_of_first, next_places, from_zero, no_bits, has-marked_cells, one_mark, with_bit}
use Rattle.least_runs.specs.Marks.{AreMarks, word_cells, cells_of_words}

no : {X : Type 0} → false ≡ true → X
no e = cc

-- ---- sets without cells, and with one cell more
pub all_clear : (words upper : List ℕ) → length words ≡ 32768 → length upper ≡ 512 → ((w : ℕ) → get_or words w 0 ≡ 0) → AreMarks words upper
all_clear words upper long short none = record { words_long = long; upper_long = short; known = λ w some. absurd (some (none w)) }

pub marks_more : (words upper : List ℕ) (z w u : ℕ) → AreMarks words upper → z < 2 ^ 21 → u ≡ with_bit (get_or upper ((z / 64) / 64) 0) ((z / 64) % 64) → AreMarks (set words (z / 64) w) (set upper ((z / 64) / 64) u)
marks_more words upper z w u marks small is =
    let more : marked_cells (set upper ((z / 64) / 64) u) ≡ with_number (z / 64) (marked_cells upper) = one_mark upper (z / 64) u (omega (arith, marks.upper_long)) is in
    record {
      words_long = length-set words (z / 64) w ∙ marks.words_long;
      upper_long = length-set upper ((z / 64) / 64) u ∙ marks.upper_long;
      known = λ k some. ap (has k) more ∙ has-with_number k (z / 64) (marked_cells upper) ∙ elim (cases_eq k (z / 64)) [
        | inl same ↦ ap (λ b. b || has k (marked_cells upper)) (eq-eqb _ _ same)
        | inr other ↦
            let old : get_or words k 0 ≢ 0 = λ e. some (get_or-set_other words (z / 64) k w 0 other ∙ e) in
            ap (λ b. nat_eq k (z / 64) || b) (marks.known k old) ∙ or_true (nat_eq k (z / 64))
      ];
    }
  where
    or_true : (b : Bool) → (b || true) ≡ true
    or_true true = refl
    or_true false = refl

-- ---- the cells, word by word
next_cells : (words : List ℕ) (n : ℕ) → cells_of_first words n ++ word_cells words n ≡ cells_of_first words (suc n)
next_cells words n =
    let here : 64 * n ≡ 0 + 64 * n = omega arith in
    let place : n + 1 ≡ suc n = omega arith in
    let bits : List ℕ = set_bits (get_or words n 0) in
    ap (λ m. cells_of_first words n ++ map (λ b. m + b) bits) here
    ∙ next_places words 0 n (get_or words n 0) [] (cells_of_first words n) (cells_of_first words n ++ map (λ b. (0 + 64 * n) + b) bits) refl (sym (from_zero (cells_of_first words n))) refl
    ∙ from_zero (cells_of_first words (n + 1)) ∙ ap (cells_of_first words) place

listed_to : (words upper : List ℕ) (n : ℕ) → ((w : ℕ) → w < n → is_marked upper w ≡ false → get_or words w 0 ≡ 0) → cells_of_words words (filter (is_marked upper) (up_to n)) ≡ cells_of_first words n
listed_to words upper zero h = refl
listed_to words upper (suc n) h =
    let before : cells_of_words words (filter (is_marked upper) (up_to n)) ≡ cells_of_first words n = listed_to words upper n (λ w l. h w (omega arith)) in
    ap (cells_of_words words) (filter_next (is_marked upper) n)
    ∙ flat_map-append (word_cells words) (filter (is_marked upper) (up_to n)) (cond (is_marked upper n) (n ∷ []) [])
    ∙ ap (λ (xs : List ℕ). xs ++ cells_of_words words (cond (is_marked upper n) (n ∷ []) [])) before
    ∙ ap (λ (xs : List ℕ). cells_of_first words n ++ xs) (one (is_marked upper n) refl)
    ∙ next_cells words n
  where
    one : (b : Bool) → is_marked upper n ≡ b → cells_of_words words (cond b (n ∷ []) []) ≡ word_cells words n
    one true e = append-nil (word_cells words n)
    one false e = sym (ap (map (λ b. 64 * n + b)) (ap set_bits (h n (omega arith) e) ∙ no_bits))

pub listed : (words upper : List ℕ) → AreMarks words upper → cells_of_words words (marked_cells upper) ≡ marked_cells words
unfolding marked_cells
listed words upper marks =
    let long : 64 * length upper ≡ 32768 = omega (arith, marks.upper_long) in
    ap (λ n. cells_of_words words (filter (is_marked upper) (up_to n))) long
    ∙ listed_to words upper 32768 (λ w l e. elim (cases_eq (get_or words w 0) 0) [
      | inl none ↦ none
      | inr some ↦
          let there : is_marked upper w ≡ true = sym (has-marked_cells upper w (omega (arith, marks.upper_long))) ∙ marks.known w some in
          no (sym e ∙ there)
    ])
    ∙ ap (cells_of_first words) (sym marks.words_long)

-- the words above lead to words that are there
pub marks_within : (upper touched : List ℕ) (n : ℕ) → touched ≡ marked_cells upper → n ≡ 64 * length upper → All (λ w. w < n) touched
unfolding marked_cells
marks_within upper touched n is e = λ k d l.
    let there : has (get_or touched k d) (filter (is_marked upper) (up_to (64 * length upper))) ≡ true = ap (has (get_or touched k d)) (sym is) ∙ has_at touched k d l in
    let low : nat_lt (get_or touched k d) (64 * length upper) ≡ true = left_true _ _ (sym (has-filter (get_or touched k d) (is_marked upper) (64 * length upper)) ∙ there) in
    omega (arith, ltb-true (get_or touched k d) (64 * length upper) low, e)
  where
    left_true : (a b : Bool) → (a && b) ≡ true → a ≡ true
    left_true true b h = refl
    left_true false b h = h

-- one word by itself
one_word : (x : ℕ) → marked_cells (x ∷ []) ≡ set_bits x
unfolding marked_cells set_bits
one_word x = filter_same (λ b. nat_eq (bit_at x b) 1) (is_marked (x ∷ [])) 64 (λ i l.
    let place : i / 64 ≡ 0 = omega arith in
    let bit : i % 64 ≡ i = omega arith in
    ap (λ q. nat_eq (bit_at (get_or (x ∷ []) q 0) (i % 64)) 1) place ∙ ap (λ r. nat_eq (bit_at x r) 1) bit)

pub one_slice : (words : List ℕ) (w : ℕ) → w < length words → take (w + 1 - w) (drop w words) ≡ get_or words w 0 ∷ []
one_slice words w l = let one : w + 1 - w ≡ 1 = omega arith in ap (λ n. take n (drop w words)) one ∙ ap (take 1) (drop_more words w 0 l)

-- one word more of those that are listed
pub one_more : (words touched cells cells' lent : List ℕ) (i w : ℕ) → i < length touched → w ≡ get_or touched i 0 → lent ≡ get_or words w 0 ∷ [] → cells ≡ cells_of_words words (take i touched)
    → cells' ≡ cells ++ map (λ z. 64 * w + z) (marked_cells lent) → cells' ≡ cells_of_words words (take (i + 1) touched)
one_more words touched cells cells' lent i w l is slice before pushed =
    pushed
    ∙ ap (λ (ks : List ℕ). ks ++ map (λ z. 64 * w + z) (marked_cells lent)) before
    ∙ ap (λ (ks : List ℕ). cells_of_words words (take i touched) ++ map (λ z. 64 * w + z) ks) (ap marked_cells slice ∙ one_word (get_or words w 0))
    ∙ flat_map_more (word_cells words) [] (take i touched) w
    ∙ ap (λ v. cells_of_words words (take i touched ++ v ∷ [])) is
    ∙ ap (cells_of_words words) (sym (take_more touched i 0 l))

-- ---- clearing
-- a word is 0, or as it was and not passed yet
abbrev pub Passed : ℕ → List ℕ → List ℕ → Type 0
Passed k old new = (w : ℕ) → (get_or new w 0 ≡ 0) ⊎ ((get_or new w 0 ≡ get_or old w 0) × (64 * k ≤ w))

pub none_passed : (words : List ℕ) → Passed 0 words words
none_passed words w = inr (refl, omega arith)

passed_on : (k : ℕ) (old new : List ℕ) → ((w : ℕ) → 64 * k ≤ w → w < 64 * k + 64 → get_or new w 0 ≡ get_or old w 0 → get_or new w 0 ≡ 0) → Passed k old new → Passed (k + 1) old new
passed_on k old new none passed w = elim (passed w) [
  | inl gone ↦ inl gone
  | inr kept ↦ elim (cases_lt w (64 * k + 64)) [
    | inl below ↦ inl (none w kept.1 below kept.0)
    | inr above ↦ inr (kept.0, omega arith)
  ]
]

-- a block of words whose upper word is 0
pub block_passed : (k above : ℕ) (old new upper : List ℕ) → above ≡ get_or upper k 0 → above ≡ 0 → ((w : ℕ) → get_or old w 0 ≢ 0 → get_or upper (w / 64) 0 ≢ 0) → Passed k old new → Passed (k + 1) old new
block_passed k above old new upper is gone known passed = passed_on k old new (λ w from to same. elim (cases_eq (get_or old w 0) 0) [
  | inl none ↦ same ∙ none
  | inr some ↦
      let place : w / 64 ≡ k = omega arith in
      absurd (known w some (ap (λ q. get_or upper q 0) place ∙ sym is ∙ gone))
]) passed

-- a block of words that are set to 0
pub block_cleared : (k : ℕ) (old before after : List ℕ) → ((w : ℕ) → 64 * k ≤ w → w < 64 * k + 64 → get_or after w 0 ≡ 0) → ((w : ℕ) → (get_or after w 0 ≡ 0) ⊎ (get_or after w 0 ≡ get_or before w 0)) → Passed k old before → Passed (k + 1) old after
block_cleared k old before after block rest passed = passed_on k old after (λ w from to same. block w from to) (λ w. elim (rest w) [
  | inl gone ↦ inl gone
  | inr kept ↦ elim (passed w) [
    | inl gone ↦ inl (kept ∙ gone)
    | inr more ↦ inr (kept ∙ more.0, more.1)
  ]
])

pub all_passed : (k : ℕ) (old new : List ℕ) → length new ≤ 64 * k → Passed k old new → (w : ℕ) → get_or new w 0 ≡ 0
all_passed k old new long passed w = elim (passed w) [
  | inl gone ↦ gone
  | inr kept ↦ get_or_past new w 0 (omega (arith, kept.1))
]

-- the bits of an upper word that is 0
pub none_above : (words upper : List ℕ) → AreMarks words upper → (w : ℕ) → get_or words w 0 ≢ 0 → get_or upper (w / 64) 0 ≢ 0
none_above words upper marks w some gone = elim (cases_lt w 32768) [
  | inl low ↦
      let there : is_marked upper w ≡ true = sym (has-marked_cells upper w (omega (arith, marks.upper_long))) ∙ marks.known w some in
      no (sym (ap (λ x. nat_eq (bit_at x (w % 64)) 1) gone ∙ ap (λ n. nat_eq n 1) (bit_at-zero (w % 64))) ∙ there)
  | inr high ↦ some (get_or_past words w 0 (omega (arith, marks.words_long)))
]

-- one word more is set to 0
pub cleared_more : (words words' : List ℕ) (first i : ℕ) → i < length words → words' ≡ set words i 0 → ((w : ℕ) → first ≤ w → w < i → get_or words w 0 ≡ 0) → (w : ℕ) → first ≤ w → w < i + 1 → get_or words' w 0 ≡ 0
cleared_more words words' first i l is before w from to = elim (cases_eq w i) [
  | inl same ↦ ap (λ (ws : List ℕ). get_or ws w 0) is ∙ ap (λ k. get_or (set words i 0) k 0) same ∙ get_or-set_same words i 0 0 l
  | inr other ↦ ap (λ (ws : List ℕ). get_or ws w 0) is ∙ get_or-set_other words i w 0 0 other ∙ before w from (omega arith)
]

pub others_stay : (old words words' : List ℕ) (i : ℕ) → i < length words → words' ≡ set words i 0 → ((w : ℕ) → (get_or words w 0 ≡ 0) ⊎ (get_or words w 0 ≡ get_or old w 0)) → (w : ℕ) → (get_or words' w 0 ≡ 0) ⊎ (get_or words' w 0 ≡ get_or old w 0)
others_stay old words words' i l is before w = elim (cases_eq w i) [
  | inl same ↦ inl (cleared_more words words' i i l is (λ v from to. absurd (omega arith)) w (omega arith) (omega arith))
  | inr other ↦
      let kept : get_or words' w 0 ≡ get_or words w 0 = ap (λ (ws : List ℕ). get_or ws w 0) is ∙ get_or-set_other words i w 0 0 other in
      elim (before w) [ inl gone ↦ inl (kept ∙ gone) | inr same ↦ inr (kept ∙ same) ]
]

-- a list whose numbers are 0
pub zeros : (ws : List ℕ) → ((k : ℕ) → k < length ws → get_or ws k 0 ≡ 0) → (w : ℕ) → get_or ws w 0 ≡ 0
zeros ws h w = elim (cases_lt w (length ws)) [ inl low ↦ h w low | inr high ↦ get_or_past ws w 0 high ]

pub not_not : (b : Bool) → not (not b) ≡ b
not_not true = refl
not_not false = refl
