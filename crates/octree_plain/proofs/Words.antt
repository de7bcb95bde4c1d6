-- The bits of words, and the cells whose bits are set.
use Rattle.std.proofs.Common.{◌≡◌, ℕ, zero, suc, ◌+◌, ◌*◌, ◌/◌, ◌%◌, ◌^◌, ◌<◌, ◌≤◌, ◌≢◌, inl, inr, Bool, true, false, ◌||◌, ◌&&◌, not, List, [], ◌∷◌, ◌++◌, map, take, drop, length, get_or, set, ap, refl, sym, arith, ◌∙◌, nat_eq, cond, append_assoc, add-suc}
use Rattle.std.specs.List.{filter}
use Rattle.std.specs.Int.{bit_at, w64, bit_not, trailing_zeros}
use Rattle.std.specs.Int.RustNames.{bit_or, bit_and}
use Rattle.std.proofs.lemmas.Bool.{cases_eq, lt-ltb, eq-eqb, ne_eqb}
use Rattle.std.proofs.lemmas.List.{map-append, append-nil, length-set, get_or-set_same, get_or-set_other, drop_all, take_all}
use Rattle.std.proofs.lemmas.List.Elements.{filter-append}
use Rattle.std.proofs.lemmas.List.Sums.{length-filter, count_by-le-length}
use Rattle.std.proofs.lemmas.Nat.Bits.{bit_at_set_same, bit_at_set_other, bit_at_clear_same, bit_at_clear_other, bit_at-trailing_zeros, bit_at-zero, bit_at-lt, and_pow}
use Rattle.std.proofs.lemmas.Nat.{one_shl, pow_pos}
use Rattle.std.proofs.Math.Nat.{zero-mul}
use Rattle.std.specs.List.{AllClonesOf}
use Rattle.octree_model.specs.Numbers.{up_to, has, with_number}
use Rattle.octree_plain.specs.CellSets.{is_marked, marked_cells, set_bits}
use Rattle.octree_model.proofs.NumberLaws.{length-up_to}
use Rattle.octree_model.proofs.FilterLaws.{filter_same, filter_none, filter_with, filter_lowest, has-filter}

-- ---- the bits of a word
abbrev pub is_set : ℕ → ℕ → Bool
is_set word b = nat_eq (bit_at word b) 1

pub no_bits : set_bits 0 ≡ []
unfolding set_bits
no_bits = filter_none (λ b. nat_eq (bit_at 0 b) 1) 64 (λ i l. ap (λ n. nat_eq n 1) (bit_at-zero i))

-- the code's test of a bit
is_clear : (b p : ℕ) → b < 2 → 0 < p → nat_eq (b * p) 0 ≡ not (nat_eq b 1)
is_clear zero p few some = ap (λ n. nat_eq n 0) (zero-mul p)
is_clear (suc b) p few some =
    let one : suc b ≡ 1 = omega arith in
    let more : suc b * p ≢ 0 = λ e. let same : 1 * p ≡ 0 = ap (λ n. n * p) (sym one) ∙ e in absurd (omega arith) in
    ne_eqb _ _ more ∙ sym (ap not (eq-eqb _ _ one))

pub bit_test : (word b : ℕ) → b < 64 → nat_eq (bit_and word (1 * 2 ^ b % 2 ^ 64)) 0 ≡ not (is_set word b)
bit_test word b l =
    ap (λ m. nat_eq (bit_and word m) 0) (one_shl b 64 l) ∙ ap (λ n. nat_eq n 0) (and_pow word b) ∙ is_clear (bit_at word b) (2 ^ b) (bit_at-lt word b) (pow_pos b)

-- a word without its lowest bit
abbrev pub without : ℕ → ℕ → ℕ
without word b = bit_and word (bit_not w64 (1 * 2 ^ b % 2 ^ 64))

pub record LowestBit (word b : ℕ) : Type 0 where
  pub within : b < 64
  pub first : set_bits word ≡ b ∷ set_bits (without word b)

lowest_in : (word b n : ℕ) → b < 64 → n ≤ 64 → b < n → bit_at word b ≡ 1 → ((i : ℕ) → i < b → bit_at word i ≡ 0) → filter (is_set word) (up_to n) ≡ b ∷ filter (is_set (without word b)) (up_to n)
lowest_in word b n within few l at below =
    filter_lowest (is_set word) (is_set (without word b)) b n l
    (λ i k. elim (cases_eq i b) [
      | inl same ↦ ap (is_set word) same ∙ eq-eqb _ _ at ∙ sym (ap (λ x. x || is_set (without word b) i) (eq-eqb _ _ same))
      | inr other ↦ sym (ap (λ x. x || is_set (without word b) i) (ne_eqb i b other) ∙ ap (λ m. nat_eq m 1) (bit_at_clear_other w64 word b within i (omega arith) other))
    ])
    (λ i k. elim (cases_eq i b) [
      | inl same ↦ ap (is_set (without word b)) same ∙ ap (λ m. nat_eq m 1) (bit_at_clear_same w64 word b within)
      | inr other ↦ ap (λ m. nat_eq m 1) (bit_at_clear_other w64 word b within i (omega arith) other ∙ below i (omega arith))
    ])

pub lowest_bit : (word : ℕ) → 0 < word → word < 2 ^ 64 → LowestBit word (trailing_zeros w64 word)
unfolding set_bits
lowest_bit word some fits =
    let z : (trailing_zeros w64 word < 64) × (bit_at word (trailing_zeros w64 word) ≡ 1) × ((i : ℕ) → i < trailing_zeros w64 word → bit_at word i ≡ 0) = bit_at-trailing_zeros w64 word some fits in
    record { within = z.0; first = lowest_in word (trailing_zeros w64 word) 64 z.0 (omega arith) z.0 z.1 z.2 }

-- the loop over the bits: one place more
pub one_place : (first word b : ℕ) (places places' all : List ℕ) → 0 < word → word < 2 ^ 64 → b ≡ trailing_zeros w64 word
    → places ++ map (λ k. first + k) (set_bits word) ≡ all → places' ≡ places ++ (first + b) ∷ [] → places' ++ map (λ k. first + k) (set_bits (without word b)) ≡ all
one_place first word b places places' all some fits is before pushed =
    let low : LowestBit word b = rw is (lowest_bit word some fits) in
    ap (λ (ks : List ℕ). ks ++ map (λ k. first + k) (set_bits (without word b))) pushed
    ∙ append_assoc places ((first + b) ∷ []) (map (λ k. first + k) (set_bits (without word b)))
    ∙ ap (λ ks. places ++ map (λ k. first + k) ks) (sym low.first)
    ∙ before

pub fewer_bits : (word b : ℕ) → 0 < word → word < 2 ^ 64 → b ≡ trailing_zeros w64 word → length (set_bits (without word b)) < length (set_bits word)
fewer_bits word b some fits is =
    let low : LowestBit word b = rw is (lowest_bit word some fits) in
    omega (arith, ap length low.first)

-- ---- the cells of words
-- the numbers below a, and then those from a on
pub up_to-add : (a b : ℕ) → up_to (a + b) ≡ up_to a ++ map (λ i. a + i) (up_to b)
up_to-add a zero = let e : a + 0 ≡ a = omega arith in ap up_to e ∙ sym (append-nil (up_to a))
up_to-add a (suc b) =
    rw (add-suc a b) (ap (λ (ks : List ℕ). ks ++ (a + b) ∷ []) (up_to-add a b) ∙ append_assoc (up_to a) (map (λ i. a + i) (up_to b)) ((a + b) ∷ [])
    ∙ ap (λ (ks : List ℕ). up_to a ++ ks) (sym (map-append (λ i. a + i) (up_to b) (b ∷ []))))

pub filter-map : (t : ℕ → Bool) (f : ℕ → ℕ) (ks : List ℕ) → filter t (map f ks) ≡ map f (filter (λ k. t (f k)) ks)
filter-map t f [] = refl
filter-map t f (k ∷ ks) = elim (t (f k)) as (λ b. cond b (f k ∷ filter t (map f ks)) (filter t (map f ks)) ≡ map f (cond b (k ∷ filter (λ k. t (f k)) ks) (filter (λ k. t (f k)) ks))) [
  | true ↦ ap (λ xs. f k ∷ xs) (filter-map t f ks)
  | false ↦ filter-map t f ks
]

-- the cells of the first k words
abbrev pub cells_of_first : List ℕ → ℕ → List ℕ
cells_of_first words k = filter (is_marked words) (up_to (64 * k))

next_in : (words : List ℕ) (k n : ℕ) (word : ℕ) → n ≤ 64 → word ≡ get_or words k 0
    → filter (is_marked words) (up_to (64 * k + n)) ≡ filter (is_marked words) (up_to (64 * k)) ++ map (λ b. 64 * k + b) (filter (is_set word) (up_to n))
next_in words k n word few at =
    ap (filter (is_marked words)) (up_to-add (64 * k) n)
    ∙ filter-append (is_marked words) (up_to (64 * k)) (map (λ i. 64 * k + i) (up_to n))
    ∙ ap (λ (ks : List ℕ). filter (is_marked words) (up_to (64 * k)) ++ ks)
    (filter-map (is_marked words) (λ i. 64 * k + i) (up_to n)
    ∙ ap (map (λ b. 64 * k + b)) (filter_same (is_set word) (λ i. is_marked words (64 * k + i)) n (λ i l.
    let place : (64 * k + i) / 64 ≡ k = omega arith in
    let bit : (64 * k + i) % 64 ≡ i = omega arith in
    ap (λ q. nat_eq (bit_at (get_or words q 0) ((64 * k + i) % 64)) 1) place ∙ ap (λ r. nat_eq (bit_at (get_or words k 0) r) 1) bit ∙ ap (λ w. is_set w i) (sym at))))

-- one word more
next_word : (words : List ℕ) (k word : ℕ) → word ≡ get_or words k 0 → cells_of_first words (k + 1) ≡ cells_of_first words k ++ map (λ b. 64 * k + b) (set_bits word)
unfolding set_bits
next_word words k word at =
    let e : 64 * (k + 1) ≡ 64 * k + 64 = omega arith in
    ap (λ n. filter (is_marked words) (up_to n)) e ∙ next_in words k 64 word (omega arith) at

shifted : (a b : ℕ) (ks : List ℕ) → map (λ z. a + z) (map (λ z. b + z) ks) ≡ map (λ z. (a + b) + z) ks
shifted a b [] = refl
shifted a b (k ∷ ks) = let e : a + (b + k) ≡ (a + b) + k = omega arith in ap (λ n. n ∷ map (λ z. a + z) (map (λ z. b + z) ks)) e ∙ ap (λ (xs : List ℕ). ((a + b) + k) ∷ xs) (shifted a b ks)

-- one word more, of cells counted from a first one
pub next_places : (words : List ℕ) (first k word : ℕ) (old cells cells' : List ℕ) → word ≡ get_or words k 0 → cells ≡ old ++ map (λ z. first + z) (cells_of_first words k)
    → cells' ≡ cells ++ map (λ b. (first + 64 * k) + b) (set_bits word) → cells' ≡ old ++ map (λ z. first + z) (cells_of_first words (k + 1))
next_places words first k word old cells cells' at before pushed =
    pushed ∙ ap (λ (ks : List ℕ). ks ++ map (λ b. (first + 64 * k) + b) (set_bits word)) before
    ∙ append_assoc old (map (λ z. first + z) (cells_of_first words k)) (map (λ b. (first + 64 * k) + b) (set_bits word))
    ∙ ap (λ (ks : List ℕ). old ++ (map (λ z. first + z) (cells_of_first words k) ++ ks)) (sym (shifted first (64 * k) (set_bits word)))
    ∙ ap (λ (ks : List ℕ). old ++ ks) (sym (map-append (λ z. first + z) (cells_of_first words k) (map (λ b. 64 * k + b) (set_bits word))))
    ∙ ap (λ (ks : List ℕ). old ++ map (λ z. first + z) ks) (sym (next_word words k word at))

-- all words
pub all_words : (words : List ℕ) (k : ℕ) → k ≡ length words → cells_of_first words k ≡ marked_cells words
unfolding marked_cells
all_words words k e = ap (cells_of_first words) e

-- counted from 0 they are themselves
pub from_zero : (ks : List ℕ) → map (λ z. 0 + z) ks ≡ ks
from_zero [] = refl
from_zero (k ∷ ks) = let e : 0 + k ≡ k = omega arith in ap (λ n. n ∷ map (λ z. 0 + z) ks) e ∙ ap (λ (xs : List ℕ). k ∷ xs) (from_zero ks)

-- without a bit there is no cell
pub no_marks : (words : List ℕ) → ((k : ℕ) → k < length words → get_or words k 0 ≡ 0) → marked_cells words ≡ []
unfolding marked_cells
no_marks words h = filter_none (is_marked words) (64 * length words) (λ z l.
    let k : z / 64 < length words = omega arith in
    ap (λ w. nat_eq (bit_at w (z % 64)) 1) (h (z / 64) k) ∙ ap (λ n. nat_eq n 1) (bit_at-zero (z % 64)))

-- a list of copies of a number
pub all_copies : (x : ℕ) (clones : ℕ → ℕ → Type 0) → ((y : ℕ) → clones x y → y ≡ x) → (ys : List ℕ) → AllClonesOf clones x ys → (k : ℕ) → k < length ys → get_or ys k x ≡ x
all_copies x clones same [] h k l = absurd (omega arith)
all_copies x clones same (y ∷ ys) h zero l = elim h.0 [ inl e ↦ e | inr cloned ↦ same y cloned ]
all_copies x clones same (y ∷ ys) h (suc k) l = all_copies x clones same ys h.1 k (omega arith)

-- a set has the cells whose bits are set
pub has-marked_cells : (words : List ℕ) (z : ℕ) → z < 64 * length words → has z (marked_cells words) ≡ is_marked words z
unfolding marked_cells
has-marked_cells words z l = has-filter z (is_marked words) (64 * length words) ∙ ap (λ b. b && is_marked words z) (lt-ltb _ _ l)

-- there are no more of them than there are bits
pub few_marks : (words : List ℕ) → length (marked_cells words) ≤ 64 * length words
unfolding marked_cells
few_marks words = omega (arith, length-filter (is_marked words) (up_to (64 * length words)), count_by-le-length (is_marked words) (up_to (64 * length words)), length-up_to (64 * length words))

-- a cell is put in by its bit
abbrev pub with_bit : ℕ → ℕ → ℕ
with_bit word b = bit_or word (1 * 2 ^ b % 2 ^ 64)

marks_more : (words : List ℕ) (z w i : ℕ) → z < 64 * length words → w ≡ with_bit (get_or words (z / 64) 0) (z % 64) → is_marked (set words (z / 64) w) i ≡ (nat_eq i z || is_marked words i)
marks_more words z w i l e =
    let within : z % 64 < 64 = omega arith in
    let k : z / 64 < length words = omega arith in
    elim (cases_eq (i / 64) (z / 64)) [
      | inl same ↦
          let read : get_or (set words (z / 64) w) (i / 64) 0 ≡ w = ap (λ q. get_or (set words (z / 64) w) q 0) same ∙ get_or-set_same words (z / 64) w 0 k in
          ap (λ v. is_set v (i % 64)) (read ∙ e) ∙ elim (cases_eq (i % 64) (z % 64)) [
            | inl bit ↦
                let here : i ≡ z = omega arith in
                ap (λ b. is_set (with_bit (get_or words (z / 64) 0) (z % 64)) b) bit ∙ ap (λ n. nat_eq n 1) (bit_at_set_same w64 (get_or words (z / 64) 0) (z % 64) within)
                ∙ sym (ap (λ b. b || is_marked words i) (eq-eqb _ _ here))
            | inr other ↦
                let there : i ≢ z = λ q. other (ap (λ n. n % 64) q) in
                ap (λ n. nat_eq n 1) (bit_at_set_other w64 (get_or words (z / 64) 0) (z % 64) within (i % 64) other)
                ∙ ap (λ q. is_set (get_or words q 0) (i % 64)) (sym same)
                ∙ sym (ap (λ b. b || is_marked words i) (ne_eqb i z there))
          ]
      | inr other ↦
          let there : i ≢ z = λ q. other (ap (λ n. n / 64) q) in
          ap (λ v. is_set v (i % 64)) (get_or-set_other words (z / 64) (i / 64) w 0 other) ∙ sym (ap (λ b. b || is_marked words i) (ne_eqb i z there))
    ]

pub one_mark : (words : List ℕ) (z w : ℕ) → z < 64 * length words → w ≡ with_bit (get_or words (z / 64) 0) (z % 64) → marked_cells (set words (z / 64) w) ≡ with_number z (marked_cells words)
unfolding marked_cells
one_mark words z w l e =
    ap (λ n. filter (is_marked (set words (z / 64) w)) (up_to (64 * n))) (length-set words (z / 64) w)
    ∙ filter_with (is_marked words) (is_marked (set words (z / 64) w)) z (64 * length words) l (λ i k. marks_more words z w i l e)

-- a vector that is filled anew has the new items
pub refilled : (len : ℕ) (ws vs : List ℕ) → length ws ≡ len → length vs ≡ len → take len (ws ++ drop (length ws) vs) ≡ ws
refilled len ws vs e f =
    let gone : drop (length ws) vs ≡ [] = drop_all (length ws) vs (omega arith) in
    ap (λ (ks : List ℕ). take len (ws ++ ks)) gone ∙ ap (take len) (append-nil ws) ∙ take_all len ws (omega arith)
