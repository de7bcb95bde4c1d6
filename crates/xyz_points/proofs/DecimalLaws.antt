-- The parts of a text that may be a decimal number.
use Rattle.std.proofs.Common.{◌≡◌, ◌≢◌, ℕ, ◌+◌, ◌<◌, min, ◌&&◌, nat_lt, true, false, List, ◌++◌, length, take, drop, get_or, ap, ◌∙◌, sym, refl, arith, inl, inr, take_while, length-append}
use Rattle.std.specs.Char.{is_ascii_digit}
use Rattle.std.specs.List.{list_all, prefix_len, position_or_len}
use Rattle.std.proofs.lemmas.Bool.{and_from, and_left, and_right, cases_lt, lt-ltb, ne_eqb, eqb-true}
use Rattle.std.proofs.lemmas.List.{get_or-take, length-take, take-append-drop}
use Rattle.std.proofs.lemmas.List.Folds.{list_all-append, list_all_at}
use Rattle.std.proofs.lemmas.List.Sums.{passes_at_first, position_or_len_is, prefix_len_passes, prefix_len_stops}
use Rattle.std.proofs.Math.Seq.{take-length}
use Rattle.xyz_points.specs.Numbers.{is_numeral, is_point, fraction, number, number_after, without_point}
use Rattle.xyz_points.proofs.NumberLaws.{IsDigit, digit, all_pass, not_all_pass, number-append, number_capped}

-- a text is no numeral where a byte is no digit
pub no_numeral : (text : List ℕ) → list_all is_ascii_digit text ≡ false → is_numeral text ≡ false
no_numeral text h = and_right (nat_lt 0 (length text)) (list_all is_ascii_digit text) h

-- and one where there is a digit and each byte is one
pub numeral : (text : List ℕ) → 0 < length text → list_all is_ascii_digit text ≡ true → is_numeral text ≡ true
numeral text some h = and_from (nat_lt 0 (length text)) (list_all is_ascii_digit text) (lt-ltb 0 (length text) some) h

-- a digit is no point
no_point : (b : ℕ) → is_ascii_digit b ≡ true → is_point b ≡ false
no_point b h = let d : IsDigit b = digit b h in ne_eqb b 46 (λ e. absurd (omega arith))

-- digits to the end have no point
pub no_fraction : (text : List ℕ) → prefix_len is_ascii_digit text ≡ length text → position_or_len is_point text ≡ length text
no_fraction text whole = position_or_len_is is_point text (length text) 0 (omega arith)
    (λ k l. no_point (get_or text k 0) (prefix_len_passes is_ascii_digit text k 0 (omega (arith, whole, l)))) (λ l. absurd (omega arith))

-- the first point stands behind the digits at the front
pub point_behind : (text : List ℕ) (whole : ℕ) → whole ≡ prefix_len is_ascii_digit text → whole < length text → get_or text whole 0 ≡ 46 → position_or_len is_point text ≡ whole
point_behind text whole is within point = position_or_len_is is_point text whole 0 (omega arith)
    (λ k l. no_point (get_or text k 0) (prefix_len_passes is_ascii_digit text k 0 (omega (arith, is, l)))) (λ l. rw point refl)

-- what is neither a digit nor a point makes no decimal number
pub no_decimal : (text : List ℕ) (whole : ℕ) → whole ≡ prefix_len is_ascii_digit text → whole < length text → get_or text whole 0 ≢ 46 → is_numeral (without_point text) ≡ false
no_decimal text whole is within other =
    let at : ℕ = position_or_len is_point text in
    let behind : whole < at = elim (cases_lt whole at) [
      | inl l ↦ l
      | inr l ↦
          let p : is_point (get_or text at 0) ≡ true = passes_at_first is_point text 0 (omega arith) in
          let e : get_or text at 0 ≡ 46 = eqb-true (get_or text at 0) 46 p in
          elim (cases_lt at whole) [
            | inl b ↦
                let d : IsDigit (get_or text at 0) = digit (get_or text at 0) (prefix_len_passes is_ascii_digit text at 0 (omega (arith, is, b))) in
                absurd (omega arith)
            | inr b ↦ let s : at ≡ whole = omega arith in absurd (other (rw s at e))
          ]
    ] in
    let stop : is_ascii_digit (get_or text whole 0) ≡ false = rw (sym is) at (prefix_len_stops is_ascii_digit text 0 (omega (arith, is, within))) in
    let same : get_or (take at text) whole 0 ≡ get_or text whole 0 = get_or-take at text whole 0 behind in
    let before : list_all is_ascii_digit (take at text) ≡ false = list_all_at is_ascii_digit (take at text) whole 0 (omega (arith, length-take at text, behind, within)) (rw same stop) in
    no_numeral (without_point text) (list_all-append is_ascii_digit (take at text) (fraction text) ∙ and_left (list_all is_ascii_digit (take at text)) (list_all is_ascii_digit (fraction text)) before)

-- a fraction is all digits where those that are kept and those that are dropped are
cut_fraction : (fraction : List ℕ) (kept : ℕ) → list_all is_ascii_digit fraction ≡ (list_all is_ascii_digit (take kept fraction) && list_all is_ascii_digit (drop kept fraction))
cut_fraction fraction kept = ap (list_all is_ascii_digit) (sym (take-append-drop kept fraction)) ∙ list_all-append is_ascii_digit (take kept fraction) (drop kept fraction)

-- a byte behind the point that is no digit
bad_fraction : (whole fraction : List ℕ) → list_all is_ascii_digit fraction ≡ false → is_numeral (whole ++ fraction) ≡ false
bad_fraction whole fraction bad = no_numeral (whole ++ fraction) (list_all-append is_ascii_digit whole fraction ∙ and_right (list_all is_ascii_digit whole) (list_all is_ascii_digit fraction) bad)

-- a byte that is no digit among those that are kept
pub bad_kept : (whole fraction : List ℕ) (kept : ℕ) → prefix_len is_ascii_digit (take kept fraction) < length (take kept fraction) → is_numeral (whole ++ fraction) ≡ false
bad_kept whole fraction kept less = bad_fraction whole fraction
    (cut_fraction fraction kept ∙ and_left (list_all is_ascii_digit (take kept fraction)) (list_all is_ascii_digit (drop kept fraction)) (not_all_pass is_ascii_digit (take kept fraction) less))

-- and one among those that are dropped
pub bad_dropped : (whole fraction : List ℕ) (kept : ℕ) → list_all is_ascii_digit (drop kept fraction) ≡ false → is_numeral (whole ++ fraction) ≡ false
bad_dropped whole fraction kept bad = bad_fraction whole fraction
    (cut_fraction fraction kept ∙ and_right (list_all is_ascii_digit (take kept fraction)) (list_all is_ascii_digit (drop kept fraction)) bad)

-- digits alone, of which there is one
pub all_digits : (whole fraction : List ℕ) (kept : ℕ) → 0 < length whole + length fraction → list_all is_ascii_digit whole ≡ true
    → prefix_len is_ascii_digit (take kept fraction) ≡ length (take kept fraction) → list_all is_ascii_digit (drop kept fraction) ≡ true → is_numeral (whole ++ fraction) ≡ true
all_digits whole fraction kept some w k d =
    let f : list_all is_ascii_digit fraction ≡ true = cut_fraction fraction kept ∙ and_from (list_all is_ascii_digit (take kept fraction)) (list_all is_ascii_digit (drop kept fraction)) (all_pass is_ascii_digit (take kept fraction) k) d in
    numeral (whole ++ fraction) (omega (arith, length-append whole fraction, some))
    (list_all-append is_ascii_digit whole fraction ∙ and_from (list_all is_ascii_digit whole) (list_all is_ascii_digit fraction) w f)

-- the run of digits that is the whole text
pub whole_run : (text : List ℕ) → prefix_len is_ascii_digit text ≡ length text → take_while is_ascii_digit text ≡ text
whole_run text whole = ap (λ n. take n text) whole ∙ take-length text

-- the value of the whole digits and of those that are kept behind the point
pub kept_value : (most : ℕ) (text kept : List ℕ) (before value : ℕ) → before ≡ min (number_after 0 (take_while is_ascii_digit text)) most
    → prefix_len is_ascii_digit kept ≡ length kept → value ≡ min (number_after before (take_while is_ascii_digit kept)) most
    → value ≡ min (number (take_while is_ascii_digit text ++ kept)) most
kept_value most text kept before value b all v =
    v
    ∙ ap (λ ds. min (number_after before ds) most) (whole_run kept all)
    ∙ ap (λ n. min (number_after n kept) most) b
    ∙ number_capped most (number (take_while is_ascii_digit text)) kept
    ∙ ap (λ n. min n most) (sym (number-append 0 (take_while is_ascii_digit text) kept))
