-- The first word of a text.
use Rattle.std.proofs.Common.{◌≡◌, ◌==◌, ℕ, suc, ◌+◌, ◌<◌, Bool, false, not, List, [], ◌∷◌, take, drop, filter, length, position, Some, None, ap, ◌∙◌, sym, refl, arith, inl, inr}
use Rattle.std.specs.List.{slice_split, position_or_len}
use Rattle.std.proofs.lemmas.Bool.{cases_Bool, ne_eqb}
use Rattle.std.proofs.lemmas.List.{drop_all, length-take}
use Rattle.sim_script.specs.Words.{Word, is_blank, placed, is_some_text, words_from}
use Rattle.sim_script.proofs.Cuts.{uncut, cut_at, not_found, found}

-- the words between the elements that pass a test
abbrev words_by : (ℕ → Bool) → ℕ → List ℕ → List Word
words_by p at text = filter is_some_text (placed at (slice_split p text))

-- blanks in front of a text are no part of its words, and move their places
skipped : (p : ℕ → Bool) (at : ℕ) (text : List ℕ)
    → words_by p (at + position_or_len (λ b. not (p b)) text) (drop (position_or_len (λ b. not (p b)) text) text) ≡ words_by p at text
skipped p at [] = let zero : at + 0 ≡ at = omega arith in ap (λ n. words_by p n []) zero
skipped p at (b ∷ text) = elim (cases_Bool (p b)) [
  | inl e ↦
      let n : ℕ = position_or_len (λ b. not (p b)) text in
      let one : 1 + n ≡ suc n = omega arith in
      let on : at + suc n ≡ at + 0 + 1 + n = omega arith in
      rw e (ap (λ m. words_by p (at + m) (drop m (b ∷ text))) one ∙ ap (λ m. words_by p m (drop n text)) on ∙ skipped p (at + 0 + 1) text)
  | inr e ↦
      let none : position_or_len (λ x. not (p x)) (b ∷ text) ≡ 0 = rw e refl in
      let zero : at + 0 ≡ at = omega arith in
      ap (λ m. words_by p (at + m) (drop m (b ∷ text))) none ∙ ap (λ m. words_by p m (b ∷ text)) zero
]

-- the text begins with a byte that is no blank
record Begins (p : ℕ → Bool) (text : List ℕ) : Type 0 where
  first : ℕ
  more : List ℕ
  is : text ≡ first ∷ more
  no : p first ≡ false

-- what stands behind the blanks at the front begins so
begins : (p : ℕ → Bool) (text : List ℕ) → position_or_len (λ b. not (p b)) text < length text → Begins p (drop (position_or_len (λ b. not (p b)) text) text)
begins p [] within = absurd (omega arith)
begins p (b ∷ text) within = elim (cases_Bool (p b)) [
  | inl e ↦
      let n : ℕ = position_or_len (λ b. not (p b)) text in
      let one : 1 + n ≡ suc n = omega arith in
      let w : 1 + n < length (b ∷ text) = rw e at within in
      rw e (let B : ℕ → Type 0 = λ m. Begins p (drop m (b ∷ text)) in rw one (begins p text (omega arith)))
  | inr e ↦ rw e (record { first = b; more = text; is = refl; no = e })
]

-- a text that begins with a word and has no blank is this word
only_word : (p : ℕ → Bool) (at : ℕ) (text : List ℕ) → Begins p text → position p text ≡ None → words_by p at text ≡ record { at = at; text = text } ∷ []
only_word p at text b e =
    let some : (length text == 0) ≡ false = ne_eqb _ _ (λ z. absurd (omega (arith, ap length b.is, z))) in
    rw (uncut p text e, some) refl

-- otherwise the word ends at the first blank
word_before : (p : ℕ → Bool) (at : ℕ) (text : List ℕ) (k : ℕ) → Begins p text → position p text ≡ Some k
    → words_by p at text ≡ record { at = at; text = take k text } ∷ words_by p (at + length (take k text) + 1) (drop (k + 1) text)
word_before p at text k b e =
    let f = found p text k e in
    let here : 1 + position_or_len p b.more ≡ k = rw (b.is, b.no) at f.at in
    let some : (length (take k text) == 0) ≡ false = ne_eqb _ _ (λ z. absurd (omega (arith, length-take k text, f.within, z))) in
    ap (λ pieces. filter is_some_text (placed at pieces)) (cut_at p text k 0 e) ∙ rw some refl

-- a text of blanks has no word
pub no_word : (text : List ℕ) (at : ℕ) → position (λ b. not (is_blank b)) text ≡ None → words_from at text ≡ []
no_word text at e =
    sym (skipped is_blank at text) ∙ ap (words_from (at + position_or_len (λ b. not (is_blank b)) text)) (drop_all _ text (not_found _ text e))

last_word_by : (p : ℕ → Bool) (text : List ℕ) (at k : ℕ) → position (λ b. not (p b)) text ≡ Some k → position p (drop k text) ≡ None
    → words_by p at text ≡ record { at = at + k; text = drop k text } ∷ []
last_word_by p text at k here e =
    let f = found (λ b. not (p b)) text k here in
    let b : Begins p (drop k text) = rw f.at at (begins p text (omega (arith, f.at, f.within))) in
    let s : words_by p (at + k) (drop k text) ≡ words_by p at text = rw f.at at (skipped p at text) in
    sym s ∙ only_word p (at + k) (drop k text) b e

first_word_by : (p : ℕ → Bool) (text : List ℕ) (at k n : ℕ) → position (λ b. not (p b)) text ≡ Some k → position p (drop k text) ≡ Some n
    → words_by p at text ≡ record { at = at + k; text = take n (drop k text) } ∷ words_by p (at + k + length (take n (drop k text)) + 1)
    (drop (n + 1) (drop k text))
first_word_by p text at k n here e =
    let f = found (λ b. not (p b)) text k here in
    let b : Begins p (drop k text) = rw f.at at (begins p text (omega (arith, f.at, f.within))) in
    let s : words_by p (at + k) (drop k text) ≡ words_by p at text = rw f.at at (skipped p at text) in
    sym s ∙ word_before p (at + k) (drop k text) n b e

-- the word that begins at the first byte that is no blank, where no blank stands behind it
pub last_word : (text : List ℕ) (at k : ℕ) → position (λ b. not (is_blank b)) text ≡ Some k → position is_blank (drop k text) ≡ None
    → words_from at text ≡ record { at = at + k; text = drop k text } ∷ []
last_word text at k here e = last_word_by is_blank text at k here e

-- and where one does
pub first_word : (text : List ℕ) (at k n : ℕ) → position (λ b. not (is_blank b)) text ≡ Some k → position is_blank (drop k text) ≡ Some n
    → words_from at text
    ≡ record { at = at + k; text = take n (drop k text) } ∷ words_from (at + k + length (take n (drop k text)) + 1) (drop (n + 1) (drop k text))
first_word text at k n here e = first_word_by is_blank text at k n here e
