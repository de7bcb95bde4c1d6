-- What texts begin with.
use Rattle.std.proofs.Common.{◌≡◌, ◌≢◌, ℕ, ◌+◌, Bool, true, false, List, ◌∷◌, ◌++◌, length, take, drop, ap, ◌∙◌, sym, refl, append_assoc, length-append, arith}
use Rattle.std.specs.Prelude.{Option, Some, None, nat_eq, codes}
use Rattle.std.specs.Bool.{MatchBool}
use Rattle.std.specs.Option.{MatchOption}
use Rattle.std.specs.Borrow.{Bor}
use Rattle.std.specs.List.{starts_with}
use Rattle.std.specs.Cmp.Lexicographic.{pointwise, told_text}
use Rattle.std.proofs.Math.Seq.{take-append_seam}
use Rattle.std.proofs.lemmas.List.{take-append-drop}
use Rattle.std.proofs.lemmas.List.Prefix.{front_rest}
use Rattle.clap_words.specs.Words.{option_start, gives}

-- a text that is made so begins so
pub starts : (s p rest : List ℕ) → s ≡ p ++ rest → starts_with nat_eq s p ≡ true
starts s p rest is = go (pointwise nat_eq p (take (length p) s)) (told_text p (take (length p) s) _ refl)
  where
    same : take (length p) s ≡ p
    same = ap (λ l. take (length p) l) is ∙ take-append_seam p rest

    go : (b : Bool) → MatchBool b (p ≡ take (length p) s) (p ≢ take (length p) s) → b ≡ true
    go true told = refl
    go false told = absurd (told (sym same))

-- a text that can't be made so does not begin so
pub starts_not : (s p : List ℕ) → ((rest : List ℕ) → s ≢ p ++ rest) → starts_with nat_eq s p ≡ false
starts_not s p none = go (pointwise nat_eq p (take (length p) s)) (told_text p (take (length p) s) _ refl)
  where
    go : (b : Bool) → MatchBool b (p ≡ take (length p) s) (p ≢ take (length p) s) → b ≡ false
    go true told = absurd (none (drop (length p) s) (sym (take-append-drop (length p) s) ∙ ap (λ l. l ++ drop (length p) s) (sym told)))
    go false told = refl

-- `--`, a name, `=` and a text, in a row
pub option_row : (name text : List ℕ) → option_start name ++ text ≡ codes "--" ++ (name ++ (61 ∷ text))
option_row name text = simp append_assoc

without_dashes : (a b : List ℕ) → codes "--" ++ a ≡ codes "--" ++ b → a ≡ b
without_dashes a b is = ap (λ l. drop 2 l) is

-- a word is no option of a name where the name does not follow the dashes
pub other_name : (word rest name : List ℕ) → word ≡ codes "--" ++ rest → ((more : List ℕ) → rest ≢ name ++ more) → gives name word ≡ false
other_name word rest name is none = starts_not word (option_start name) (λ text made. none (61 ∷ text) (without_dashes _ _ (sym is ∙ made ∙ option_row name text)))

-- a word is no option of a name where `=` does not follow the name
pub longer_name : (word rest more name : List ℕ) → word ≡ codes "--" ++ rest → rest ≡ name ++ more → ((text : List ℕ) → more ≢ 61 ∷ text) → gives name word ≡ false
longer_name word rest more name is named none = starts_not word (option_start name) (λ text made.
    let after : rest ≡ name ++ (61 ∷ text) = without_dashes _ _ (sym is ∙ made ∙ option_row name text) in
    none text (sym (front_rest rest name more named) ∙ front_rest rest name (61 ∷ text) after))

-- a word that is `--`, a name, `=` and a text
pub made_option : (word rest more text name : List ℕ) → word ≡ codes "--" ++ rest → rest ≡ name ++ more → more ≡ 61 ∷ text → word ≡ option_start name ++ text
made_option word rest more text name is named ends = is ∙ rw (named, ends) (sym (option_row name text))

pub length-option_start : (name : List ℕ) → length (option_start name) ≡ length name + 3
length-option_start name = simp length-append (omega arith)

-- the rest behind a beginning
pub behind : (s p now : List ℕ) (n : ℕ) → s ≡ p ++ drop n s → now ≡ drop n s → s ≡ p ++ now
behind s p now n begins is = begins ∙ ap (λ l. p ++ l) (sym is)

-- what the last step of reading an option gives
pub option_value : (word rest more name : List ℕ) (r : Option (Bor (List ℕ))) → word ≡ codes "--" ++ rest → rest ≡ name ++ more
    → MatchOption r ((text : List ℕ) → more ≢ 61 ∷ text) (λ x. more ≡ 61 ∷ x.now)
    → MatchOption r (gives name word ≡ false) (λ x. (gives name word ≡ true) × (x.now ≡ drop (length name + 3) word))
option_value word rest more name None is named none = longer_name word rest more name is named none
option_value word rest more name (Some x) is named ends =
    let made = made_option word rest more x.now name is named ends in
    (starts word (option_start name) x.now made, sym (front_rest word (option_start name) x.now made) ∙ ap (λ n. drop n word) (length-option_start name))
