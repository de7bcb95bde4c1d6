-- The screening of words, by the table of options.
use Rattle.std.proofs.Common.{◌≡◌, ◌+◌, Bool, true, false, List, ◌&&◌, length, drop, ap, ◌∙◌, sym, refl, map, cond, Global}
use Rattle.std.specs.Prelude.{[], ◌∷◌, Option, Some, None, is_some, option_map, find, not, string_bytes, String}
use Rattle.std.specs.List.{list_any, list_all}
use Rattle.std.specs.Option.{MatchOption}
use Rattle.std.specs.Borrow.{Bor}
use Rattle.run_words.specs.Commands.{Text}
use Rattle.run_words.specs.Options.{OptionRowValue, options, row_value}
use Rattle.clap_words.specs.Words.{is_file, gives, value_of}
use Rattle.run_words.specs.Screens.{takes, is_known, stands_once, is_there, is_fit, first_unfit}
use Rattle.run_words.specs.declared.command.CommandName.{CommandName}
use Rattle.run_words.specs.declared.option.OptionRow.{OptionRow}
use Rattle.run_words.proofs.Mapped.{list_any-map, list_all-map, find-map}

-- a word that is no file is known where the table has it
pub known : (rows : List OptionRow) (command : CommandName) (word : Text) → map row_value rows ≡ options → is_file word ≡ false
    → list_any (λ row. takes (row_value row) command && gives row.word.now word) rows ≡ is_known command word
known rows command word table file =
    rw file (sym (list_any-map row_value (λ row. takes row command && gives row.word word) rows) ∙ ap (λ t. list_any (λ row. takes row command && gives row.word word) t) table)

passes_here : {X : Type 0} (test : X → Bool) (y : X) (ys : List X) (x : X) (b : Bool) → test y ≡ b → (Some x ≡ find test ys → test x ≡ true) → Some x ≡ cond b (Some y) (find test ys) → test x ≡ true
passes_here test y ys x true here later is = let e : x ≡ y = cc in ap test e ∙ here
passes_here test y ys x false here later is = later is

-- what is found passed the test
found_passes : {X : Type 0} (test : X → Bool) (xs : List X) (x : X) → Some x ≡ find test xs → test x ≡ true
found_passes test [] x is = cc
found_passes test (y ∷ ys) x is = passes_here test y ys x (test y) refl (λ found. found_passes test ys x found) is

first_value : (words : List (String Global)) (name : Text) (word : String Global) → Some word ≡ find (λ w. gives name (string_bytes w)) words
    → value_of name (map string_bytes words) ≡ Some (drop (length name + 3) (string_bytes word))
first_value words name word found = rw (find-map (λ w. string_bytes w) (λ w. gives name w) words, ← found) refl

-- the value of the first option of a name
pub found_value : (words : List (String Global)) (name : Text) (word : String Global) (r : Option (Bor Text)) → Some word ≡ find (λ w. gives name (string_bytes w)) words
    → MatchOption r (gives name (string_bytes word) ≡ false) (λ x. (gives name (string_bytes word) ≡ true) × (x.now ≡ drop (length name + 3) (string_bytes word)))
    → option_map (λ x. x.now) r ≡ value_of name (map string_bytes words)
found_value words name word None found value = let passes = found_passes (λ w. gives name (string_bytes w)) words word found in cc
found_value words name word (Some x) found value = ap (λ t. Some t) value.1 ∙ sym (first_value words name word found)

-- no option of a name, no value
pub no_value : (words : List (String Global)) (name : Text) → None ≡ find (λ w. gives name (string_bytes w)) words → None ≡ value_of name (map string_bytes words)
no_value words name none = rw (find-map (λ w. string_bytes w) (λ w. gives name w) words, ← none) refl

row_name : (o : Option OptionRow) → option_map (λ row. row.name) o ≡ option_map (λ row. row.name) (option_map row_value o)
row_name None = refl
row_name (Some row) = refl

-- the first row that does not fit
pub unfit : (rows : List OptionRow) (words : List Text) (r : Option OptionRow) → map row_value rows ≡ options → r ≡ find (λ row. not (is_fit words (row_value row))) rows
    → option_map (λ row. row.name) r ≡ first_unfit words
unfit rows words r table found =
    let test = λ (row : OptionRowValue). not (is_fit words row) in
    ap (λ o. option_map (λ row. row.name) o) found ∙ row_name (find (λ row. test (row_value row)) rows)
    ∙ ap (λ o. option_map (λ row. row.name) o) (sym (find-map row_value test rows) ∙ ap (λ t. find test t) table)

-- the tests of the whole row of words, joined
pub all_suit : (rows : List OptionRow) (command : CommandName) (words : List (String Global)) → map row_value rows ≡ options
    → (list_all (λ word. is_known command (string_bytes word)) words
    && list_all (λ row. stands_once (map string_bytes words) (row_value row)) rows
    && list_all (λ row. is_there command (map string_bytes words) (row_value row)) rows) ≡
    (list_all (λ word. is_known command word) (map string_bytes words)
    && list_all (stands_once (map string_bytes words)) options
    && list_all (is_there command (map string_bytes words)) options)
all_suit rows command words table =
    let texts = map string_bytes words in
    let known = sym (list_all-map (λ word. string_bytes word) (λ word. is_known command word) words) in
    let once = sym (list_all-map row_value (λ row. stands_once texts row) rows) ∙ ap (λ t. list_all (λ row. stands_once texts row) t) table in
    let there = sym (list_all-map row_value (λ row. is_there command texts row) rows) ∙ ap (λ t. list_all (λ row. is_there command texts row) t) table in
    rw (known, once, there) refl

-- a mapped value is there where the value is
pub is_some-option_map : {X Y : Type 0} (f : X → Y) (o : Option X) → is_some (option_map f o) ≡ is_some o
is_some-option_map f None = refl
is_some-option_map f (Some x) = refl
