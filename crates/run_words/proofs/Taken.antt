-- Words that suit a command are words that `clap` takes.
use Rattle.std.proofs.Common.{◌≡◌, ◌∙◌, Bool, cond, true, false, List, [], ◌∷◌, ◌&&◌, ◌||◌, ap, ap₂, map, refl, sym}
use Rattle.std.specs.Prelude.{filter, is_some, codes}
use Rattle.std.specs.List.{list_any, list_all}
use Rattle.clap_words.specs.Words.{are_words, is_name}
use Rattle.clap_words.specs.Words as clap
use Rattle.run_words.specs.Commands.{Text}
use Rattle.run_words.specs.Options.{OptionRowValue, options, row_value}
use Rattle.clap_words.specs.Words.{is_file, gives, value_of}
use Rattle.run_words.specs.Screens.{files_suit, is_known, is_there, names_in, names_of, stands_once, suits, takes}
use Rattle.run_words.specs.declared.command.CommandName.{CommandName}
use Rattle.run_words.specs.declared.command.CommandName.TheVariants.{Nodes, Bounds, Image, Replay, Demo, Live}
use Rattle.run_words.specs.declared.option.OptionRow.{OptionRow}
use Rattle.run_words.proofs.Lists.{both}
use Rattle.run_words.proofs.Mapped.{list_all-map}

all_names : (command : CommandName) → list_all is_name (names_of command) ≡ true
unfolding options
all_names Nodes = refl
all_names Bounds = refl
all_names Image = refl
all_names Replay = refl
all_names Demo = refl
all_names Live = refl

all_options : list_all (λ (row : OptionRowValue). is_name row.word) options ≡ true
unfolding options
all_options = refl

-- each row of the table has a name
pub table_names : (rows : List OptionRow) → map row_value rows ≡ options → list_all (λ row. is_name row.word.now) rows ≡ true
table_names rows table = sym (list_all-map row_value (λ row. is_name row.word) rows) ∙ ap (λ t. list_all (λ row. is_name row.word) t) table ∙ all_options

given_by : (command : CommandName) (word : Text) (rows : List OptionRowValue)
    → list_any (λ name. gives name word) (names_in command rows) ≡ list_any (λ row. takes row command && gives row.word word) rows
given_by command word [] = refl
given_by command word (row ∷ rows) = go (takes row command) (given_by command word rows)
  where
    go : (b : Bool) → list_any (λ name. gives name word) (names_in command rows) ≡ list_any (λ r. takes r command && gives r.word word) rows
        → list_any (λ name. gives name word) (map (λ r. r.word) (cond b (row ∷ filter (λ r. takes r command) rows) (filter (λ r. takes r command) rows)))
        ≡ (b && gives row.word word || list_any (λ r. takes r command && gives r.word word) rows)
    go true rest = ap (λ x. gives row.word word || x) rest
    go false rest = rest

all_known : (command : CommandName) (words : List Text) → list_all (λ word. clap.is_known (names_of command) word) words ≡ list_all (λ word. is_known command word) words
all_known command [] = refl
all_known command (word ∷ rest) = ap₂ (λ a b. (is_file word || a) && b) (given_by command word options) (all_known command rest)

once_in : (command : CommandName) (words : List Text) (rows : List OptionRowValue) → list_all (stands_once words) rows ≡ true
    → list_all (λ name. clap.stands_once words name) (names_in command rows) ≡ true
once_in command words [] once = refl
once_in command words (row ∷ rows) once = go (takes row command) (once_in command words rows (both _ _ once).1)
  where
    go : (b : Bool) → list_all (λ name. clap.stands_once words name) (names_in command rows) ≡ true
        → list_all (λ name. clap.stands_once words name) (map (λ r. r.word) (cond b (row ∷ filter (λ r. takes r command) rows) (filter (λ r. takes r command) rows))) ≡ true
    go true rest = ap₂ (λ x y. x && y) (both _ _ once).0 rest
    go false rest = rest

-- words that suit a command
pub suited : (command : CommandName) (words : List Text) → suits command words ≡ true → are_words (names_of command) words ≡ true
suited command words suit =
    let files = both _ (files_suit command (list_any (λ word. is_file word) words) (is_some (value_of (codes "generate") words))) suit in
    let there = both _ (list_all (is_there command words) options) files.0 in
    let tests = both (list_all (λ word. is_known command word) words) (list_all (stands_once words) options) there.0 in
    ap₂ (λ a b. a && b) (all_names command) (ap₂ (λ a b. a && b) (all_known command words ∙ tests.0) (once_in command words options tests.1))
