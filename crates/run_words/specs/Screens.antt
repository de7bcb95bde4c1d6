-- Which words are files and options, and which of them a command takes.
use Rattle.std.specs.Prelude.{List, Bool, true, false, ◌&&◌, ◌||◌, not, ◌==◌, nat_eq, nat_lt, nat_le, Option, is_some, option_map, drop, slice_index, find, position, filter, map, count_by, codes}
use Rattle.std.specs.List.{list_any, list_all, starts_with}
use Rattle.std.specs.Option.{option_map_or}
use Rattle.std.specs.Char.{is_ascii_lowercase}
use Rattle.clap_words.specs.Words.{is_file, gives, value_of}
use Rattle.run_words.specs.Commands.{Text, is_same}
use Rattle.run_words.specs.Forms.{fits}
use Rattle.run_words.specs.Options.{OptionRowValue, options}
use Rattle.run_words.specs.declared.command.CommandName.{CommandName}
use Rattle.run_words.specs.declared.command.CommandName.TheVariants.{Demo, Live}
use Rattle.run_words.specs.declared.form.Form.{Form}
use Rattle.run_words.specs.declared.option.OptionName.{OptionName}

-- lower-case letters, at least one, and then `=`
abbrev pub begins_with_name : Text → Bool
begins_with_name text =
    option_map_or (λ end. nat_lt 0 end && slice_index text end == 61) (position (λ byte. not (is_ascii_lowercase byte)) text) false

-- an option is `--`, lower-case letters, `=` and any text
abbrev pub is_option : Text → Bool
is_option word = starts_with nat_eq word (codes "--") && begins_with_name (drop 2 word)

-- neither a file nor an option
abbrev pub is_stray : Text → Bool
is_stray word = not (is_file word || is_option word)

-- whether a command takes an option
abbrev pub takes : OptionRowValue → CommandName → Bool
takes row command = list_any (λ taking. is_same taking command) row.commands

-- a file, or an option that the command takes
abbrev pub is_known : CommandName → Text → Bool
is_known command word = is_file word || list_any (λ row. takes row command && gives row.word word) options

-- the words of these options that the command takes
abbrev pub names_in : CommandName → List OptionRowValue → List Text
names_in command rows = map (λ row. row.word) (filter (λ row. takes row command) rows)

-- the words of all options that the command takes
abbrev pub names_of : CommandName → List Text
names_of command = names_in command options

-- whether an option stands at most once
abbrev pub stands_once : List Text → OptionRowValue → Bool
stands_once words row = nat_le (count_by (λ word. gives row.word word) words) 1

-- whether an option is there, if the command requires it
abbrev pub is_there : CommandName → List Text → OptionRowValue → Bool
is_there command words row = not (row.required && takes row command) || is_some (value_of row.word words)

-- which commands take files, given whether there are files and whether points are generated
abbrev pub files_suit : CommandName → Bool → Bool → Bool
files_suit Demo files generated = not files
files_suit Live files generated = not files && generated || files && not generated
files_suit _ files generated = files

-- whether the options and files suit the command
abbrev pub suits : CommandName → List Text → Bool
suits command words =
    list_all (λ word. is_known command word) words && list_all (stands_once words) options && list_all (is_there command words) options
    && files_suit command (list_any (λ word. is_file word) words) (is_some (value_of (codes "generate") words))

-- whether the value of the option of this name is of a form, if the option is there
abbrev pub has_form : Form → Text → List Text → Bool
has_form form name words = option_map_or (λ text. fits form text) (value_of name words) true

-- whether an option's value is of its form, if the option is there
abbrev pub is_fit : List Text → OptionRowValue → Bool
is_fit words row = has_form row.form row.word words

-- the first option whose value is not of its form
abbrev pub first_unfit : List Text → Option OptionName
first_unfit words = option_map (λ row. row.name) (find (λ row. not (is_fit words row)) options)
