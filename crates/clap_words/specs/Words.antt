-- The words of a command: options `--name=value` and files.
use Rattle.std.specs.Prelude.{ℕ, ◌+◌, ◌==◌, ◌&&◌, ◌||◌, not, Bool, true, List, [], ◌∷◌, ◌++◌, map, length, drop, slice_index, Option, Some, option_map, find, nat_eq, nat_le, count_by, filter, unwrap_or, codes}
use Rattle.std.specs.List.{list_any, list_all, starts_with}
use Rattle.std.specs.Str.{bytes_eq}
use Rattle.clap.specs.Lexer.{has_byte}
use Rattle.clap.specs.Walk.{Rule}
use Rattle.clap.specs.Matches.{found_of, matched_of, raw_values}
use Rattle.clap.specs.declared.parser.matches.ArgMatches.{ArgMatches}
use Rattle.clap.specs.Simple.{App, new_rule, new_shape}
use Rattle.clap.specs.declared.builder.ArgAction.TheVariants.{Set, Append}

-- a word, as its bytes
abbrev pub Text : Type 0
Text = List ℕ

-- a file is named by a word that is not empty and does not begin with `-`
abbrev pub is_file : Text → Bool
is_file word = not (length word == 0) && not (slice_index word 0 == 45)

-- what an option of this name begins with
abbrev pub option_start : Text → Text
option_start name = codes "--" ++ name ++ codes "="

-- whether a word is the option of this name
abbrev pub gives : Text → Text → Bool
gives name word = starts_with nat_eq word (option_start name)

-- the value of the first option of this name, if there is one
abbrev pub value_of : Text → List Text → Option Text
value_of name words = option_map (λ word. drop (length name + 3) word) (find (λ word. gives name word) words)

-- the files among the words
abbrev pub files_of : List Text → List Text
files_of words = filter (λ word. is_file word) words

-- the id under which the files stand
abbrev pub files_id : Text
files_id = codes "FILES"

-- a name has no `=`, and is not the id of the files
abbrev pub is_name : Text → Bool
is_name name = not (has_byte 61 name) && not (bytes_eq name files_id)

-- the name is one of these
abbrev pub is_among : Text → List Text → Bool
is_among name names = list_any (λ other. bytes_eq other name) names

-- a file, or an option with one of these names
abbrev pub is_known : List Text → Text → Bool
is_known names word = is_file word || list_any (λ name. gives name word) names

-- whether an option stands at most once
abbrev pub stands_once : List Text → Text → Bool
stands_once words name = nat_le (count_by (λ word. gives name word) words) 1

-- the words that a command with these options takes
abbrev pub are_words : List Text → List Text → Bool
are_words names words = list_all is_name names && (list_all (λ word. is_known names word) words && list_all (λ name. stands_once words name) names)

-- the files that a parse found, in order
abbrev pub files_in : ArgMatches → List Text
files_in m = unwrap_or (option_map raw_values (matched_of (found_of m) files_id)) []

-- the command
abbrev pub option_rule : Text → Rule
option_rule name = record (new_rule name) { long = Some name; action = Some Set }

abbrev pub files_rule : Rule
files_rule = record (new_rule files_id) { action = Some Append }

abbrev pub app_with : List Rule → App
app_with rules = record {
  top = record (new_shape (codes "simlod")) { rules = rules; no_binary_name = true; disable_help_flag = true };
  subs = [];
}

abbrev pub words_app : List Text → App
words_app names = app_with (map option_rule names ++ files_rule ∷ [])
