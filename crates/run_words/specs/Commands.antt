-- The commands and their words.
use Rattle.std.specs.Prelude.{ℕ, List, [], ◌∷◌, Bool, Option, option_map, nat_eq, find, codes}
use Rattle.std.specs.Str.{bytes_eq}
use Rattle.run_words.specs.declared.command.CommandName.{CommandName}
use Rattle.run_words.specs.declared.command.CommandName.TheVariants.{Nodes, Bounds, Image, Replay, Demo, Live}

-- a word, as its bytes
abbrev pub Text : Type 0
Text = List ℕ

-- each command's word
abbrev pub commands : List (Text × CommandName)
commands =
    (codes "nodes", Nodes) ∷ (codes "bounds", Bounds) ∷ (codes "image", Image) ∷ (codes "replay", Replay) ∷ (codes "demo", Demo) ∷ (codes "live", Live) ∷ []

-- the command of a word, if there is one
abbrev pub command_of : Text → Option CommandName
command_of word = option_map (λ row. row.1) (find (λ row. bytes_eq row.0 word) commands)

-- the commands, numbered
abbrev pub number_of : CommandName → ℕ
number_of Nodes = 0
number_of Bounds = 1
number_of Image = 2
number_of Replay = 3
number_of Demo = 4
number_of Live = 5

-- whether two commands are the same
abbrev pub is_same : CommandName → CommandName → Bool
is_same a b = nat_eq (number_of a) (number_of b)
