-- The options: one row each, in the order in which their values are tested.
use Rattle.std.specs.Prelude.{ℕ, pos, ◌-ℤ◌, ◌-◌, ◌^◌, List, [], ◌∷◌, Bool, true, false, codes}
use Rattle.run_words.specs.Commands.{Text}
use Rattle.run_words.specs.declared.command.CommandName.{CommandName}
use Rattle.run_words.specs.declared.command.CommandName.TheVariants.{Nodes, Bounds, Image, Replay, Demo, Live}
use Rattle.run_words.specs.declared.form.Form.{Form}
use Rattle.run_words.specs.declared.form.Form.TheVariants.{Number, Numbers, CubePlace, HighOrLow, YesOrNo, FileName, Seed, SeedAndCount}
use Rattle.run_words.specs.declared.option.OptionName.{OptionName}
use Rattle.run_words.specs.declared.option.OptionName.TheVariants as name
use Rattle.run_words.specs.declared.option.OptionRow.{OptionRow}

-- the word of each option
abbrev pub option_word : OptionName → Text
option_word name.Cube = codes "cube"
option_word name.Leaf = codes "leaf"
option_word name.Nodes = codes "nodes"
option_word name.Points = codes "points"
option_word name.Chunks = codes "chunks"
option_word name.Batch = codes "batch"
option_word name.Decimals = codes "decimals"
option_word name.Rgb = codes "rgb"
option_word name.Voxels = codes "voxels"
option_word name.Pos = codes "pos"
option_word name.Rows = codes "rows"
option_word name.Focal = codes "focal"
option_word name.Near = codes "near"
option_word name.Size = codes "size"
option_word name.Threshold = codes "threshold"
option_word name.Dot = codes "dot"
option_word name.Loaders = codes "loaders"
option_word name.Viewers = codes "viewers"
option_word name.Frames = codes "frames"
option_word name.Schedule = codes "schedule"
option_word name.Generate = codes "generate"
option_word name.Seed = codes "seed"
option_word name.Count = codes "count"

-- an option: its name, its word, the commands that take it, its form, and whether they require it
pub record OptionRowValue : Type 0 where
  pub name : OptionName
  pub word : Text
  pub commands : List CommandName
  pub form : Form
  pub required : Bool

-- a row of the code, as contracts see it
abbrev pub row_value : OptionRow → OptionRowValue
row_value row = record { name = row.name; word = row.word.now; commands = row.commands.now; form = row.form; required = row.required }

-- an option that no command requires
abbrev pub optional : OptionName → List CommandName → Form → OptionRowValue
optional name commands form = record { name = name; word = option_word name; commands = commands; form = form; required = false }

-- an option that its commands require
abbrev pub needed : OptionName → List CommandName → Form → OptionRowValue
needed name commands form = record { name = name; word = option_word name; commands = commands; form = form; required = true }

-- one number in a range
abbrev pub one : ℕ → ℕ → Form
one low high = Number (pos low) (pos high)

-- the table
unfoldable pub options : List OptionRowValue
options =
    optional name.Cube (Nodes ∷ Image ∷ Replay ∷ Live ∷ []) CubePlace
    ∷ optional name.Leaf (Nodes ∷ Image ∷ Replay ∷ Demo ∷ Live ∷ []) (one 1 50000)
    ∷ optional name.Nodes (Nodes ∷ Image ∷ Replay ∷ Demo ∷ Live ∷ []) (one 1 200000)
    ∷ optional name.Points (Nodes ∷ Image ∷ Replay ∷ Demo ∷ Live ∷ []) (one 1 10000000)
    ∷ optional name.Chunks (Replay ∷ Live ∷ []) (one 1 1000000)
    ∷ optional name.Batch (Nodes ∷ Image ∷ Replay ∷ Demo ∷ Live ∷ []) (one 1 50000)
    ∷ optional name.Decimals (Nodes ∷ Bounds ∷ Image ∷ Replay ∷ Live ∷ []) (one 0 9)
    ∷ optional name.Rgb (Nodes ∷ Bounds ∷ Image ∷ Replay ∷ Live ∷ []) HighOrLow
    ∷ optional name.Voxels (Nodes ∷ []) YesOrNo
    ∷ optional name.Pos (Image ∷ Replay ∷ Live ∷ []) (Numbers 3 (pos 0 -ℤ pos (2 ^ 31)) (pos (2 ^ 31 - 1)))
    ∷ optional name.Rows (Image ∷ Replay ∷ Live ∷ []) (Numbers 9 (pos 0 -ℤ pos 1024) (pos 1024))
    ∷ optional name.Focal (Image ∷ Replay ∷ Live ∷ []) (one 1 65536)
    ∷ optional name.Near (Image ∷ Replay ∷ Live ∷ []) (one 1 1000000000)
    ∷ optional name.Size (Image ∷ Replay ∷ Live ∷ []) (Numbers 2 (pos 1) (pos 4096))
    ∷ optional name.Threshold (Image ∷ Replay ∷ Live ∷ []) (one 1 65536)
    ∷ optional name.Dot (Image ∷ Replay ∷ Live ∷ []) (one 1 64)
    ∷ optional name.Loaders (Replay ∷ Live ∷ []) (one 1 16)
    ∷ optional name.Viewers (Replay ∷ Live ∷ []) (one 1 16)
    ∷ optional name.Frames (Replay ∷ Live ∷ []) (one 1 100)
    ∷ needed name.Schedule (Replay ∷ []) FileName
    ∷ optional name.Generate (Live ∷ []) (SeedAndCount (pos 10000000))
    ∷ optional name.Seed (Demo ∷ []) Seed
    ∷ optional name.Count (Demo ∷ []) (one 1 10000000)
    ∷ []
