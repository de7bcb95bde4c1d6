-- The job of a command line.
use Rattle.std.specs.Prelude.{ℕ, ◌+◌, ◌*◌, List, [], ◌∷◌, Bool, true, false, ◌&&◌, nat_lt, Option, Some, None, Result, Ok, Err, if◌then◌else◌, position}
use Rattle.std.specs.Option.{option_map_or}
use Rattle.run_words.specs.Commands.{Text, command_of}
use Rattle.run_words.specs.Screens.{is_stray, suits, first_unfit}
use Rattle.run_words.specs.Values.{JobValue, job_of}
use Rattle.run_words.specs.declared.command.CommandName.{CommandName}
use Rattle.run_words.specs.declared.command.CommandName.TheVariants.{Replay, Live}
use Rattle.run_words.specs.declared.words.WordsFault.{WordsFault}
use Rattle.run_words.specs.declared.words.WordsFault.TheVariants.{Command, Word, Options, Value, Pixels}

-- the pixels of all frames of a job's viewers and of the last frame
abbrev pub pixels : JobValue → ℕ
pixels j = (j.viewers * j.frames + 1) * j.size.0 * j.size.1

-- the commands that show frames while they load
abbrev pub shows_frames : CommandName → Bool
shows_frames Replay = true
shows_frames Live = true
shows_frames _ = false

-- the first refusal of the values of words that suit a command: one that is not of its form, or too many pixels
abbrev pub value_refusal : CommandName → List Text → Option WordsFault
value_refusal command words = option_map_or (λ name. Some (Value name)) (first_unfit words)
    (if shows_frames command && nat_lt 50000000 (pixels (job_of command words)) then Some (Pixels (pixels (job_of command words))) else None)

-- the first refusal that applies to the words after a command, if one does
abbrev pub refusal : CommandName → List Text → Option WordsFault
refusal command words = option_map_or (λ at. Some (Word (at + 2)))
    (position (λ word. is_stray word) words)
    (if suits command words then value_refusal command words else Some Options)

-- the job of words, or why they have none
abbrev pub job : List Text → Result JobValue WordsFault
job [] = Err Command
job (first ∷ words) = option_map_or (λ command. option_map_or Err (refusal command words) (Ok (job_of command words))) (command_of first) (Err Command)
