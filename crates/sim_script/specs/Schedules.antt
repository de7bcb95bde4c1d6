-- The steps of a schedule, or its first bad word.
use Rattle.std.specs.Prelude.{◌≡◌, ⊤, ℕ, ◌-◌, List, [], ◌∷◌, length, Option, Some, None, Result, Ok, Err, if◌then◌else◌}
use Rattle.std.specs.List.{flat_map}
use Rattle.std.specs.Option.{option_map_or}
use Rattle.sim_script.specs.Words.{Word, words}
use Rattle.sim_script.specs.Turns.{turns_of, fits, steps_of}
use Rattle.sim_script.specs.declared.reader.ScheduleFault.{ScheduleFault}
use Rattle.sim_script.specs.declared.reader.ScheduleFault.TheVariants.{Byte, Memory}

-- the steps of a word; none of a word that is no turns
abbrev pub steps_in : Word → List ℕ
steps_in w = option_map_or steps_of (turns_of w.text) []

-- the place of the first word that does not fit, where all that do may have so many steps together
abbrev pub first_bad : ℕ → List Word → Option ℕ
first_bad most [] = None
first_bad most (w ∷ ws) = if fits most w.text then first_bad (most - length (steps_in w)) ws else Some w.at

-- the steps of words, unless one of them is bad
abbrev pub steps_unless : Option ℕ → List Word → Result (List ℕ) ScheduleFault
steps_unless None ws = Ok (flat_map steps_in ws)
steps_unless (Some at) ws = Err (Byte at)

-- the steps of a schedule, or its first bad word
unfoldable pub schedule : List ℕ → Result (List ℕ) ScheduleFault
schedule bytes = steps_unless (first_bad 1000000 (words bytes)) (words bytes)

-- what a fault says of a text: want of memory says nothing
abbrev pub IsFault : List ℕ → ScheduleFault → Type 0
IsFault bytes Memory = ⊤
IsFault bytes fault = schedule bytes ≡ Err fault
