-- What a word of a schedule stands for.
use Rattle.std.specs.Prelude.{ℕ, ◌+◌, ◌==◌, nat_le, Bool, false, ◌&&◌, List, length, replicate, take, drop, position, Option, Some, None, option_map, option_and_then, if◌then◌else◌}
use Rattle.std.specs.Char.{is_ascii_digit}
use Rattle.std.specs.Option.{option_map_or}
use Rattle.std.specs.List.{list_all}
use Rattle.std.specs.Str.Parse.{digits_value}
use Rattle.sim_script.specs.declared.turns.Turns.{Turns}

-- one to `most` decimal digits
abbrev pub is_numeral : ℕ → List ℕ → Bool
is_numeral most text = nat_le 1 (length text) && nat_le (length text) most && list_all is_ascii_digit text

-- the number of such a text, from low to high
abbrev pub number_within : ℕ → ℕ → ℕ → List ℕ → Option ℕ
number_within most low high text =
    if is_numeral most text && nat_le low (digits_value 10 text) && nat_le (digits_value 10 text) high then Some (digits_value 10 text) else None

-- an actor: one or two digits, at most 31
abbrev pub actor : List ℕ → Option ℕ
actor text = number_within 2 0 31 text

-- a count: one to seven digits, from 1 to 1,000,000
abbrev pub count : List ℕ → Option ℕ
count text = number_within 7 1 1000000 text

-- the letter x
abbrev pub is_cross : ℕ → Bool
is_cross byte = byte == 120

-- a word without an x is an actor, for one step; else an actor stands before the first x, and a count behind it
abbrev pub turns_by : List ℕ → Option ℕ → Option Turns
turns_by word None = option_map (λ a. record { actor = a; count = 1 }) (actor word)
turns_by word (Some k) = option_and_then (λ a. option_map (λ n. record { actor = a; count = n }) (count (drop (k + 1) word))) (actor (take k word))

-- the turns of a word, if it is any
abbrev pub turns_of : List ℕ → Option Turns
turns_of word = turns_by word (position is_cross word)

-- whether a word is turns, of so many steps at most
abbrev pub fits : ℕ → List ℕ → Bool
fits most word = option_map_or (λ (turns : Turns). nat_le turns.count most) (turns_of word) false

-- the steps of turns: the actor as often as they count
abbrev pub steps_of : Turns → List ℕ
steps_of turns = replicate turns.count turns.actor
