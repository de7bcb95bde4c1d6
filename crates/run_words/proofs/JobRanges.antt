-- The ranges of a job's numbers.
use Rattle.std.proofs.Common.{◌≡◌, ℕ, ◌<◌, true, List, length, lit<, lit≤, arith, codes, refl}
use Rattle.std.specs.List.{list_all}
use Rattle.std.specs.Prelude.{ℤ, pos, ◌-ℤ◌, int_le, int_lt, ◌&&◌, ◌==◌, map, ◌∷◌, IfSome, Option, Some, None, option_map, []}
use Rattle.std.specs.Option.{option_map_or}
use Rattle.run_words.specs.Commands.{Text}
use Rattle.run_words.specs.Numbers.{natural, whole, is_numeral, is_number, pieces, piece}
use Rattle.run_words.specs.Forms.{are_numbers, is_seed_and_count}
use Rattle.run_words.specs.Options.{options}
use Rattle.clap_words.specs.Words.{value_of}
use Rattle.run_words.specs.Screens.{first_unfit}
use Rattle.run_words.specs.Values.{pair_of, is_direction, IsBetween, HasRanges, job_of}
use Rattle.run_words.specs.declared.command.CommandName.{CommandName}
use Rattle.run_words.proofs.Fits.{fit_row}
use Rattle.run_words.proofs.Lists.{both, passes_at, numbers_count}
use Rattle.run_words.proofs.Ranges.{natural_within, number_within}

some_within : (low high : ℕ) (o : Option Text) → option_map_or (λ text. is_number (pos low) (pos high) text) o true ≡ true → IfSome (option_map natural o) (λ n. IsBetween low high n)
some_within low high None fit = tt
some_within low high (Some text) fit = natural_within low high text fit

piece_within : (low high : ℕ) (text : Text) (count k : ℕ) → are_numbers count (pos low) (pos high) text ≡ true → k < count → IsBetween low high (natural (piece text k))
piece_within low high text count k are within =
    let n = numbers_count count (pos low) (pos high) text are in
    let inside : k < length (pieces text) = omega arith in
    natural_within low high (piece text k) (passes_at (λ number. is_number (pos low) (pos high) number) (pieces text) k [] (both _ _ are).1 inside)

first_within : (low high default other : ℕ) (o : Option Text) → IsBetween low high default → option_map_or (λ text. are_numbers 2 (pos low) (pos high) text) o true ≡ true → IsBetween low high (option_map_or pair_of o (default, other)).0
first_within low high default other None within fit = within
first_within low high default other (Some text) within fit = piece_within low high text 2 0 fit (lit< tt)

second_within : (low high other default : ℕ) (o : Option Text) → IsBetween low high default → option_map_or (λ text. are_numbers 2 (pos low) (pos high) text) o true ≡ true → IsBetween low high (option_map_or pair_of o (other, default)).1
second_within low high other default None within fit = within
second_within low high other default (Some text) within fit = piece_within low high text 2 1 fit (lit< tt)

count_within : (most : ℕ) (o : Option Text) → option_map_or (λ text. is_seed_and_count (pos most) text) o true ≡ true → IfSome (option_map pair_of o) (λ g. IsBetween 1 most g.1)
count_within most None fit = tt
count_within most (Some text) fit = natural_within 1 most (piece text 1) (both _ _ fit).1

-- a number of a range lies in it
direction_within : (low high : ℤ) (text : Text) → is_number low high text ≡ true → (int_le low (whole text) && int_le (whole text) high) ≡ true
direction_within low high text is =
    let below = both (is_numeral (int_lt low (pos 0)) text && int_le low (whole text)) (int_le (whole text) high) is in
    let above = both (is_numeral (int_lt low (pos 0)) text) (int_le low (whole text)) below.0 in
    λ i. above.1 i && below.1 i

directions_within : (low high : ℤ) (texts : List Text) → list_all (λ text. is_number low high text) texts ≡ true → list_all (λ n. int_le low n && int_le n high) (map whole texts) ≡ true
directions_within low high [] are = refl
directions_within low high (text ∷ texts) are =
    let parts = both (is_number low high text) (list_all (λ t. is_number low high t) texts) are in
    λ i. direction_within low high text parts.0 i && directions_within low high texts parts.1 i

-- so do the numbers of a list, or those that are there without one
rows_within : (default : List ℤ) (o : Option Text) → list_all is_direction default ≡ true → option_map_or (λ text. are_numbers 9 (pos 0 -ℤ pos 1024) (pos 1024) text) o true ≡ true
    → list_all is_direction (option_map_or (λ text. map whole (pieces text)) o default) ≡ true
rows_within default None within fit = within
rows_within default (Some text) within fit =
    directions_within (pos 0 -ℤ pos 1024) (pos 1024) (pieces text) (both (length (pieces text) == 9) (list_all (λ t. is_number (pos 0 -ℤ pos 1024) (pos 1024) t) (pieces text)) fit).1

-- the numbers of a job lie in their ranges where every value fits
pub has_ranges : (command : CommandName) (words : List Text) → first_unfit words ≡ None → HasRanges (job_of command words)
unfolding job_of options
has_ranges command words none = record {
  leaf = number_within 1 50000 50000 (codes "leaf") words (lit≤ tt) (lit≤ tt) (fit_row words 1 none (lit< tt));
  nodes = number_within 1 200000 20000 (codes "nodes") words (lit≤ tt) (lit≤ tt) (fit_row words 2 none (lit< tt));
  points = number_within 1 10000000 10000000 (codes "points") words (lit≤ tt) (lit≤ tt) (fit_row words 3 none (lit< tt));
  batch = number_within 1 50000 50000 (codes "batch") words (lit≤ tt) (lit≤ tt) (fit_row words 5 none (lit< tt));
  decimals = number_within 0 9 3 (codes "decimals") words (lit≤ tt) (lit≤ tt) (fit_row words 6 none (lit< tt));
  rows = rows_within _ (value_of (codes "rows") words) refl (fit_row words 10 none (lit< tt));
  focal = number_within 1 65536 256 (codes "focal") words (lit≤ tt) (lit≤ tt) (fit_row words 11 none (lit< tt));
  near = number_within 1 1000000000 1 (codes "near") words (lit≤ tt) (lit≤ tt) (fit_row words 12 none (lit< tt));
  threshold = number_within 1 65536 128 (codes "threshold") words (lit≤ tt) (lit≤ tt) (fit_row words 14 none (lit< tt));
  dot = number_within 1 64 1 (codes "dot") words (lit≤ tt) (lit≤ tt) (fit_row words 15 none (lit< tt));
  loaders = number_within 1 16 2 (codes "loaders") words (lit≤ tt) (lit≤ tt) (fit_row words 16 none (lit< tt));
  viewers = number_within 1 16 1 (codes "viewers") words (lit≤ tt) (lit≤ tt) (fit_row words 17 none (lit< tt));
  frames = number_within 1 100 2 (codes "frames") words (lit≤ tt) (lit≤ tt) (fit_row words 18 none (lit< tt));
  count = number_within 1 10000000 400000 (codes "count") words (lit≤ tt) (lit≤ tt) (fit_row words 22 none (lit< tt));
  chunks = some_within 1 1000000 (value_of (codes "chunks") words) (fit_row words 4 none (lit< tt));
  width = first_within 1 4096 256 256 (value_of (codes "size") words) (lit≤ tt, lit≤ tt) (fit_row words 13 none (lit< tt));
  height = second_within 1 4096 256 256 (value_of (codes "size") words) (lit≤ tt, lit≤ tt) (fit_row words 13 none (lit< tt));
  generate = count_within 10000000 (value_of (codes "generate") words) (fit_row words 20 none (lit< tt));
}
