-- What the words give where every value fits.
use Rattle.std.proofs.Common.{◌≡◌, ℕ, ◌<◌, Bool, true, false, ◌&&◌, List, [], ◌∷◌, length, refl}
use Rattle.std.specs.Prelude.{ℤ, pos, int_le, int_lt, Option, Some, None, option_map, find, not, if◌then◌else◌, slice_index_or}
use Rattle.std.specs.List.{list_all}
use Rattle.std.specs.Option.{option_map_or}
use Rattle.run_words.specs.Commands.{Text}
use Rattle.run_words.specs.Forms.{fits}
use Rattle.run_words.specs.Options.{options, optional}
use Rattle.clap_words.specs.Words.{value_of}
use Rattle.run_words.specs.Screens.{has_form, is_fit, first_unfit}
use Rattle.run_words.specs.declared.form.Form.TheVariants.{Number, CubePlace}
use Rattle.run_words.specs.declared.option.OptionName.TheVariants as name
use Rattle.run_words.proofs.Lists.{passes_at, wider}

none_here : {X Y : Type 0} (f : X → Y) (x : X) (b : Bool) (rest : Option X) (all : Bool) → (option_map f rest ≡ None → all ≡ true) → option_map f (if not b then Some x else rest) ≡ None → (b && all) ≡ true
none_here f x true rest all later none = later none
none_here f x false rest all later none = cc

-- where nothing is found that fails, all pass
pub none_fails : {X Y : Type 0} (f : X → Y) (test : X → Bool) (xs : List X) → option_map f (find (λ x. not (test x)) xs) ≡ None → list_all test xs ≡ true
none_fails f test [] none = refl
none_fails f test (x ∷ xs) none = none_here f x (test x) (find (λ x. not (test x)) xs) (list_all test xs) (λ later. none_fails f test xs later) none

-- each option's value is of its form
pub fit_row : (words : List Text) (place : ℕ) → first_unfit words ≡ None → place < length options → is_fit words (slice_index_or options place (optional name.Cube [] CubePlace)) ≡ true
fit_row words place none within = passes_at (λ row. is_fit words row) options place _ (none_fails (λ row. row.name) (λ row. is_fit words row) options none) within

wider_or_none : (low high low' high' : ℤ) (o : Option Text) → int_lt low (pos 0) ≡ int_lt low' (pos 0) → int_le low' low ≡ true → int_le high high' ≡ true
    → option_map_or (λ text. fits (Number low high) text) o true ≡ true → option_map_or (λ text. fits (Number low' high') text) o true ≡ true
wider_or_none low high low' high' None signs lower higher fit = refl
wider_or_none low high low' high' (Some text) signs lower higher fit = wider low high low' high' text signs lower higher fit

-- an option's number is one of a wider range
pub wider_form : (low high low' high' : ℤ) (name : Text) (words : List Text) → int_lt low (pos 0) ≡ int_lt low' (pos 0) → int_le low' low ≡ true → int_le high high' ≡ true
    → has_form (Number low high) name words ≡ true → has_form (Number low' high') name words ≡ true
wider_form low high low' high' name words = wider_or_none low high low' high' (value_of name words)
