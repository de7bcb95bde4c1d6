-- The command of these words, as it is built.
use Rattle.std.proofs.Common.{◌≡◌, ◌∙◌, ◌++◌, ◌∷◌, ◌&&◌, ◌||◌, Bool, cond, not, true, false, refl, sym, ap, ap₂, arith, List, [], map, Some, is_some, true≢false, codes}
use Rattle.std.specs.Prelude.{count_by}
use Rattle.std.specs.List.{list_any, list_all}
use Rattle.std.specs.Str.{bytes_eq}
use Rattle.clap.specs.Walk.{Row, Rule, arg_by_id, arg_by_index, arg_by_long, is_early_multiple}
use Rattle.clap.specs.Simple.{App, Shape, built, filled, filled_from, is_in_order, is_simple, new_shape, with_index}
use Rattle.clap.specs.Takes.{default_passes, is_given, is_valid}
use Rattle.clap.proofs.WalkLemmas.{both}
use Rattle.clap.proofs.SimpleLemmas.{is_false}
use Rattle.clap_words.specs.Words.{Text, files_id, files_rule, is_among, is_name, option_rule, words_app}
use Rattle.clap_words.proofs.Rows.{same_text}

abbrev pub built_option : Text → Rule
built_option name = filled (option_rule name)

abbrev pub built_files : Rule
built_files = with_index 1 (filled files_rule)

abbrev pub rules : List Text → List Rule
rules names = map built_option names ++ built_files ∷ []

abbrev pub shape_with : List Rule → Shape
shape_with rs = record (new_shape (codes "simlod")) {
  rules = rs;
  no_binary_name = true;
  disable_help_flag = true;
  disable_help_subcommand = true;
  is_built = true;
}

abbrev pub built_with : List Rule → App
built_with rs = record { top = shape_with rs; subs = [] }

pub built_rules : (names : List Text) → filled_from 1 (map option_rule names ++ files_rule ∷ []) ≡ rules names
built_rules [] = refl
built_rules (n ∷ ns) = ap (λ rs. built_option n ∷ rs) (built_rules ns)

pub built_app : (names : List Text) → built (words_app names) ≡ built_with (rules names)
built_app names = ap built_with (built_rules names)

all_simple : (names : List Text) → list_all (λ (a : Rule). a.is_simple) (map option_rule names ++ files_rule ∷ []) ≡ true
all_simple [] = refl
all_simple (n ∷ ns) = all_simple ns

built_simple : (names : List Text) → list_all (λ (a : Rule). a.is_simple) (rules names) ≡ true
built_simple [] = refl
built_simple (n ∷ ns) = built_simple ns

one_place : (names : List Text) → count_by (λ (a : Rule). is_some a.index) (rules names) ≡ 1
one_place [] = refl
one_place (n ∷ ns) = omega (arith, one_place ns)

none_early : (names : List Text) → list_any (is_early_multiple 1) (rules names) ≡ false
none_early [] = refl
none_early (n ∷ ns) = none_early ns

in_order : (names : List Text) → is_in_order (rules names) ≡ true
in_order names = ap (λ k. not (list_any (is_early_multiple k) (rules names))) (one_place names) ∙ ap not (none_early names)

pub simple : (names : List Text) → is_simple (words_app names) ≡ true
simple names =
    let ready : (list_all (λ (a : Rule). a.is_simple) (rules names) && is_in_order (rules names)) ≡ true = ap₂ (λ a b. a && b) (built_simple names) (in_order names) in
    let built_ready : ((list_all (λ (a : Rule). a.is_simple) (filled_from 1 (map option_rule names ++ files_rule ∷ [])) && is_in_order (filled_from 1 (map option_rule names ++ files_rule ∷ []))) ≡ true) =
    ap (λ rs. list_all (λ (a : Rule). a.is_simple) rs && is_in_order rs) (built_rules names) ∙ ready in
    ap₂ (λ a b. (a && true) && (b && true)) (all_simple names) built_ready

-- ---- which rule a word finds

pub by_long : (names : List Text) (name : Text) → is_among name names ≡ true → arg_by_long (rules names) name ≡ Some (built_option name)
by_long [] name e = absurd (true≢false (sym e))
by_long (n ∷ ns) name e = go (bytes_eq n name) refl e (by_long ns name)
  where
    go : (b : Bool) → bytes_eq n name ≡ b → (b || is_among name ns) ≡ true → (is_among name ns ≡ true → arg_by_long (rules ns) name ≡ Some (built_option name))
        → cond (b || false) (Some (built_option n)) (arg_by_long (rules ns) name) ≡ Some (built_option name)
    go true same f rest = ap (λ t. Some (built_option t)) (same_text n name same)
    go false same f rest = rest f

pub by_id : (names : List Text) → list_all is_name names ≡ true → arg_by_id (rules names) files_id ≡ Some built_files
by_id [] all = refl
by_id (n ∷ ns) all =
    let other : bytes_eq n files_id ≡ false = is_false _ (both _ _ (both _ _ all).0).1 in
    rw other (by_id ns (both _ _ all).1)

pub by_index : (names : List Text) → arg_by_index (rules names) 1 ≡ Some built_files
by_index [] = refl
by_index (n ∷ ns) = by_index ns

-- ---- after the walk

pub defaults : (names : List Text) → list_all default_passes (rules names) ≡ true
defaults [] = refl
defaults (n ∷ ns) = defaults ns

all_free : (names : List Text) → list_all (λ (a : Rule). a.is_free) (rules names) ≡ true
all_free [] = refl
all_free (n ∷ ns) = all_free ns

none_required : (names : List Text) (rows : List Row) → list_all (λ (a : Rule). not a.required || is_given a.id rows) (rules names) ≡ true
none_required [] rows = refl
none_required (n ∷ ns) rows = none_required ns rows

pub valid : (names : List Text) (rows : List Row) → is_valid (shape_with (rules names)) rows false ≡ true
valid names rows = ap₂ (λ a b. a && b) (all_free names) (none_required names rows)
