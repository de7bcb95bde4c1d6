use Rattle.std.proofs.Common.{rules, ◌≡◌, ◌∙◌, ◌∷◌, ◌+◌, ◌<◌, ℕ, List, [], ap, ap₂, sym, map, take, length, get_or}
use Rattle.std.specs.Borrow.{Bor}
use Rattle.std.proofs.lemmas.List.{map-append, take_more}
use Rattle.clap.specs.Walk.{Rule, rule_of}
use Rattle.clap.specs.Simple.{with_rule}
use Rattle.clap_words.specs.Words.{Text, app_with, option_rule}
use Rattle.clap_words.proofs.command.command_of.Goals as goal

abbrev rules_for : List (Bor Text) → List Rule
rules_for names = map option_rule (map (λ s. s.now) names)

-- the command with one more option
more_rules : (names : List (Bor Text)) (i : ℕ) (d : Bor Text) → i < length names
    → with_rule (app_with (rules_for (take i names))) (option_rule (get_or names i d).now) ≡ app_with (rules_for (take (i + 1) names))
more_rules names i d lt =
    let texts = map-append (λ (s : Bor Text). s.now) (take i names) (get_or names i d ∷ []) in
    let rows = map-append option_rule (map (λ (s : Bor Text). s.now) (take i names)) ((get_or names i d).now ∷ []) in
    ap app_with (sym (ap rules_for (take_more names i d lt) ∙ ap (map option_rule) texts ∙ rows))

pub loop-name-preserved : goal.loop-name-preserved
loop-name-preserved c =
    let option_is : rule_of c.action-option.result ≡ option_rule (get_or c.args.names.now c.loop-name.name-index (record { ref_ptr = (0, 0); now = [] })).now = search rules in
    c.in_ok-command.ensures.shape (search rules) ∙ ap₂ with_rule c.loop-name.invariant option_is
    ∙ more_rules c.args.names.now c.loop-name.name-index _ c.loop-name-test.true
