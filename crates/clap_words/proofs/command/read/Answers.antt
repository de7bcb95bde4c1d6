use Rattle.std.proofs.Common.{◌∙◌, List, ap, map, string_bytes, subst}
use Rattle.std.proofs.lemmas.Result.{IfErr-weaker, IfOk-weaker}
use Rattle.clap.specs.Simple.{App, HasMatchesOf}
use Rattle.clap.specs.Takes.{takes}
use Rattle.clap_words.specs.Words.{Text}
use Rattle.clap_words.proofs.Claims.{files_read, value_read, words_pass}
use Rattle.clap_words.proofs.command.read.Goals as goal

pub returns-clause-memory : goal.returns-clause-memory
returns-clause-memory c =
    let names : List Text = map (λ s. s.now) c.args.names.now in
    let words : List Text = map string_bytes c.args.words.now in
    let parse = c.try_get_matches_from in
    IfErr-weaker parse.result _ _ (λ e h. h (ap (λ (a : App). takes a words) c.in_ok-command.ensures ∙ words_pass names words c.requires)) parse.ensures.passes

pub returns-clause-values : goal.returns-clause-values
returns-clause-values c =
    let names : List Text = map (λ s. s.now) c.args.names.now in
    let words : List Text = map string_bytes c.args.words.now in
    let parse = c.try_get_matches_from in
    IfOk-weaker parse.result _ _ (λ m h name among. value_read names words c.requires m (subst (λ (a : App). HasMatchesOf a words m) c.in_ok-command.ensures h) name among) parse.ensures.matches

pub returns-clause-files : goal.returns-clause-files
returns-clause-files c =
    let names : List Text = map (λ s. s.now) c.args.names.now in
    let words : List Text = map string_bytes c.args.words.now in
    let parse = c.try_get_matches_from in
    IfOk-weaker parse.result _ _ (λ m h. files_read names words c.requires m (subst (λ (a : App). HasMatchesOf a words m) c.in_ok-command.ensures h)) parse.ensures.matches
