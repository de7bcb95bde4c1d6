use Rattle.std.proofs.Common.{rules, ◌≡◌, ◌∙◌, List, ap, sym, map, string_bytes, true}
use Rattle.clap_words.specs.Words.{are_words}
use Rattle.run_words.specs.Commands.{Text}
use Rattle.run_words.specs.Screens.{names_of}
use Rattle.run_words.proofs.Taken.{suited}
use Rattle.run_words.proofs.words.read_rest.Goals as goal

pub read-requires : goal.read-requires
read-requires c =
    let words : List Text = map string_bytes c.args.words.now in
    let names_are : map (λ s. s.now) c.as_slice.result.now ≡ names_of c.args.command = ap (map (λ s. s.now)) c.as_slice.ensures.value ∙ c.in_ok-names.ensures in
    let suit : c.suits.result ≡ true = search rules in
    ap (λ (names : List Text). are_words names words) names_are ∙ suited c.args.command words (sym c.suits.ensures ∙ suit)
