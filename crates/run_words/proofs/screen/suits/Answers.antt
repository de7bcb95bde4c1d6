use Rattle.std.proofs.Common.{◌≡◌, ◌∙◌, sym, ap, refl, map, ◌&&◌}
use Rattle.std.specs.Prelude.{is_some, string_bytes, codes}
use Rattle.std.specs.List.{list_any}
use Rattle.clap_words.specs.Words.{is_file, value_of}
use Rattle.run_words.specs.Screens.{files_suit}
use Rattle.run_words.proofs.Mapped.{list_any-map}
use Rattle.run_words.proofs.Screening.{all_suit, is_some-option_map}
use Rattle.run_words.proofs.screen.suits.Goals as goal

pub returns : goal.returns
returns c =
    let texts = map string_bytes c.args.words.now in
    let generated : c.is_some-generated.result ≡ is_some (value_of (codes "generate") texts) = c.is_some-generated.ensures ∙ sym (is_some-option_map (λ x. x.now) c.value_of.result) ∙ ap is_some c.value_of.ensures in
    let files : c.has_file.result ≡ list_any (λ word. is_file word) texts = c.has_file.ensures ∙ sym (list_any-map (λ word. string_bytes word) (λ word. is_file word) c.args.words.now) in
    let suit : c.files_suit.result ≡ files_suit c.args.command (list_any (λ word. is_file word) texts) (is_some (value_of (codes "generate") texts)) = c.files_suit.ensures ∙ rw (files, generated) refl in
    rw (c.are_known-known.ensures, c.stand_once-once.ensures, c.are_there-there.ensures, suit) (ap (λ b. b && files_suit c.args.command (list_any (λ word. is_file word) texts) (is_some (value_of (codes "generate") texts))) (all_suit c.options-rows.result.now c.args.command c.args.words.now c.options-rows.ensures))
