use Rattle.std.proofs.Common.{lit<, codes}
use Rattle.std.proofs.lemmas.Str.Pattern.{strip_prefix_char}
use Rattle.run_words.proofs.Starts.{behind, other_name, option_value}
use Rattle.run_words.proofs.screen.value.Goals as goal

pub returns-in_err-strip_prefix-2 : goal.returns-in_err-strip_prefix-2
returns-in_err-strip_prefix-2 c =
    let dashes = c.in_ok-strip_prefix.ensures.cases in
    let is = behind c.args.word.now (codes "--") c.in_ok-strip_prefix.field-0.now _ dashes.1.1 dashes.2 in
    rw c.from_residual-in_err-strip_prefix-2.ensures (other_name c.args.word.now _ c.args.name.now is c.in_err-strip_prefix-2.ensures.cases)

pub returns : goal.returns
returns c =
    let dashes = c.in_ok-strip_prefix.ensures.cases in
    let named = c.in_ok-strip_prefix-2.ensures.cases in
    let is = behind c.args.word.now (codes "--") c.in_ok-strip_prefix.field-0.now _ dashes.1.1 dashes.2 in
    let name = behind c.in_ok-strip_prefix.field-0.now c.args.name.now c.in_ok-strip_prefix-2.field-0.now _ named.1.1 named.2 in
    option_value c.args.word.now _ _ c.args.name.now c.strip_prefix-3.result is name (strip_prefix_char 61 c.in_ok-strip_prefix-2.field-0.now c.strip_prefix-3.result c.strip_prefix-3.ensures.cases (lit< tt))
