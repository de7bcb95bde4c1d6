use Rattle.std.proofs.Common.{◌≡◌, ◌∙◌, w32, to_z, of_z, rules}
use Rattle.run_words.specs.Numbers.{is_number, whole}
use Rattle.run_words.proofs.Numerals.{is_some-choice}
use Rattle.run_words.proofs.number.is_whole.Goals as goal

pub returns : goal.returns
returns c =
    let low : to_z w32 (of_z w32 c.args.low) ≡ c.args.low = search rules in
    let high : to_z w32 (of_z w32 c.args.high) ≡ c.args.high = search rules in
    let read = rw (low, high) at c.whole.ensures in
    c.is_some.ensures ∙ is_some-choice c.whole.result (is_number c.args.low c.args.high c.args.text.now) (whole c.args.text.now) read
