-- The top bit is set, and the rest stays.
use Rattle.list_machine.proofs.Bits.{decode-or_high}
use Rattle.list_machine.proofs.words.shut.Goals as goal

pub returns : goal.returns
returns c = decode-or_high c.args.word c.ranges.word
