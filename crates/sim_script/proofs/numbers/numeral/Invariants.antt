use Rattle.sim_script.proofs.NumberLaws.{AreDigits}
use Rattle.sim_script.proofs.numbers.numeral.Given as goal

abbrev pub invariant-loop-byte : goal.invariant-loop-byte
invariant-loop-byte l = AreDigits l.text l.byte-index l.value
