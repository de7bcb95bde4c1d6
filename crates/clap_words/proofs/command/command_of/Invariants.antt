use Rattle.std.proofs.Common.{◌≡◌, map, take}
use Rattle.clap.specs.Simple.{app_of}
use Rattle.clap_words.specs.Words.{app_with, option_rule}
use Rattle.clap_words.proofs.command.command_of.Given as goal

abbrev pub invariant-loop-name : goal.invariant-loop-name
invariant-loop-name l = app_of l.command ≡ app_with (map option_rule (map (λ s. s.now) (take l.name-index l.names)))
