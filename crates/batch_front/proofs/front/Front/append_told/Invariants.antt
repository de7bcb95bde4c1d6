use Rattle.std.specs.Prelude.{option_map}
use Rattle.record_model.specs.Records.{event_of}
use Rattle.batch_front.proofs.front.Front.append_told.Given as goal

abbrev pub ghosts-commit : goal.ghosts-commit
ghosts-commit g a = record { event = event_of a.act (option_map (λ b. b.value) a.batch) }
