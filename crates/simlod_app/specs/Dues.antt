-- What the parts of a run answer, beside what is due: the value or the refusal of the definitions, or want of memory.
use Rattle.std.specs.Prelude.{◌≡◌, Result, Ok, Err, ⊤}
use Rattle.run_report.specs.declared.fault.Fault.{Fault}
use Rattle.run_report.specs.declared.fault.Fault.TheVariants.{Output, NoFile, ReadFault, Memory}
use Rattle.run_words.specs.Commands.{Text}

-- a refusal is the one that is due, or want of memory; a failed read comes where Fails says so, and a missing file only where Misses holds
abbrev pub IsDue : {Y : Type 0} → (Text → Type 0) → Type 0 → Result Y Fault → Fault → Type 0
IsDue Fails Misses due Memory = ⊤
IsDue Fails Misses due Output = ⊥
IsDue Fails Misses due (ReadFault name) = Fails name
IsDue Fails Misses due (NoFile name) = Misses × (due ≡ Err (NoFile name))
IsDue Fails Misses due fault = due ≡ Err fault

-- what was answered, seen by a view, is what is due
abbrev pub GivesOver : {X Y : Type 0} → (Text → Type 0) → Type 0 → (X → Y) → Result X Fault → Result Y Fault → Type 0
GivesOver Fails Misses view (Ok x) due = due ≡ Ok (view x)
GivesOver Fails Misses view (Err fault) due = IsDue Fails Misses due fault

-- the same where no inputs are touched
abbrev pub Gives : {X Y : Type 0} → (X → Y) → Result X Fault → Result Y Fault → Type 0
Gives view found due = GivesOver (λ name. ⊥) ⊥ view found due
