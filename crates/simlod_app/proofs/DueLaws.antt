-- What is due carries over from one step to the next.
use Rattle.std.proofs.Common.{◌≡◌, Result, Ok, Err, ap, ◌∙◌, refl}
use Rattle.run_report.specs.declared.fault.Fault.{Fault}
use Rattle.run_report.specs.declared.fault.Fault.TheVariants as fault
use Rattle.run_words.specs.Commands.{Text}
use Rattle.simlod_app.specs.Dues.{IsDue, GivesOver, Gives}
use Rattle.simlod_app.specs.Runs.{◌>>=◌}

-- a refusal that is due of one is due of another that has the refusals of the first
pub due_through : {X Y : Type 0} (Fails Fails' : Text → Type 0) (Misses Misses' : Type 0) (due : Result X Fault) (due' : Result Y Fault) (f : Fault)
    → ((name : Text) → Fails name → Fails' name) → (Misses → Misses') → ((e : Fault) → due ≡ Err e → due' ≡ Err e) → IsDue Fails Misses due f → IsDue Fails' Misses' due' f
due_through Fails Fails' Misses Misses' due due' fault.Memory failing missing refused h = tt
due_through Fails Fails' Misses Misses' due due' fault.Output failing missing refused h = absurd h
due_through Fails Fails' Misses Misses' due due' (fault.ReadFault name) failing missing refused h = failing name h
due_through Fails Fails' Misses Misses' due due' (fault.NoFile name) failing missing refused h = (missing h.0, refused (fault.NoFile name) h.1)
due_through Fails Fails' Misses Misses' due due' f failing missing refused h = refused f h

-- what is refused stays refused by later steps
pub due_first : {X Y : Type 0} (Fails : Text → Type 0) (Misses : Type 0) (due : Result X Fault) (next : X → Result Y Fault) (f : Fault) → IsDue Fails Misses due f → IsDue Fails Misses (due >>= next) f
due_first Fails Misses due next f h = due_through Fails Fails Misses Misses due (due >>= next) f (λ name fails. fails) (λ misses. misses) (λ e is. ap (λ r. r >>= next) is) h

-- a refusal that no inputs have to do with
pub due_apart : {Y : Type 0} (Fails : Text → Type 0) (Misses : Type 0) (due : Result Y Fault) (f : Fault) → IsDue (λ name. ⊥) ⊥ due f → IsDue Fails Misses due f
due_apart Fails Misses due f h = due_through (λ name. ⊥) Fails ⊥ Misses due due f (λ name no. absurd no) (λ no. absurd no) (λ e is. is) h

-- the same for values
pub gives_through : {Y Z : Type 0} (Fails Fails' : Text → Type 0) (Misses Misses' : Type 0) (view : Z → Y) (found : Result Z Fault) (due due' : Result Y Fault)
    → ((name : Text) → Fails name → Fails' name) → (Misses → Misses') → due' ≡ due → GivesOver Fails Misses view found due → GivesOver Fails' Misses' view found due'
gives_through Fails Fails' Misses Misses' view (Ok z) due due' failing missing same h = same ∙ h
gives_through Fails Fails' Misses Misses' view (Err f) due due' failing missing same h = due_through Fails Fails' Misses Misses' due due' f failing missing (λ e is. same ∙ is) h

pub gives_apart : {Y Z : Type 0} (Fails : Text → Type 0) (Misses : Type 0) (view : Z → Y) (found : Result Z Fault) (due : Result Y Fault) → Gives view found due → GivesOver Fails Misses view found due
gives_apart Fails Misses view found due h = gives_through (λ name. ⊥) Fails ⊥ Misses view found due due (λ name no. absurd no) (λ no. absurd no) refl h

-- the next step, behind one that gave its value
pub gives_next : {X Y Z : Type 0} (Fails : Text → Type 0) (Misses : Type 0) (view : Z → Y) (due : Result X Fault) (x : X) (next : X → Result Y Fault) (found : Result Z Fault)
    → due ≡ Ok x → GivesOver Fails Misses view found (next x) → GivesOver Fails Misses view found (due >>= next)
gives_next Fails Misses view due x next found is h =
    gives_through Fails Fails Misses Misses view found (next x) (due >>= next) (λ name fails. fails) (λ misses. misses) (ap (λ r. r >>= next) is) h
