-- How a run ends.
use Rattle.std.proofs.Common.{◌≡◌, ◌⊎◌, inl, inr, ℕ, List, Option, Result, Ok, ap, ◌∙◌, sym, refl, subst}
use Rattle.std.specs.Io.KnownBytes.{Appends}
use Rattle.cloud_io.specs.Counts.{Rose}
use Rattle.cloud_io.specs.Files.{Folder, Opened}
use Rattle.cloud_io.specs.Whole.{AppendsPrefix}
use Rattle.run_report.specs.Faults.{fault_line}
use Rattle.run_report.specs.declared.fault.Fault.{Fault}
use Rattle.run_report.specs.declared.fault.Fault.TheVariants as fault
use Rattle.run_words.specs.Commands.{Text}
use Rattle.simlod_app.specs.Dues.{IsDue}
use Rattle.simlod_app.specs.Outcomes.{Outside, AreReadBy, IsNextOf, Tells, TellsLine, TellsFault, Refuses, Ends, EndsOver, IsComplete, IsRun, ended_by}
use Rattle.simlod_app.specs.Reads.{AllEnded, AreOpened, AreReadWhole, MayCutShort, OfFiles, files_read, job_files}
use Rattle.simlod_app.specs.Runs.{Source, words_output}
use Rattle.simlod_app.specs.Statuses.{status_of}
use Rattle.simlod_app.specs.declared.status.Status.{Status}
use Rattle.simlod_app.specs.declared.status.Status.TheVariants as ended
use Rattle.simlod_app.proofs.Openings.{of_each}

refuses : (IsNext : Text → Type 0) (answer : Result (List ℕ) Fault) (old new : Outside) (f : Fault)
    → IsDue (λ name. IsNext name × Rose old.faults new.faults) (Rose old.missing new.missing) answer f → new.out ≡ old.out → Tells old new f → Ends IsNext answer old new (status_of f)
refuses IsNext answer old new fault.Memory due nothing tells = (nothing, tells)
refuses IsNext answer old new fault.Output due nothing tells = absurd due
refuses IsNext answer old new (fault.ReadFault name) due nothing tells = (name, due.0, due.1, nothing, tells)
refuses IsNext answer old new (fault.NoFile name) due nothing tells = (record { fault = fault.NoFile name; is = due.1; accounts = refl; nothing = nothing; tells = tells }, due.0)
refuses IsNext answer old new f due nothing tells = record { fault = f; is = due; accounts = refl; nothing = nothing; tells = tells }

-- a run that is refused ends as its answer says
pub ends_refused : (IsNext : Text → Type 0) (answer : Result (List ℕ) Fault) (old new : Outside) (f : Fault) (status : Status)
    → IsDue (λ name. IsNext name × Rose old.faults new.faults) (Rose old.missing new.missing) answer f → new.out ≡ old.out
    → TellsFault old.errors new.errors old.error_faults new.error_faults f status → Ends IsNext answer old new status
ends_refused IsNext answer old new f status due nothing (inl told) = subst (λ (s : Status). Ends IsNext answer old new s) (sym told.1) (refuses IsNext answer old new f due nothing told.0)
ends_refused IsNext answer old new f status due nothing (inr told) = subst (λ (s : Status). Ends IsNext answer old new s) (sym told.1) (nothing, told.0)

of_refusal : (answer : Result (List ℕ) Fault) (old new : Outside) (status : Status) → Refuses answer old new status → status ≡ ended_by answer
of_refusal answer old new status h = sym h.accounts ∙ ap ended_by (sym h.is)

-- how a run ends says its status, where no call failed
pub completes : (IsNext : Text → Type 0) (answer : Result (List ℕ) Fault) (old new : Outside) (status : Status) → Ends IsNext answer old new status → IsComplete answer old new status
completes IsNext answer old new ended.Ok h read wrote = inr (ap ended_by (sym h.1))
completes IsNext answer old new ended.OutputFault h read wrote = absurd (wrote h.3)
completes IsNext answer old new ended.ReadFault h read wrote = absurd (read h.2)
completes IsNext answer old new ended.NoFile h read wrote = inr (of_refusal answer old new ended.NoFile h.0)
completes IsNext answer old new ended.Memory h read wrote = inl refl
completes IsNext answer old new ended.Usage h read wrote = inr (of_refusal answer old new ended.Usage h)
completes IsNext answer old new ended.BadInput h read wrote = inr (of_refusal answer old new ended.BadInput h)
completes IsNext answer old new ended.Limit h read wrote = inr (of_refusal answer old new ended.Limit h)

-- how far the files were read in a run that is refused
read_refused : (names : List Text) (answer : Result (List ℕ) Fault) (opened : Opened) (Fails : Text → Type 0) (misses : Type 0) (f : Fault) → IsDue Fails misses answer f → MayCutShort f ⊎ AllEnded opened → AreReadBy names answer opened (status_of f)
read_refused names answer opened Fails misses fault.Memory due read = tt
read_refused names answer opened Fails misses fault.Output due read = absurd due
read_refused names answer opened Fails misses (fault.ReadFault name) due read = tt
read_refused names answer opened Fails misses (fault.TooLong name) due read = inl (name, due)
read_refused names answer opened Fails misses fault.Command due (inr whole) = whole
read_refused names answer opened Fails misses (fault.Word at) due (inr whole) = whole
read_refused names answer opened Fails misses fault.Options due (inr whole) = whole
read_refused names answer opened Fails misses (fault.Value name) due (inr whole) = whole
read_refused names answer opened Fails misses (fault.Pixels n) due (inr whole) = whole
read_refused names answer opened Fails misses (fault.NoFile name) due (inr whole) = whole
read_refused names answer opened Fails misses (fault.Axis axis span) due (inr whole) = inr whole
read_refused names answer opened Fails misses fault.Batches due (inr whole) = inr whole
read_refused names answer opened Fails misses (fault.Batch row) due (inr whole) = inr whole
read_refused names answer opened Fails misses f due (inr whole) = whole
read_refused names answer opened Fails misses f due (inl cut) = absurd cut

read_told : (names : List Text) (answer : Result (List ℕ) Fault) (opened : Opened) (old new : Option (List ℕ)) (faults faults' : ℕ) (f : Fault) (status : Status)
    → TellsFault old new faults faults' f status → AreReadBy names answer opened (status_of f) → AreReadBy names answer opened status
read_told names answer opened old new faults faults' f status (inl told) read = subst (λ (s : Status). AreReadBy names answer opened s) (sym told.1) read
read_told names answer opened old new faults faults' f status (inr told) read = subst (λ (s : Status). AreReadBy names answer opened s) (sym told.1) tt

over : (ws : List Text) (old new : Outside) (status : Status) (files : List Source) → Ends (IsNextOf ws files) (words_output ws files) old new status → EndsOver ws old new status files
over ws old new status files ends = record { ends = ends; complete = completes (IsNextOf ws files) (words_output ws files) old new status ends }

-- a run that is refused
pub run_refused : (told : Option Folder) (ws : List Text) (old new : Outside) (f : Fault) (status : Status)
    → (opened : Opened) × AreOpened told (job_files ws) old.opened new.opened opened × (MayCutShort f ⊎ AllEnded opened)
    × OfFiles told (job_files ws) opened (λ files. IsDue (λ name. IsNextOf ws files name × Rose old.faults new.faults) (Rose old.missing new.missing) (words_output ws files) f)
    → new.out ≡ old.out → TellsFault old.errors new.errors old.error_faults new.error_faults f status → IsRun told ws old new status
run_refused told ws old new f status found nothing tells =
    let answer : Result (List ℕ) Fault = words_output ws (files_read (job_files ws) found.0) in
    record {
      opened = found.0;
      are = found.1;
      read = read_told (job_files ws) answer found.0 old.errors new.errors old.error_faults new.error_faults f status tells
          (read_refused (job_files ws) answer found.0 (λ name. IsNextOf ws (files_read (job_files ws) found.0) name × Rose old.faults new.faults) (Rose old.missing new.missing) f found.3.0 found.2);
      ends = of_each told (job_files ws) found.0 (λ files. IsDue (λ name. IsNextOf ws files name × Rose old.faults new.faults) (Rose old.missing new.missing) (words_output ws files) f) (EndsOver ws old new status)
          (λ files due. over ws old new status files (ends_refused (IsNextOf ws files) (words_output ws files) old new f status due nothing tells)) found.3;
    }

-- a run that has an answer
abbrev pub Answered : Option Folder → List Text → Outside → Outside → List ℕ → Type 0
Answered told ws old new text =
    (opened : Opened) × AreOpened told (job_files ws) old.opened new.opened opened × AreReadWhole (job_files ws) opened × OfFiles told (job_files ws) opened (λ files. words_output ws files ≡ Ok text)

-- one whose output is written
pub run_written : (told : Option Folder) (ws : List Text) (old new : Outside) (text slice : List ℕ) → Answered told ws old new text → slice ≡ text → Appends old.out new.out slice → new.errors ≡ old.errors → IsRun told ws old new ended.Ok
run_written told ws old new text slice found same written quiet =
    let appends : Appends old.out new.out text = subst (λ (bytes : List ℕ). Appends old.out new.out bytes) same written in
    record {
      opened = found.0;
      are = found.1;
      read = found.2;
      ends = of_each told (job_files ws) found.0 (λ files. words_output ws files ≡ Ok text) (EndsOver ws old new ended.Ok)
          (λ files is. over ws old new ended.Ok files (text, is, appends, quiet)) found.3;
    }

-- one whose output fails
pub run_cut : (told : Option Folder) (ws : List Text) (old new : Outside) (text slice line : List ℕ) → Answered told ws old new text
    → slice ≡ text → AppendsPrefix old.out new.out slice → Rose old.out_faults new.out_faults → line ≡ fault_line fault.Output → TellsLine old.errors new.errors old.error_faults new.error_faults line
    → IsRun told ws old new ended.OutputFault
run_cut told ws old new text slice line found same cut rose is tells =
    let appends : AppendsPrefix old.out new.out text = subst (λ (bytes : List ℕ). AppendsPrefix old.out new.out bytes) same cut in
    let told_line : Tells old new fault.Output = subst (λ (bytes : List ℕ). TellsLine old.errors new.errors old.error_faults new.error_faults bytes) is tells in
    record {
      opened = found.0;
      are = found.1;
      read = found.2;
      ends = of_each told (job_files ws) found.0 (λ files. words_output ws files ≡ Ok text) (EndsOver ws old new ended.OutputFault)
          (λ files answer. over ws old new ended.OutputFault files (text, answer, appends, rose, told_line)) found.3;
    }
