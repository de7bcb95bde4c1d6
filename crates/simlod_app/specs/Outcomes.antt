-- How a run ends: its status, what it wrote, and which counts of the outside account for it.
use Rattle.std.specs.Prelude.{ℕ, ◌≡◌, ◌⊎◌, List, ◌∷◌, ◌++◌, Option, Result, Ok, Err, IsOk, ⊤}
use Rattle.std.specs.Io.KnownBytes.{Appends}
use Rattle.cloud_io.specs.Counts.{Rose}
use Rattle.cloud_io.specs.Files.{Folder, Opened}
use Rattle.cloud_io.specs.Whole.{AppendsPrefix}
use Rattle.run_report.specs.Faults.{fault_line}
use Rattle.run_report.specs.declared.fault.Fault.{Fault}
use Rattle.run_report.specs.declared.fault.Fault.TheVariants.{Output, ReadFault, TooLong, Memory}
use Rattle.run_words.specs.Commands.{Text}
use Rattle.run_words.specs.Values.{JobValue}
use Rattle.simlod_app.specs.declared.reading.Reading.{Reading}
use Rattle.simlod_app.specs.Runs.{Source, clouds_of, job_here, reading_of, words_output}
use Rattle.simlod_app.specs.Reads.{AllEnded, AreOpened, AreReadWhole, OfFiles, files_read, job_files}
use Rattle.simlod_app.specs.Statuses.{status_of}
use Rattle.simlod_app.specs.declared.status.Status.{Status}
use Rattle.simlod_app.specs.declared.status.Status.TheVariants as ended

-- the outside of a run: the opened files and the counts of the inputs, and of each stream the bytes, where they are told, and the count
pub record Outside : Type 0 where
  pub opened : Opened
  pub faults : ℕ
  pub missing : ℕ
  pub out : Option (List ℕ)
  pub out_faults : ℕ
  pub errors : Option (List ℕ)
  pub error_faults : ℕ

-- the outside, by its parts
abbrev pub outside : Opened → ℕ → ℕ → Option (List ℕ) → ℕ → Option (List ℕ) → ℕ → Outside
outside opened faults missing out out_faults errors error_faults =
    record { opened = opened; faults = faults; missing = missing; out = out; out_faults = out_faults; errors = errors; error_faults = error_faults }

-- a file of this name stands behind files that are all there and not refused
pub record IsReached (how : Reading) (files : List Source) (name : Text) : Type 0 where
  pub before : List Source
  pub content : Option (List ℕ)
  pub after : List Source
  pub stands : files ≡ before ++ (name, content) ∷ after
  pub read : IsOk (clouds_of how before)

-- a file of this name is the next to be read in the job of the words
abbrev pub IsNextOf : List Text → List Source → Text → Type 0
IsNextOf words files name = (j : JobValue) × (job_here words ≡ Ok j) × IsReached (reading_of j) files name

-- the whole line was appended, or a first part of it where the stream failed
abbrev pub TellsLine : (old new : Option (List ℕ)) (faults faults' : ℕ) → List ℕ → Type 0
TellsLine old new faults faults' line = Appends old new line ⊎ (AppendsPrefix old new line × Rose faults faults')

-- the line of a fault went to the error stream
abbrev pub Tells : (old new : Outside) → Fault → Type 0
Tells old new fault = TellsLine old.errors new.errors old.error_faults new.error_faults (fault_line fault)

-- nothing was written, and the line of the refusal, which has this status, was told
pub record Refuses (answer : Result (List ℕ) Fault) (old new : Outside) (status : Status) : Type 0 where
  pub fault : Fault
  pub is : answer ≡ Err fault
  pub accounts : status_of fault ≡ status
  pub nothing : new.out ≡ old.out
  pub tells : Tells old new fault

-- the line of the fault was told, with its status, or that there was no memory
abbrev pub TellsFault : (old new : Option (List ℕ)) (faults faults' : ℕ) → Fault → Status → Type 0
TellsFault old new faults faults' fault status =
    (TellsLine old new faults faults' (fault_line fault) × (status ≡ status_of fault)) ⊎ (TellsLine old new faults faults' (fault_line Memory) × (status ≡ ended.Memory))

-- how a run ends that is to give this answer, by its status
abbrev pub Ends : (IsNext : Text → Type 0) (answer : Result (List ℕ) Fault) (old new : Outside) → Status → Type 0
Ends IsNext answer old new ended.Ok = (text : List ℕ) × (answer ≡ Ok text) × Appends old.out new.out text × (new.errors ≡ old.errors)
Ends IsNext answer old new ended.OutputFault =
    (text : List ℕ) × (answer ≡ Ok text) × AppendsPrefix old.out new.out text × Rose old.out_faults new.out_faults × Tells old new Output
Ends IsNext answer old new ended.ReadFault =
    (name : Text) × IsNext name × Rose old.faults new.faults × (new.out ≡ old.out) × Tells old new (ReadFault name)
Ends IsNext answer old new ended.NoFile = Refuses answer old new ended.NoFile × Rose old.missing new.missing
Ends IsNext answer old new ended.Memory = (new.out ≡ old.out) × Tells old new Memory
Ends IsNext answer old new status = Refuses answer old new status

-- the status of an answer
abbrev pub ended_by : Result (List ℕ) Fault → Status
ended_by (Ok text) = ended.Ok
ended_by (Err fault) = status_of fault

-- where no call failed, the status is that of the answer, or want of memory
abbrev pub IsComplete : (answer : Result (List ℕ) Fault) (old new : Outside) → Status → Type 0
IsComplete answer old new status =
    (Rose old.faults new.faults → ⊥) → (Rose old.out_faults new.out_faults → ⊥) → (status ≡ ended.Memory) ⊎ (status ≡ ended_by answer)

-- how far the files of a run that ends with this status were read, of which these were opened: all of them to their ends at Ok and
-- OutputFault; none but to its end at a refusal, unless it has too many bytes
abbrev pub AreReadBy : List Text → (answer : Result (List ℕ) Fault) → Opened → Status → Type 0
AreReadBy names answer opened ended.Ok = AreReadWhole names opened
AreReadBy names answer opened ended.OutputFault = AreReadWhole names opened
AreReadBy names answer opened ended.ReadFault = ⊤
AreReadBy names answer opened ended.Memory = ⊤
AreReadBy names answer opened ended.Limit = ((name : Text) × (answer ≡ Err (TooLong name))) ⊎ AllEnded opened
AreReadBy names answer opened status = AllEnded opened

-- a run of these words over these files ends as their answer says
pub record EndsOver (words : List Text) (old new : Outside) (status : Status) (files : List Source) : Type 0 where
  pub ends : Ends (IsNextOf words files) (words_output words files) old new status
  pub complete : IsComplete (words_output words files) old new status

-- the run of these words over inputs that tell this folder, if they tell one: the files that it opens are the first of its job, and it
-- ends as the answer of the bytes that it read says and, where a folder is told, as the answer of what that has
pub record IsRun (told : Option Folder) (words : List Text) (old new : Outside) (status : Status) : Type 0 where
  pub opened : Opened
  pub are : AreOpened told (job_files words) old.opened new.opened opened
  pub read : AreReadBy (job_files words) (words_output words (files_read (job_files words) opened)) opened status
  pub ends : OfFiles told (job_files words) opened (EndsOver words old new status)
