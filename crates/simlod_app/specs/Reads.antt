-- Which files a run opens, and what it knows of the files of its job.
use Rattle.std.specs.Prelude.{ℕ, ◌≡◌, ◌⊎◌, ◌-◌, List, [], ◌∷◌, ◌++◌, map, take, drop, length, All, IsTrue, Option, Some, None, option_map, IfSome, IsSomeAnd, Result, Ok, Err, ⊤}
use Rattle.cloud_io.specs.Files.{Folder, Opened, OpenedFile, IsGivenBy}
use Rattle.run_report.specs.declared.fault.Fault.{Fault}
use Rattle.run_report.specs.declared.fault.Fault.TheVariants.{ReadFault, TooLong, Memory}
use Rattle.run_words.specs.Commands.{Text}
use Rattle.run_words.specs.Values.{JobValue}
use Rattle.simlod_app.specs.Runs.{Source, job_here}

-- the files of a job, if there is one
abbrev pub files_named : Result JobValue Fault → List Text
files_named (Ok j) = j.files
files_named (Err fault) = []

-- the files that the words name, if they are a job that is run here
abbrev pub job_files : List Text → List Text
job_files words = files_named (job_here words)

-- a file that was opened, with the bytes that it gave
abbrev pub source_of : OpenedFile → Source
source_of o = (o.name, Some o.given)

-- a file of which no byte is known
abbrev pub unknown : Text → Source
unknown name = (name, None)

-- files of these names as they were read: those that were opened, in order, with the bytes that they gave; of the others none is known
unfoldable pub files_read : List Text → Opened → List Source
files_read names opened = map source_of opened ++ map unknown (drop (length opened) names)

-- files of these names as a folder has them
unfoldable pub files_in : Folder → List Text → List Source
files_in folder names = map (λ name. (name, folder name)) names

-- a fact of the files as they were read and, where the inputs tell a folder, of the files as that has them
abbrev pub OfFiles : Option Folder → List Text → Opened → (List Source → Type 0) → Type 0
OfFiles told names opened P = P (files_read names opened) × IfSome told (λ folder. P (files_in folder names))

-- the end of each of these files was told
abbrev pub AllEnded : Opened → Type 0
AllEnded opened = All (λ o. IsTrue o.ended) opened

-- these files were opened behind the old ones, and are the first of these names, in order; the end of each but the last was told,
-- and each gave what the folder has, if one is told
pub record AreOpened (told : Option Folder) (names : List Text) (old new opened : Opened) : Type 0 where
  pub behind : new ≡ old ++ opened
  pub first : map (λ o. o.name) opened ≡ take (length opened) names
  pub ended : AllEnded (take (length opened - 1) opened)
  pub given : IfSome told (λ folder. All (IsGivenBy folder) opened)

-- all files of these names were opened, and read to their ends
pub record AreReadWhole (names : List Text) (opened : Opened) : Type 0 where
  pub all : map (λ o. o.name) opened ≡ names
  pub ended : AllEnded opened

-- a fault that may come before the end of a file: a read that failed, too many bytes, want of memory
abbrev pub MayCutShort : Fault → Type 0
MayCutShort (ReadFault name) = ⊤
MayCutShort (TooLong name) = ⊤
MayCutShort Memory = ⊤
MayCutShort fault = ⊥

-- how far files were read: all of them where there is an answer, and none but to its end where there is a refusal of another kind than those
abbrev pub AreReadFor : {X : Type 0} → Result X Fault → List Text → Opened → Type 0
AreReadFor (Ok x) names opened = AreReadWhole names opened
AreReadFor (Err fault) names opened = MayCutShort fault ⊎ AllEnded opened

-- at most one file
abbrev pub listed : Option OpenedFile → Opened
listed None = []
listed (Some o) = o ∷ []

-- at most one file was opened behind the old ones, and it has this name
pub record IsOpened (told : Option Folder) (name : Text) (old new : Opened) (file : Option OpenedFile) : Type 0 where
  pub behind : new ≡ old ++ listed file
  pub named : IfSome file (λ o. o.name ≡ name)
  pub given : IfSome told (λ folder. IfSome file (IsGivenBy folder))

-- how far one file was read, as above
abbrev pub IsReadFor : {X : Type 0} → Result X Fault → Option OpenedFile → Type 0
IsReadFor (Ok x) file = IsSomeAnd file (λ o. IsTrue o.ended)
IsReadFor (Err fault) file = MayCutShort fault ⊎ IfSome file (λ o. IsTrue o.ended)

-- a fact of what a file of this name has: the bytes that it gave, if it was opened, and what a folder has, if one is told
abbrev pub OfFile : Option Folder → Text → Option OpenedFile → (Option (List ℕ) → Type 0) → Type 0
OfFile told name file P = P (option_map (λ o. o.given) file) × IfSome told (λ folder. P (folder name))
