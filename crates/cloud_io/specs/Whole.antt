-- Whole files: what reading one and writing one answer.
use Rattle.std.specs.Prelude.{ℕ, ◌≡◌, ◌⊎◌, ◌<◌, ◌≤◌, List, [], ◌∷◌, ◌++◌, take, length, Option, Some, None, IfSome, IsSomeAnd, Result, Ok, Err, MatchResult, Vec, ⊤}
use Rattle.std.specs.Io.KnownBytes.{Appends}
use Rattle.cloud_io.specs.Files.{Folder, Opened, OpenedFile, IsGivenBy, begun, finished}
use Rattle.cloud_io.specs.declared.faults.OpenFault.{OpenFault}
use Rattle.cloud_io.specs.declared.faults.OpenFault.TheVariants.{NoFile as OpenNoFile, Failed as OpenFailed, Memory as OpenMemory}
use Rattle.cloud_io.specs.declared.faults.ReadFault.{ReadFault}
use Rattle.cloud_io.specs.declared.faults.ReadFault.TheVariants.{NoFile, Failed, TooLong, Memory}

-- the same fault, of a whole reading
abbrev pub read_fault : OpenFault → ReadFault
read_fault OpenNoFile = NoFile
read_fault OpenFailed = Failed
read_fault OpenMemory = Memory

-- in a folder that is told: Ok gives the bytes of the name, NoFile comes where there is no such name,
-- and TooLong where it has more than most bytes
abbrev pub ReadsWhole :
    {A : Type 0} → Option Folder → List ℕ → ℕ → Result (Vec ℕ A) ReadFault → Type 0
ReadsWhole files name most (Ok bytes) = IfSome files (λ folder. folder name ≡ Some bytes.items)
ReadsWhole files name most (Err NoFile) = IfSome files (λ folder. folder name ≡ None)
ReadsWhole files name most (Err Failed) = ⊤
ReadsWhole files name most (Err (TooLong limit)) =
    IfSome files (λ folder. IsSomeAnd (folder name) (λ bytes. most < length bytes))
ReadsWhole files name most (Err Memory) = ⊤

-- this file was opened behind the others; in a folder that is told it has given what that has of its name
pub record OpensAs (files : Option Folder) (old new : Opened) (o : OpenedFile) : Type 0 where
  pub behind : new ≡ old ++ o ∷ []
  pub given : IfSome files (λ folder. IsGivenBy folder o)

-- no file was opened, or one of the name that has given no more than most bytes, and whose end was not told
abbrev pub StopsWithin : Option Folder → Opened → Opened → List ℕ → ℕ → Type 0
StopsWithin files old new name most =
    (new ≡ old) ⊎ ((given : List ℕ) × (length given ≤ most) × OpensAs files old new (begun name given))

-- what became of the files that were opened: at Ok one of the name has given exactly these bytes, which are not too many, and
-- its end was told; at TooLong, which tells the limit of this call, one has given more bytes than that
abbrev pub ReadsTo :
    {A : Type 0} → Option Folder → Opened → Opened → List ℕ → ℕ → Result (Vec ℕ A) ReadFault → Type 0
ReadsTo files old new name most (Ok bytes) =
    OpensAs files old new (finished name bytes.items) × (length bytes.items ≤ most)
ReadsTo files old new name most (Err NoFile) = new ≡ old
ReadsTo files old new name most (Err Failed) = StopsWithin files old new name most
ReadsTo files old new name most (Err (TooLong limit)) =
    (limit ≡ most) × ((given : List ℕ) × (most < length given) × OpensAs files old new (begun name given))
ReadsTo files old new name most (Err Memory) = StopsWithin files old new name most

-- some first bytes, but not all, were appended
abbrev pub AppendsPrefix : Option (List ℕ) → Option (List ℕ) → List ℕ → Type 0
AppendsPrefix old new bytes = (n : ℕ) × (n < length bytes) × Appends old new (take n bytes)

-- all bytes were appended at Ok, and a prefix of them at a failure
abbrev pub WritesWhole :
    {T E : Type 0} → Option (List ℕ) → Option (List ℕ) → List ℕ → Result T E → Type 0
WritesWhole old new bytes result =
    MatchResult result (λ _. Appends old new bytes) (λ _. AppendsPrefix old new bytes)
