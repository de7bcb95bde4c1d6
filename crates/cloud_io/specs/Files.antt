-- Files by their names: what opening and reading do.
use Rattle.std.specs.Prelude.{ℕ, ◌≡◌, ◌-◌, ◌<◌, ◌≤◌, List, [], ◌∷◌, ◌++◌, take, drop, length, slice_get, slice_set, Bool, true, false, ◌&&◌, ◌||◌, nat_eq, nat_lt, IsTrue, Option, Some, None, Result, Ok, Err, ⊤, IsSome, IfSome, IsSomeAnd}
use Rattle.std.specs.Io.{StartsWith}
use Rattle.cloud_io.specs.declared.faults.OpenFault.{OpenFault}
use Rattle.cloud_io.specs.declared.faults.OpenFault.TheVariants.{NoFile, Failed, Memory}

-- the bytes of each name, None where there is no such file
abbrev pub Folder : Type 0
Folder = List ℕ → Option (List ℕ)

-- a file that was opened: its name, the bytes that its reads have given so far, and whether one of them told its end
pub record OpenedFile : Type 0 where
  pub name : List ℕ
  pub given : List ℕ
  pub ended : Bool

-- the files that were opened, in order: the number of a file is its index among them
abbrev pub Opened : Type 0
Opened = List OpenedFile

-- a file of the name that has given these bytes, and whose end was not told
abbrev pub begun : List ℕ → List ℕ → OpenedFile
begun name given = record { name = name; given = given; ended = false }

-- the same, once its end was told
abbrev pub finished : List ℕ → List ℕ → OpenedFile
finished name given = record { name = name; given = given; ended = true }

-- a file of the name was opened behind the others, and nothing of it was read; a refusal opens none
abbrev pub Opens : Opened → Opened → List ℕ → Result ℕ OpenFault → Type 0
Opens old new name (Ok file) = (file ≡ length old) × (new ≡ old ++ begun name [] ∷ [])
Opens old new name (Err fault) = new ≡ old

-- in a folder that is told, the name is there at Ok, and not there at NoFile
abbrev pub AgreesWith : Option Folder → List ℕ → Result ℕ OpenFault → Type 0
AgreesWith files name (Ok file) = IfSome files (λ folder. IsSome (folder name))
AgreesWith files name (Err NoFile) = IfSome files (λ folder. folder name ≡ None)
AgreesWith files name (Err Failed) = ⊤
AgreesWith files name (Err Memory) = ⊤

-- a read tells the end where it gives nothing to a buffer that has room
abbrev pub tells_end : ℕ → List ℕ → Bool
tells_end n buf = nat_eq n 0 && nat_lt 0 (length buf)

-- a file that was read once more: it has given the first n bytes of the buffer, too
abbrev pub read_on : ℕ → List ℕ → OpenedFile → OpenedFile
read_on n buf o = record { name = o.name; given = o.given ++ take n buf; ended = o.ended || tells_end n buf }

-- the file of this number was read once more, and no other changed
abbrev pub ReadsOn : Opened → Opened → ℕ → ℕ → List ℕ → Type 0
ReadsOn old new file n buf = (o : OpenedFile) → slice_get old file ≡ Some o → new ≡ slice_set old file (read_on n buf o)

-- a read gave just the bytes that it put into its buffer; a refusal gives nothing
abbrev pub Reads : {E : Type 0} → Opened → Opened → ℕ → Result ℕ E → List ℕ → Type 0
Reads old new file (Ok n) buf = ReadsOn old new file n buf
Reads old new file (Err e) buf = new ≡ old

-- the next n of the bytes, from the place on; for a buffer that is not empty none only at the end
pub record IsNext (bytes : List ℕ) (place n : ℕ) (buf : List ℕ) : Type 0 where
  pub given : take n buf ≡ take n (drop place bytes)
  pub within : n ≤ length bytes - place
  pub ends : n ≡ 0 → 0 < length buf → length bytes ≤ place

-- n bytes of a file that is told were given, those behind the ones that it had given
abbrev pub GivesNext : Option Folder → Opened → ℕ → ℕ → List ℕ → Type 0
GivesNext files opened file n buf =
    IfSome files (λ folder. (o : OpenedFile) (bytes : List ℕ) →
    slice_get opened file ≡ Some o → folder o.name ≡ Some bytes → IsNext bytes (length o.given) n buf)

-- a read gave the next bytes
abbrev pub Gives : {E : Type 0} → Option Folder → Opened → ℕ → Result ℕ E → List ℕ → Type 0
Gives files opened file (Ok n) buf = GivesNext files opened file n buf
Gives files opened file (Err e) buf = ⊤

-- the file has given the first bytes that the folder has of its name, and all of them where its end was told
abbrev pub IsGivenBy : Folder → OpenedFile → Type 0
IsGivenBy folder o = IsSomeAnd (folder o.name) (λ bytes. StartsWith bytes o.given × (IsTrue o.ended → o.given ≡ bytes))
