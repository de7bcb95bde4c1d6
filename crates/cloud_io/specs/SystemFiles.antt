-- Files of the system that were opened, and what the system tells of those that were not.
use Rattle.std.specs.Prelude.{ℕ, List, [], map, Option, Some, None, is_none, option_and_then, slice_get, string_bytes, Result, Ok, Err}
use Rattle.std.specs.declared.io.ErrorKind.{ErrorKind}
use Rattle.std.specs.declared.io.ErrorKind.TheVariants.{NotFound}
use Rattle.cloud_io.specs.Files.{Opened, OpenedFile, read_on}
use Rattle.cloud_io.specs.declared.faults.OpenFault.{OpenFault}
use Rattle.cloud_io.specs.declared.faults.OpenFault.TheVariants.{NoFile, Failed}
use Rattle.cloud_io.specs.declared.system_file.SystemFile.{SystemFile}

-- a file of the system: its end was told where it is closed
abbrev pub opened_file : {F : Type 0} → SystemFile F → OpenedFile
opened_file o = record { name = string_bytes o.name; given = o.given.bytes; ended = is_none o.file }

-- the files that were opened
abbrev pub opened_of : {F : Type 0} → List (SystemFile F) → Opened
opened_of opened = map opened_file opened

-- the bytes that a file has left, where it tells them; a closed one has none
abbrev pub left_in : {F : Type 0} → (F → Option (List ℕ)) → Option F → Option (List ℕ)
left_in remaining (Some file) = remaining file
left_in remaining None = Some []

-- the same of each opened file
abbrev pub left_of : {F : Type 0} → (F → Option (List ℕ)) → List (SystemFile F) → ℕ → Option (List ℕ)
left_of remaining opened k = option_and_then (λ o. left_in remaining o.file) (slice_get opened k)

-- a file behind a read; a refusal changes nothing
abbrev pub behind : {E : Type 0} → OpenedFile → Result ℕ E → List ℕ → OpenedFile
behind o (Ok n) buf = read_on n buf o
behind o (Err e) buf = o

-- what a failed opening tells: only a name that is not found is missing
abbrev pub open_fault : ErrorKind → OpenFault
open_fault NotFound = NoFile
open_fault _ = Failed
