-- Files in memory, and those of them that were opened.
use Rattle.std.specs.Prelude.{ℕ, ◌≡◌, ◌≤◌, ◌<◌, List, [], length, map, take, Option, Some, None, slice_get, slice_index_or, option_map, string_bytes, position, find, Bool}
use Rattle.std.specs.Str.{bytes_eq}
use Rattle.cloud_io.specs.Files.{Folder, Opened, OpenedFile, begun}
use Rattle.cloud_io.specs.declared.named_file.NamedFile.{NamedFile}
use Rattle.cloud_io.specs.declared.named_file.OpenFile.{OpenFile}

-- whether a file has the name
abbrev pub has_name : List ℕ → NamedFile → Bool
has_name name f = bytes_eq (string_bytes f.name) name

-- the index of the first file of the name
abbrev pub first_named : List NamedFile → List ℕ → Option ℕ
first_named files name = position (has_name name) files

-- the bytes of each name: those of the first file of that name
unfoldable pub folder_of : List NamedFile → Folder
folder_of files name = option_map (λ (f : NamedFile). f.bytes.items) (find (has_name name) files)

-- a file that was opened, and is there: it has given its bytes up to the place
abbrev pub opened_file : OpenFile → Option NamedFile → OpenedFile
opened_file o (Some f) = record { name = string_bytes f.name; given = take o.place f.bytes.items; ended = o.ended }
opened_file o None = begun [] []

-- the files that were opened
unfoldable pub opened_of : List NamedFile → List OpenFile → Opened
opened_of files opened = map (λ o. opened_file o (slice_get files o.index)) opened

-- an opened file is the first of its name, and its place is not behind its end
pub record IsOpenIn (files : List NamedFile) (o : OpenFile) : Type 0 where
  pub there : o.index < length files
  pub first : (d : NamedFile) →
      first_named files (string_bytes (slice_index_or files o.index d).name) ≡ Some o.index
  pub within : (d : NamedFile) → o.place ≤ length (slice_index_or files o.index d).bytes.items
