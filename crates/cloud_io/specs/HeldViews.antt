-- What held files tell: the bytes of each name, and what each opened file has given.
use Rattle.cloud_io.specs.Files.{Folder, Opened}
use Rattle.cloud_io.specs.HeldFiles.{folder_of, opened_of}
use Rattle.cloud_io.specs.declared.held_files.HeldFiles.{HeldFiles}

-- the bytes of each name
abbrev pub folder : HeldFiles → Folder
folder held = folder_of held.files.items

-- the files that were opened
abbrev pub opened_files : HeldFiles → Opened
opened_files held = opened_of held.files.items held.opened.items
