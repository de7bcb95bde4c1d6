-- The faults of a run that the faults of its parts become.
use Rattle.std.specs.Prelude.{◌≡◌, ◌⊎◌}
use Rattle.batch_bounds.specs.declared.admission.Refusal.{Refusal}
use Rattle.batch_bounds.specs.declared.admission.Refusal.TheVariants as bounds
use Rattle.cloud_io.specs.declared.faults.ReadFault.{ReadFault}
use Rattle.cloud_io.specs.declared.faults.ReadFault.TheVariants as reading
use Rattle.las_points.specs.declared.reader.LasFault.{LasFault}
use Rattle.las_points.specs.declared.reader.LasFault.TheVariants as las
use Rattle.octree_plain.specs.declared.fitting.Span.{Span}
use Rattle.run_report.specs.declared.fault.Fault.{Fault}
use Rattle.run_report.specs.declared.fault.Fault.TheVariants.{Command, Word, Options, Value, Pixels, NoFile, ReadFault as FailedRead, Fields, Number, Range, NotLas, HeaderShort, Version, Compressed, Format, Length, Start, PointsShort, TooLong, Axis, Batch, Memory}
use Rattle.run_words.specs.Commands.{Text}
use Rattle.run_words.specs.Options.{option_word}
use Rattle.run_words.specs.declared.words.WordsFault.{WordsFault}
use Rattle.run_words.specs.declared.words.WordsFault.TheVariants as words
use Rattle.xyz_points.specs.declared.reader.XyzFault.{XyzFault}
use Rattle.xyz_points.specs.declared.reader.XyzFault.TheVariants as xyz

-- a refusal of the words
abbrev pub words_fault : WordsFault → Fault
words_fault words.Command = Command
words_fault (words.Word at) = Word at
words_fault words.Options = Options
words_fault (words.Value option) = Value (option_word option)
words_fault (words.Pixels n) = Pixels n
words_fault words.Memory = Memory

-- a fault of reading the file of this name
abbrev pub read_fault : Text → ReadFault → Fault
read_fault file reading.NoFile = NoFile file
read_fault file reading.Failed = FailedRead file
read_fault file (reading.TooLong most) = TooLong file
read_fault file reading.Memory = Memory

-- a fault of the text in the file of this name
abbrev pub xyz_fault : Text → XyzFault → Fault
xyz_fault file (xyz.Fields line n) = Fields file line n
xyz_fault file (xyz.Number line field) = Number file line field
xyz_fault file (xyz.Range line field) = Range file line field
xyz_fault file xyz.Memory = Memory

-- a fault of the LAS file of this name
abbrev pub las_fault : Text → LasFault → Fault
las_fault file las.NotLas = NotLas file
las_fault file (las.HeaderShort have) = HeaderShort file have
las_fault file (las.Version major minor) = Version file major minor
las_fault file (las.Compressed byte) = Compressed file byte
las_fault file (las.Format byte) = Format file byte
las_fault file (las.Length have need) = Length file have need
las_fault file (las.Start offset header) = Start file offset header
las_fault file (las.PointsShort have need) = PointsShort file have need
las_fault file las.Memory = Memory

-- points that span too much on an axis
abbrev pub span_fault : Span → Fault
span_fault span = Axis span.axis span.span

-- a batch that a bound refuses
abbrev pub refusal_fault : Refusal → Fault
refusal_fault (bounds.Batch row) = Batch row
refusal_fault bounds.Memory = Memory

-- the fault, or want of memory in its place
abbrev pub IsOrMemory : Fault → Fault → Type 0
IsOrMemory fault found = (found ≡ Memory) ⊎ (found ≡ fault)
