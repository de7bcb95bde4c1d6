-- The statuses of a run, and which fault leads to which.
use Rattle.std.specs.Prelude.{ℕ}
use Rattle.run_report.specs.declared.fault.Fault.{Fault}
use Rattle.run_report.specs.declared.fault.Fault.TheVariants.{Output, Command, Word, Options, Value, Pixels, NoFile, ReadFault, Fields, Number, Range, NotLas, HeaderShort, Version, Compressed, Format, Length, Start, PointsShort, Frames, Schedule, TooLong, Axis, Batches, Batch, Memory}
use Rattle.simlod_app.specs.declared.status.Status.{Status}
use Rattle.simlod_app.specs.declared.status.Status.TheVariants as ended

abbrev pub status_code : Status → ℕ
status_code ended.Ok = 0
status_code ended.OutputFault = 1
status_code ended.Usage = 2
status_code ended.NoFile = 3
status_code ended.ReadFault = 4
status_code ended.BadInput = 5
status_code ended.Limit = 6
status_code ended.Memory = 7

-- the output, the words, a file that is not there, a file that fails, what a file's bytes say, a limit, memory
abbrev pub status_of : Fault → Status
status_of Output = ended.OutputFault
status_of Command = ended.Usage
status_of (Word at) = ended.Usage
status_of Options = ended.Usage
status_of (Value name) = ended.Usage
status_of (Pixels n) = ended.Usage
status_of (NoFile name) = ended.NoFile
status_of (ReadFault name) = ended.ReadFault
status_of (Fields name line n) = ended.BadInput
status_of (Number name line field) = ended.BadInput
status_of (Range name line field) = ended.BadInput
status_of (NotLas name) = ended.BadInput
status_of (HeaderShort name have) = ended.BadInput
status_of (Version name major minor) = ended.BadInput
status_of (Compressed name byte) = ended.BadInput
status_of (Format name byte) = ended.BadInput
status_of (Length name have need) = ended.BadInput
status_of (Start name offset header) = ended.BadInput
status_of (PointsShort name have need) = ended.BadInput
status_of (Frames name first) = ended.BadInput
status_of (Schedule name at) = ended.BadInput
status_of (TooLong name) = ended.Limit
status_of (Axis axis span) = ended.Limit
status_of Batches = ended.Limit
status_of (Batch row) = ended.Limit
status_of Memory = ended.Memory
