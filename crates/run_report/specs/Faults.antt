-- The faults of a run as text.
use Rattle.std.specs.Prelude.{ℕ, List, [], ◌∷◌, ◌+◌, ◌<◌, codes, decimal}
use Rattle.run_report.specs.Texts.{joined}
use Rattle.run_report.specs.RefusedRows.{refused_rest}
use Rattle.run_report.specs.declared.fault.Fault.{Fault}
use Rattle.run_report.specs.declared.fault.Fault.TheVariants.{Output, Command, Word, Options, Value, Pixels, NoFile, ReadFault, Fields, Number, Range, NotLas, HeaderShort, Version, Compressed, Format, Length, Start, PointsShort, Frames, Schedule, TooLong, Axis, Batches, Batch, Memory}

-- x, y and z for the axes 0, 1 and 2
abbrev pub axis_letter : ℕ → ℕ
axis_letter axis = 120 + axis

-- the text of each fault
abbrev pub fault_text : Fault → List ℕ
fault_text Output = codes "output fault"
fault_text Command = codes "usage: command"
fault_text (Word at) = joined (codes "usage: word " ∷ decimal at ∷ [])
fault_text Options = codes "usage: options"
fault_text (Value name) = joined (codes "usage: value of --" ∷ name ∷ [])
fault_text (Pixels n) = joined (codes "usage: " ∷ decimal n ∷ codes " pixels exceed 50000000" ∷ [])
fault_text (NoFile name) = joined (codes "no file " ∷ name ∷ [])
fault_text (ReadFault name) = joined (codes "read fault in " ∷ name ∷ [])
fault_text (Fields name line n) = joined (name ∷ codes ": line " ∷ decimal line ∷ codes ": " ∷ decimal n ∷ codes " fields" ∷ [])
fault_text (Number name line field) = joined (name ∷ codes ": line " ∷ decimal line ∷ codes " field " ∷ decimal field ∷ codes ": not a number" ∷ [])
fault_text (Range name line field) = joined (name ∷ codes ": line " ∷ decimal line ∷ codes " field " ∷ decimal field ∷ codes ": out of range" ∷ [])
fault_text (NotLas name) = joined (name ∷ codes ": not a LAS file" ∷ [])
fault_text (HeaderShort name have) = joined (name ∷ codes ": header ends at " ∷ decimal have ∷ [])
fault_text (Version name major minor) = joined (name ∷ codes ": version " ∷ decimal major ∷ codes "." ∷ decimal minor ∷ [])
fault_text (Compressed name byte) = joined (name ∷ codes ": compressed points, format " ∷ decimal byte ∷ [])
fault_text (Format name byte) = joined (name ∷ codes ": point format " ∷ decimal byte ∷ [])
fault_text (Length name have need) = joined (name ∷ codes ": record length " ∷ decimal have ∷ codes ", need " ∷ decimal need ∷ [])
fault_text (Start name offset header) = joined (name ∷ codes ": points start at " ∷ decimal offset ∷ codes ", header " ∷ decimal header ∷ [])
fault_text (PointsShort name have need) = joined (name ∷ codes ": " ∷ decimal have ∷ codes " bytes, need " ∷ decimal need ∷ [])
fault_text (Frames name first) = joined (name ∷ codes ": scales or offsets differ from " ∷ first ∷ [])
fault_text (Schedule name at) = joined (name ∷ codes ": schedule byte " ∷ decimal at ∷ [])
fault_text (TooLong name) = joined (codes "limit: " ∷ name ∷ codes " is longer than 1000000000 bytes" ∷ [])
fault_text (Axis axis span) = joined (codes "limit: axis " ∷ (axis_letter axis ∷ []) ∷ codes " spans " ∷ decimal span ∷ [])
fault_text Batches = codes "limit: batches"
fault_text (Batch row) = joined (codes "limit: batch " ∷ decimal row.input ∷ codes " " ∷ refused_rest row.cause ∷ [])
fault_text Memory = codes "out of memory"

-- the line of a fault
abbrev pub fault_line : Fault → List ℕ
fault_line fault = joined (codes "simlod: " ∷ fault_text fault ∷ (10 ∷ []) ∷ [])

-- an axis that is named is one of the three
abbrev pub HasAxis : Fault → Type 0
HasAxis (Axis axis span) = axis < 3
HasAxis _ = Unit {0}

-- a fault in the bytes of a file
abbrev pub IsBadInput : Fault → Type 0
IsBadInput (Fields name line n) = Unit {0}
IsBadInput (Number name line field) = Unit {0}
IsBadInput (Range name line field) = Unit {0}
IsBadInput (NotLas name) = Unit {0}
IsBadInput (HeaderShort name have) = Unit {0}
IsBadInput (Version name major minor) = Unit {0}
IsBadInput (Compressed name byte) = Unit {0}
IsBadInput (Format name byte) = Unit {0}
IsBadInput (Length name have need) = Unit {0}
IsBadInput (Start name offset header) = Unit {0}
IsBadInput (PointsShort name have need) = Unit {0}
IsBadInput (Frames name first) = Unit {0}
IsBadInput (Schedule name at) = Unit {0}
IsBadInput _ = ⊥
