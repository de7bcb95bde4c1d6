-- Filers, their room and readers may go to another thread.
use denote.Param.Send.{IsSend, AllSend, view_send, recorded_send, struct_send, sendable}
use denote.Struct.Declared.{shape}
use Rattle.std.proofs.Crossing.{crosses}
use Rattle.list_table.proofs.Sent.{guest_send, lists_cross}
use Rattle.list_filers.specs.contracts.ways.Ways as Ways
use Rattle.list_filers.specs.contracts.ways.Ways.TheInside as WaysInside
use Rattle.list_filers.specs.contracts.filers.Filer as Filer
use Rattle.list_filers.specs.contracts.filers.Filer.TheInside as FilerInside
use Rattle.list_filers.specs.contracts.readers.Reader as Reader
use Rattle.list_filers.specs.contracts.readers.Reader.TheInside as ReaderInside

ways_fields : AllSend (shape WaysInside.the_type).fields
ways_fields = (search (sendable, crosses, lists_cross) depth 40, (guest_send, (search (sendable, crosses) depth 40, (search sendable, (search (sendable, crosses) depth 40, tt)))))

ways_send : IsSend Ways.the_row
ways_send = view_send WaysInside.the_row _ _ _ _ (recorded_send WaysInside.the_field.row _ _ WaysInside.the_type.to_one (struct_send (shape WaysInside.the_type) ways_fields))

filer_fields : AllSend (shape FilerInside.the_type).fields
filer_fields = (ways_send, (search sendable, (search (sendable, crosses) depth 40, tt)))

-- a filer may go to another thread
pub filer_send : IsSend Filer.the_row
filer_send = view_send FilerInside.the_row _ _ _ _ (recorded_send FilerInside.the_field.row _ _ FilerInside.the_type.to_one (struct_send (shape FilerInside.the_type) filer_fields))

reader_fields : AllSend (shape ReaderInside.the_type).fields
reader_fields = (guest_send, (search sendable, tt))

-- and so may a reader
pub reader_send : IsSend Reader.the_row
reader_send = view_send ReaderInside.the_row _ _ _ _ (recorded_send ReaderInside.the_field.row _ _ ReaderInside.the_type.to_one (struct_send (shape ReaderInside.the_type) reader_fields))

pub ruleset filers_cross = (filer_send, reader_send)
