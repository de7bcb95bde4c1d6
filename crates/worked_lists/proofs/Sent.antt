-- Workers and owners may go to another thread.
use denote.Param.Send.{IsSend, AllSend, view_send, recorded_send, struct_send, sendable}
use denote.Struct.Declared.{shape}
use Rattle.std.proofs.Crossing.{crosses}
use Rattle.list_filers.proofs.Sent.{filer_send, reader_send}
use Rattle.chunk_lists.proofs.Sent.{knife_send}
use Rattle.dice.proofs.dice.Dice.TheSendSync as DiceSent
use Rattle.worked_lists.proofs.homes.Homes.TheSendSync as HomesSent
use Rattle.worked_lists.specs.contracts.owner.Owner as Owner
use Rattle.worked_lists.specs.contracts.worker.Worker as Worker
use Rattle.worked_lists.specs.contracts.worker.Worker.TheInside as WorkerInside

worker_fields : AllSend (shape WorkerInside.the_type).fields
worker_fields = (filer_send, (search (sendable, crosses) depth 40, (DiceSent.the_field_send, (search sendable, (search sendable, tt)))))

-- a worker may go to another thread
pub worker_send : IsSend Worker.the_row
worker_send = view_send WorkerInside.the_row _ _ _ _ (recorded_send WorkerInside.the_field.row _ _ WorkerInside.the_type.to_one (struct_send (shape WorkerInside.the_type) worker_fields))

-- and so may an owner
pub owner_send : IsSend Owner.the_field.row
owner_send = struct_send (shape Owner.the_type) (knife_send, (reader_send, (HomesSent.the_field_send, tt)))

pub ruleset workers_cross = (worker_send, owner_send)
