-- Seats at a table of lists may go to another thread, and the lists may be shared.
use denote.Builtin.{unit}
use denote.Param.Send.{IsSend, IsSync, AllSend, view_send, recorded_send, struct_send, sendable}
use denote.Struct.Declared.{shape}
use Rattle.std.proofs.Crossing.{crosses}
use Rattle.std.specs.contracts.alloc.Global as Heap
use Rattle.std.specs.contracts.impls.GlobalAllocator.TheImpl as HeapImpl
use Rattle.std.specs.contracts.sync.Arc as Arc
use Rattle.atomic_table.proofs.shared.Seat.TheSendSync as SeatSent
use Rattle.list_table.specs.contracts.views.View as View
use Rattle.list_table.specs.contracts.seats.OwnerSeat as OwnerSeat
use Rattle.list_table.specs.contracts.seats.OwnerSeat.TheInside as OwnerInside
use Rattle.list_table.specs.contracts.seats.GuestSeat as GuestSeat
use Rattle.list_table.specs.contracts.seats.GuestSeat.TheInside as GuestInside
use Rattle.list_table.specs.contracts.lists.SharedLists as SharedLists
use Rattle.list_table.proofs.lists.SharedLists.TheSendSync as ListsSent

unit_send : IsSend unit
unit_send = search sendable

guest_fields : AllSend (shape GuestInside.the_type).fields
guest_fields = (SeatSent.the_send unit View.the_row unit_send, (search crosses, tt))

-- a guest's seat may go to another thread
pub guest_send : IsSend GuestSeat.the_row
guest_send = view_send GuestInside.the_row _ _ _ _ (recorded_send GuestInside.the_field.row _ _ GuestInside.the_type.to_one (struct_send (shape GuestInside.the_type) guest_fields))

owner_fields : AllSend (shape OwnerInside.the_type).fields
owner_fields = (SeatSent.the_send unit View.the_row unit_send, (search crosses, tt))

-- and so may the owner's
pub owner_send : IsSend OwnerSeat.the_row
owner_send = view_send OwnerInside.the_row _ _ _ _ (recorded_send OwnerInside.the_field.row _ _ OwnerInside.the_type.to_one (struct_send (shape OwnerInside.the_type) owner_fields))

-- the lists may be handed to another thread, and shared by threads
pub lists_send : IsSend SharedLists.the_row
lists_send = ListsSent.the_send

pub lists_sync : IsSync SharedLists.the_row
lists_sync = ListsSent.the_sync

pub ruleset lists_cross = (guest_send, owner_send, lists_send, lists_sync)

-- and so may an owned handle on them
pub handle_send : IsSend (Arc.the_row SharedLists.the_row Heap.the_row HeapImpl.ghosts)
handle_send = search (sendable, crosses, lists_cross) depth 40
