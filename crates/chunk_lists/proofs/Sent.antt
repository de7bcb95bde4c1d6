-- The owner of lists may go to another thread.
use denote.Param.Send.{IsSend, AllSend, view_send, recorded_send, struct_send}
use denote.Struct.Declared.{shape}
use Rattle.list_table.proofs.Sent.{owner_send, handle_send}
use Rattle.list_book.proofs.book.Book.TheSendSync as BookSent
use Rattle.list_filers.proofs.rooms.FilerRoom.TheSendSync as RoomSent
use Rattle.chunk_lists.specs.contracts.keeper.Keeper as Keeper
use Rattle.chunk_lists.specs.contracts.keeper.Keeper.TheInside as KeeperInside
use Rattle.chunk_lists.specs.contracts.knife.Knife as Knife
use Rattle.chunk_lists.specs.contracts.knife.Knife.TheInside as KnifeInside

keeper_fields : AllSend (shape KeeperInside.the_type).fields
keeper_fields = (handle_send, (owner_send, (BookSent.the_send, tt)))

keeper_send : IsSend Keeper.the_row
keeper_send = view_send KeeperInside.the_row _ _ _ _ (recorded_send KeeperInside.the_field.row _ _ KeeperInside.the_type.to_one (struct_send (shape KeeperInside.the_type) keeper_fields))

knife_fields : AllSend (shape KnifeInside.the_type).fields
knife_fields = (keeper_send, (RoomSent.the_send, tt))

-- the owner may go to another thread
pub knife_send : IsSend Knife.the_row
knife_send = view_send KnifeInside.the_row _ _ _ _ (recorded_send KnifeInside.the_field.row _ _ KnifeInside.the_type.to_one (struct_send (shape KnifeInside.the_type) knife_fields))
