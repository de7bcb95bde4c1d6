use denote.Param.Send.{sendable}
use Rattle.std.proofs.Crossing.{crosses}
use Rattle.list_table.proofs.Sent.{lists_cross}
use Rattle.worked_lists.proofs.Sent.{workers_cross}
use Rattle.worked_lists.proofs.tests.crowded.sweep_and_file.Goals as goal

pub join-owner-requires-send-F : goal.join-owner-requires-send-F
join-owner-requires-send-F g c κs within = search (sendable, crosses, lists_cross, workers_cross) depth 40

pub join-owner-requires-send-A : goal.join-owner-requires-send-A
join-owner-requires-send-A g c κs within = search (sendable, crosses, lists_cross, workers_cross) depth 40
