use denote.Param.Send.{sendable}
use Rattle.worked_lists.proofs.Sent.{workers_cross}
use Rattle.worked_lists.proofs.crowd.file_at_once.Goals as goal

pub map_vec-requires-send-J : goal.map_vec-requires-send-J
map_vec-requires-send-J g c κs within = search (sendable, workers_cross) depth 40

pub map_vec-requires-send-X : goal.map_vec-requires-send-X
map_vec-requires-send-X g c κs within = search (sendable, workers_cross) depth 40
