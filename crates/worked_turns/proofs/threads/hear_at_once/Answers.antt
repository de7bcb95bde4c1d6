use denote.Param.Send.{sendable}
use Rattle.std.proofs.Crossing.{crosses}
use Rattle.worked_turns.proofs.Sent.{turns_cross}
use Rattle.worked_turns.proofs.threads.hear_at_once.Goals as goal

pub join-requires-send-F : goal.join-requires-send-F
join-requires-send-F g c κs within = search (sendable, crosses, turns_cross) depth 40

pub join-requires-send-A : goal.join-requires-send-A
join-requires-send-A g c κs within = search (sendable, crosses, turns_cross) depth 40
