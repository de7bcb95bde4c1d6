use Rattle.std.proofs.Common.{◌≡◌, ◌++◌, drop, None}
use Rattle.camera_cut.proofs.CutLaws.{walk}
use Rattle.camera_cut.proofs.cut.shown_nodes.Given as goal

abbrev pub invariant-loop-node : goal.invariant-loop-node
invariant-loop-node l = l.shown.items ++ walk l.camera l.last (drop l.node-index l.outline) ≡ walk l.camera None l.outline
