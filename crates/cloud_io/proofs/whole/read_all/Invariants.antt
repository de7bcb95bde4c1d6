use Rattle.std.proofs.Common.{◌≡◌, ◌-◌, ◌^◌, ◌<◌, ◌≤◌, ◌++◌, ◌∷◌, [], length}
use Rattle.cloud_io.specs.Files.{begun}
use Rattle.cloud_io.proofs.Prefixes.{HasBegun}
use Rattle.cloud_io.proofs.whole.read_all.Given as goal

abbrev pub invariant-loop-bytes : goal.invariant-loop-bytes
invariant-loop-bytes g l = record {
  room : 0 < length l.piece;
  small : length l.piece ≤ 2 ^ 16;
  few : length l.bytes.items ≤ l.most;
  files : g.I.Inputs.files l.inputs ≡ g.I.Inputs.files l.fn.inputs;
  number : l.file ≡ length (g.I.Inputs.opened l.fn.inputs);
  behind : g.I.Inputs.opened l.inputs ≡ g.I.Inputs.opened l.fn.inputs ++ begun l.name l.bytes.items ∷ [];
  begun : HasBegun (g.I.Inputs.files l.fn.inputs) l.name l.bytes.items;
  faults : g.I.Inputs.faults l.inputs ≡ g.I.Inputs.faults l.fn.inputs;
  missing : g.I.Inputs.missing l.inputs ≡ g.I.Inputs.missing l.fn.inputs;
}

abbrev pub decreases-loop-bytes : goal.decreases-loop-bytes
decreases-loop-bytes g l = l.most - length l.bytes.items
