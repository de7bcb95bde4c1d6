use Rattle.std.proofs.Common.{◌≡◌, ◌≤◌, map, take, string_bytes, vec_items}
use Rattle.std.specs.Prelude.{option_map}
use Rattle.simlod_app.proofs.Openings.{AreRead}
use Rattle.simlod_app.proofs.reading.read_clouds.Given as goal

abbrev pub invariant-loop-name : goal.invariant-loop-name
invariant-loop-name g l = record {
  kept : g.I.Inputs.files l.inputs ≡ g.I.Inputs.files l.fn.inputs;
  faults : g.I.Inputs.faults l.fn.inputs ≤ g.I.Inputs.faults l.inputs;
  missing : g.I.Inputs.missing l.fn.inputs ≤ g.I.Inputs.missing l.inputs;
  read : AreRead (g.I.Inputs.files l.fn.inputs) (map string_bytes (take l.name-index l.names)) l.how (option_map (λ f. (f.name.now, f.frame)) l.first) (map vec_items l.clouds.items)
      (g.I.Inputs.opened l.fn.inputs) (g.I.Inputs.opened l.inputs);
}
