use Rattle.std.proofs.Common.{List, ap, ◌∙◌}
use Rattle.cloud_io.specs.HeldFiles.{opened_of}
use Rattle.cloud_io.specs.declared.named_file.OpenFile.{OpenFile}
use Rattle.cloud_io.proofs.OpenFiles.{opened_none}
use Rattle.cloud_io.proofs.mem_inputs.MemInputs.new.Goals as goal

pub returns-clause-opened : goal.returns-clause-opened
returns-clause-opened c = ap (λ (l : List OpenFile). opened_of c.new.result.files.items l) c.new.ensures.opened ∙ opened_none _
