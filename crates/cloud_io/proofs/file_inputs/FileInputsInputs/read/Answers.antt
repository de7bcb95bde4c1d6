use Rattle.cloud_io.proofs.SystemReads.{within, reads_number, consumes_number}
use Rattle.cloud_io.proofs.file_inputs.FileInputsInputs.read.Goals as goal

pub returns-then-is_err-clause-reads : goal.returns-then-is_err-clause-reads
returns-then-is_err-clause-reads g c = reads_number c.args.self.now.opened.items c.args.file c.index_mut.result.now c.read-given.new.self c.read-given.result c.read-given.new.buf (within _ _ c.requires) c.index_mut.ensures.value c.read-given.ensures.reads

pub returns-then-is_err-clause-consumes : goal.returns-then-is_err-clause-consumes
returns-then-is_err-clause-consumes g c = consumes_number g.R.File.Read.remaining c.args.self.now.opened.items c.args.file c.index_mut.result.now c.read-given.new.self c.read-given.result c.read-given.new.buf (within _ _ c.requires) c.index_mut.ensures.value c.read-given.ensures.bytes

pub returns-else-is_err-clause-reads : goal.returns-else-is_err-clause-reads
returns-else-is_err-clause-reads g c = reads_number c.args.self.now.opened.items c.args.file c.index_mut.result.now c.read-given.new.self c.read-given.result c.read-given.new.buf (within _ _ c.requires) c.index_mut.ensures.value c.read-given.ensures.reads

pub returns-else-is_err-clause-consumes : goal.returns-else-is_err-clause-consumes
returns-else-is_err-clause-consumes g c = consumes_number g.R.File.Read.remaining c.args.self.now.opened.items c.args.file c.index_mut.result.now c.read-given.new.self c.read-given.result c.read-given.new.buf (within _ _ c.requires) c.index_mut.ensures.value c.read-given.ensures.bytes
