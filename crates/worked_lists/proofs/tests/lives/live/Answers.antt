use Rattle.std.proofs.Common.{arith}
use Rattle.chunk_lists.specs.Knives.{lists_of}
use Rattle.worked_lists.proofs.Laid.{few_seats, lists_with_reader, plots_with_reader}
use Rattle.worked_lists.proofs.tests.lives.live.Goals as goal

pub note-reader-requires : goal.note-reader-requires
note-reader-requires g c = few_seats (lists_of c.in_ok-lists.knife) 1 1 2 1 c.in_ok-lists.ensures.laid_out (omega arith)

pub read_and_sweep-requires-clause-list : goal.read_and_sweep-requires-clause-list
read_and_sweep-requires-clause-list g c = lists_with_reader (lists_of c.in_ok-lists.knife) 1 1 2 1 c.in_ok-lists.ensures.laid_out (lists_of c.note-reader.new.self) c.note-reader.ensures.store

pub read_and_sweep-requires-clause-plots : goal.read_and_sweep-requires-clause-plots
read_and_sweep-requires-clause-plots g c = plots_with_reader (lists_of c.in_ok-lists.knife) 1 1 2 1 c.in_ok-lists.ensures.laid_out (lists_of c.note-reader.new.self) c.note-reader.ensures.store
