use Rattle.std.proofs.Common.{ℕ, subst, arith}
use Rattle.chunk_lists.specs.Knives.{lists_of}
use Rattle.list_filers.specs.Filers.{shared_name}
use Rattle.worked_lists.proofs.Laying.{IsPartlyLaidOut, partly_more}
use Rattle.worked_lists.proofs.layout.lay_out.Goals as goal

pub loop-list-preserved : goal.loop-list-preserved
loop-list-preserved c =
    let name = shared_name c.in_ok-shared.shared.value in
    let n : ℕ = c.loop-list.list in
    let new = lists_of c.open_with_chunks.new.knife in
    subst (IsPartlyLaidOut new name c.args.lists c.args.chunks) (omega arith)
    (partly_more (lists_of c.loop-list.knife) new name c.args.lists c.args.chunks n c.loop-list.invariant c.in_ok-open_with_chunks.ensures)
