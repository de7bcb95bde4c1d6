use Rattle.std.proofs.Common.{◌≤◌, ◌+◌}
use Rattle.list_words.specs.Store.{row}
use Rattle.chunk_lists.specs.Knives.{lists_of}
use Rattle.worked_lists.specs.Layouts.{IsOpenedWith}
use Rattle.worked_lists.proofs.layout.open_with_chunks.Given as goal

abbrev pub invariant-loop-chunk : goal.invariant-loop-chunk
invariant-loop-chunk l = IsOpenedWith (lists_of l.fn.knife) (lists_of l.knife) l.list l._chunk × (l.chunks ≤ (row (lists_of l.knife) l.list).claimed_room + l._chunk)
