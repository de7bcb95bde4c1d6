use Rattle.std.proofs.Common.{◌≡◌, ◌≤◌, ◌<◌, ◌⊎◌, ℕ, get_or}
use Rattle.least_runs.proofs.cell_marks.clear_block.Given as goal

abbrev pub invariant-loop-w : goal.invariant-loop-w
invariant-loop-w l = record {
  block : (w : ℕ) → l.first ≤ w → w < l.w → get_or l.words w 0 ≡ 0;
  rest : (w : ℕ) → (get_or l.words w 0 ≡ 0) ⊎ (get_or l.words w 0 ≡ get_or l.fn.words w 0);
}
