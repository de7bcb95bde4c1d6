use Rattle.std.proofs.Common.{◌≡◌, ℕ, map, vec_items, length, []}
use Rattle.occupancy_grid.specs.Pages.{words_of}
use Rattle.occupancy_grid.proofs.grid.unmade_pages.Given as goal

abbrev pub invariant-loop-page : goal.invariant-loop-page
invariant-loop-page l = record {
  many : length (map vec_items l.pages.items) ≡ l._page;
  unmade : (p : ℕ) → words_of (map vec_items l.pages.items) p ≡ [];
}
