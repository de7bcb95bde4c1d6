use Rattle.std.proofs.Common.{◌≡◌, ◌<◌, get_or, List, ℕ, map, subst, sym, arith, ap, ◌++◌, take, drop, length, ◌∙◌}
use Rattle.std.proofs.Math.Seq.{take-append_seam}
use Rattle.cube_math.specs.Cubes.{cell}
use Rattle.octree_model.specs.Numbers.{ascending}
use Rattle.octree_plain.specs.Sampling.{HasLeastKeys}
use Rattle.octree_plain.proofs.LeastKeys.{cells_are_small, cells_have_places, coloured_cells}
use Rattle.octree_plain.proofs.sampling.Sampler.sample.Goals as goal

-- a vector that was written to in its whole length has what was written
whole : (n : ℕ) (new old : List ℕ) → n ≡ length new → take n (new ++ drop (length new) old) ≡ new
whole n new old e = ap (λ m. take m (new ++ drop (length new) old)) e ∙ take-append_seam new (drop (length new) old)

pub coloured-requires-clause-small : goal.coloured-requires-clause-small
coloured-requires-clause-small c =
    let cells : c.deref.result.now ≡ ascending (map (cell c.args.cube.now) c.args.points.now) = c.deref.ensures.value ∙ c.in_ok-cells.ensures.cells ∙ c.in_ok-octants.ensures.cells in
    cells_are_small c.args.cube.now c.args.points.now c.deref.result.now _ _ cells c.in_ok-octants.ensures.least_keys

pub coloured-requires-clause-placed : goal.coloured-requires-clause-placed
coloured-requires-clause-placed c =
    let cells : c.deref.result.now ≡ ascending (map (cell c.args.cube.now) c.args.points.now) = c.deref.ensures.value ∙ c.in_ok-cells.ensures.cells ∙ c.in_ok-octants.ensures.cells in
    let places : c.deref-2.result.now ≡ c.find_cells.new.places = c.deref-2.ensures.value ∙ whole _ _ _ (omega arith) in
    subst (λ (t : List ℕ). (k d : ℕ) → k < length c.deref.result.now → get_or t (get_or c.deref.result.now k d) 0 < length c.deref-3.result.now) (sym places)
    (rw c.deref-3.ensures.value (cells_have_places c.args.cube.now c.args.points.now c.deref.result.now _ _ cells c.in_ok-octants.ensures.least_keys))

pub returns-clause-voxels : goal.returns-clause-voxels
returns-clause-voxels c =
    let cells : c.deref.result.now ≡ ascending (map (cell c.args.cube.now) c.args.points.now) = c.deref.ensures.value ∙ c.in_ok-cells.ensures.cells ∙ c.in_ok-octants.ensures.cells in
    let places : c.deref-2.result.now ≡ c.find_cells.new.places = c.deref-2.ensures.value ∙ whole _ _ _ (omega arith) in
    let keys : c.deref-3.result.now ≡ c.find_cells.new.keys.items = c.deref-3.ensures.value in
    let table : HasLeastKeys c.args.cube.now c.args.points.now c.deref-2.result.now c.deref-3.result.now = rw (places, keys) c.in_ok-octants.ensures.least_keys in
    c.in_ok-coloured.ensures ∙ coloured_cells c.args.cube.now c.args.points.now _ _ _ cells table
