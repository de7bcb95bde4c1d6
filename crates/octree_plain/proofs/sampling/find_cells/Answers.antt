use Rattle.std.proofs.Common.{◌≡◌, ◌+◌, ◌++◌, ◌<◌, List, [], ◌∷◌, length, take, map, arith, ap, refl, sym, subst, ◌∙◌, get_or, min, IsTrue, true, false}
use Rattle.std.proofs.lemmas.List.{take_more, length_push, length-set}
use Rattle.std.proofs.lemmas.Grind.{get_or_default_zero}
use Rattle.cube_math.specs.Points.{PointValue}
use Rattle.cube_math.specs.Cubes.{cell, contains}
use Rattle.octree_model.specs.Numbers.{has}
use Rattle.octree_plain.specs.Sampling.{HasLeastKeys}
use Rattle.octree_plain.proofs.LeastKeys.{known_cell, new_cell, found_more, key_in_new_cell, key_in_old_cell, one_cell_more, no_cell_less}
use Rattle.octree_plain.proofs.SpreadLaws.{count_more, few_counted}
use Rattle.octree_plain.proofs.sampling.find_cells.Goals as goal
use Rattle.octree_plain.proofs.sampling.find_cells.Goals.{then-is_new+in_ok-push, else-is_new}

pub overflow_add-octants : goal.overflow_add-octants
overflow_add-octants c = omega (arith, few_counted c.args.cube.now c.args.points.now c.loop-p.p-index c.from.result c.loop-p.octants (omega arith) (omega (arith, c.octant.ensures.below)) c.loop-p.invariant.counted)

pub index_mut-least-requires : goal.index_mut-least-requires
index_mut-least-requires c =
    let old : has c.cell-cell.result (map (cell c.args.cube.now) (take c.loop-p.p-index c.args.points.now)) ≡ true =
    known_cell c.cell-cell.result _ c.loop-p.cells c.loop-p.invariant.found (sym c.if-is_new.false ∙ c.insert-is_new.ensures.new) in
    omega (arith, (c.loop-p.invariant.least.each c.cell-cell.result old).within, c.loop-p.keys.ok)

pub loop-p-preserved : goal.loop-p-preserved
loop-p-preserved c =
    let before : List PointValue = take c.loop-p.p-index c.args.points.now in
    let next : take (c.loop-p.p-index + 1) c.args.points.now ≡ before ++ c.p-item.result ∷ [] =
    take_more c.args.points.now c.loop-p.p-index c.p-item.result c.loop-p-test.true ∙ ap (λ q. take c.loop-p.p-index c.args.points.now ++ q ∷ []) (sym c.p-item.is) in
    let in_table : c.cell-cell.result < length c.loop-p.places = omega (arith, c.cell-cell.ensures.below) in
    let here = c.cell-cell.ensures.value in
    let contained : IsTrue (contains c.args.cube.now c.p-item.result) = subst (λ q. IsTrue (contains c.args.cube.now q)) (sym c.p-item.is) (c.requires.contained c.loop-p.p-index c.p-item.result c.loop-p-test.true) in
    record {
      counted = count_more c.args.cube.now c.args.points.now c.loop-p.p-index c.from.result _ c.p-item.result c.loop-p.octants (omega arith) (omega arith) c.p-item.is
          contained (c.from.ensures ∙ c.octant.ensures.value) (omega (arith, c.octant.ensures.below)) c.loop-p.invariant.counted refl;
      found = found_more c.args.cube.now c.args.points.now c.loop-p.p-index c.cell-cell.result c.p-item.result c.loop-p.cells c.insert-is_new.new.self c.loop-p.invariant.found c.insert-is_new.ensures.cells here next;
      few = elim c.if-is_new.branch [
        | then-is_new+in_ok-push w ↦ rw w.keys-is (omega (
          arith,
          ap length w.in_ok-push.ensures.items,
          length_push c.loop-p.keys.items c.key_of-key.result,
          one_cell_more c.cell-cell.result c.loop-p.cells c.insert-is_new.new.self (sym w.if-is_new.true ∙ c.insert-is_new.ensures.new) c.insert-is_new.ensures.cells,
          c.loop-p.invariant.few,
        ))
        | else-is_new w ↦ rw w.keys-is (omega (
          arith,
          length-set c.loop-p.keys.items (get_or c.loop-p.places c.cell-cell.result 0) w.min.result,
          no_cell_less c.cell-cell.result c.loop-p.cells c.insert-is_new.new.self c.insert-is_new.ensures.cells,
          c.loop-p.invariant.few,
        ))
      ];
      least = subst (λ (qs : List PointValue). HasLeastKeys c.args.cube.now qs c.if-is_new.places c.if-is_new.keys.items) (sym next) (elim c.if-is_new.branch [
        | then-is_new+in_ok-push w ↦
            let new : has c.cell-cell.result (map (cell c.args.cube.now) before) ≡ false = new_cell c.cell-cell.result _ c.loop-p.cells c.loop-p.invariant.found (sym w.if-is_new.true ∙ c.insert-is_new.ensures.new) in
            rw (w.places-is, w.keys-is) (key_in_new_cell c.args.cube.now before c.p-item.result c.loop-p.places c.loop-p.keys.items _ c.cell-cell.result c.key_of-key.result _ in_table c.cell-cell.ensures.below here c.key_of-key.ensures new
            (omega (arith, w.len.ensures, c.loop-p.keys.ok, c.loop-p.invariant.few, c.insert-is_new.ensures.few)) w.in_ok-push.ensures.items c.loop-p.invariant.least)
        | else-is_new w ↦
            let old : has c.cell-cell.result (map (cell c.args.cube.now) before) ≡ true = known_cell c.cell-cell.result _ c.loop-p.cells c.loop-p.invariant.found (sym w.if-is_new.false ∙ c.insert-is_new.ensures.new) in
            rw (w.places-is, w.keys-is) (key_in_old_cell c.args.cube.now before c.p-item.result c.loop-p.places c.loop-p.keys.items c.cell-cell.result c.key_of-key.result _ _ here c.key_of-key.ensures old refl (w.min.ensures ∙ ap (λ n. min c.key_of-key.result n) (w.index_mut-least.ensures.value ∙ get_or_default_zero c.loop-p.keys.items _ w.index_mut-least.result.now (c.loop-p.invariant.least.each c.cell-cell.result old).within)) c.loop-p.invariant.least)
      ]);
    }
