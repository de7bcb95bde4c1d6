use Rattle.std.proofs.Common.{ℕ, ◌≡◌, ◌-◌, ◌%◌, ◌/◌, ◌*◌, ◌^◌, ◌≤◌, pos, ◌+ℤ◌, ◌≤ℤ◌, arith, ap, sym, ◌∙◌}
use Rattle.std.specs.Int.{abs_diff}
use Rattle.std.proofs.lemmas.Bool.{and_parts}
use Rattle.std.proofs.lemmas.Int.{ints}
use Rattle.std.proofs.lemmas.Nat.{div-add-mod', mod_below}
use Rattle.cube_math.specs.Cubes.{distance}
use Rattle.cube_math.proofs.Axes.{CellSide, cell_side, from_part_middle, rest_from_middle}
use Rattle.cube_math.proofs.Halves.{distance_is, le_from}
use Rattle.cube_math.proofs.cube.away_from_middle.Goals as goal

-- the code's parts, as the definition has them
is_away : (bits d r far : ℕ) → CellSide bits → far ≡ r → r ≡ abs_diff (d % (1 * 2 ^ (bits - 7) % 4294967296)) ((1 * 2 ^ (bits - 7) % 4294967296) / 2) → far ≡ abs_diff (d % 2 ^ (bits - 7)) (2 ^ (bits - 8))
is_away bits d r far s e f =
    let half : 2 ^ (bits - 7) / 2 ≡ 2 ^ (bits - 8) = omega (arith, s.twice) in
    e ∙ f ∙ ap (λ n. abs_diff (d % n) (n / 2)) s.shifted ∙ ap (λ n. abs_diff (d % 2 ^ (bits - 7)) n) half

pub returns-clause-value : goal.returns-clause-value
returns-clause-value c =
    let side : CellSide c.args.bits = cell_side c.args.bits c.requires.low c.requires.high in
    let low : c.args.o ≤ℤ c.args.x = le_from _ _ (and_parts _ _ c.requires.contained).0 in
    let at : c.args.x ≡ c.args.o +ℤ pos (distance c.args.o c.args.x) = distance_is c.args.o c.args.x low in
    let same : c.distance_from.result ≡ distance c.args.o c.args.x = grind (arith, ints) in
    is_away c.args.bits c.distance_from.result c.abs_diff.result c.from.result side c.from.ensures c.abs_diff.ensures
    ∙ ap (λ n. abs_diff (n % 2 ^ (c.args.bits - 7)) (2 ^ (c.args.bits - 8))) same
    ∙ sym (from_part_middle c.args.o c.args.x (2 ^ (c.args.bits - 7)) (2 ^ (c.args.bits - 8)) (distance c.args.o c.args.x) (distance c.args.o c.args.x / 2 ^ (c.args.bits - 7)) (distance c.args.o c.args.x % 2 ^ (c.args.bits - 7)) at (div-add-mod' (distance c.args.o c.args.x) (2 ^ (c.args.bits - 7))))

pub returns-clause-small : goal.returns-clause-small
returns-clause-small c =
    let side : CellSide c.args.bits = cell_side c.args.bits c.requires.low c.requires.high in
    let rest : abs_diff (c.distance_from.result % 2 ^ (c.args.bits - 7)) (2 ^ (c.args.bits - 8)) ≤ 2 ^ (c.args.bits - 8) =
    rest_from_middle (c.distance_from.result % 2 ^ (c.args.bits - 7)) (2 ^ (c.args.bits - 7)) (2 ^ (c.args.bits - 8)) (mod_below c.distance_from.result (2 ^ (c.args.bits - 7)) side.some) side.twice in
    omega (arith, rest, side.small, is_away c.args.bits c.distance_from.result c.abs_diff.result c.from.result side c.from.ensures c.abs_diff.ensures)
