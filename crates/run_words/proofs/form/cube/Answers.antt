use Rattle.std.proofs.Common.{◌≡◌, ◌∙◌, sym, w32, to_z, of_z, rules}
use Rattle.run_words.proofs.Cubes.{new_cube, no_y, no_z, no_bits, four_pieces}
use Rattle.run_words.proofs.form.cube.Goals as goal

pub returns-in_err-y : goal.returns-in_err-y
returns-in_err-y c = c.from_residual-in_err-y.ensures ∙ no_y c.args.text.now _ c.piece-2.ensures c.in_err-y.ensures

pub returns-in_err-z : goal.returns-in_err-z
returns-in_err-z c = c.from_residual-in_err-z.ensures ∙ no_z c.args.text.now _ c.piece-3.ensures c.in_err-z.ensures

pub returns-in_err-bits : goal.returns-in_err-bits
returns-in_err-bits c = c.from_residual-in_err-bits.ensures ∙ no_bits c.args.text.now _ c.piece-4.ensures c.in_err-bits.ensures.value

pub returns : goal.returns
returns c =
    let within = c.in_ok-bits.ensures.within in
    let x : to_z w32 (of_z w32 c.in_ok-x.x) ≡ c.in_ok-x.x = search rules in
    let y : to_z w32 (of_z w32 c.in_ok-y.y) ≡ c.in_ok-y.y = search rules in
    let z : to_z w32 (of_z w32 c.in_ok-z.z) ≡ c.in_ok-z.z = search rules in
    let fits = rw (x, y, z) at c.new.ensures.fits in
    let value = rw (x, y, z) at c.new.ensures.value in
    let new = new_cube c.new.result c.in_ok-x.x c.in_ok-y.y c.in_ok-z.z c.in_ok-bits.bits fits value within.0 within.1 in
    four_pieces c.args.text.now _ _ _ _ _ _ _ _ c.new.result (sym c.piece_count.ensures ∙ c.if-piece_count-ne4.false) c.piece.ensures c.in_ok-x.ensures c.piece-2.ensures c.in_ok-y.ensures c.piece-3.ensures c.in_ok-z.ensures c.piece-4.ensures c.in_ok-bits.ensures.value new
