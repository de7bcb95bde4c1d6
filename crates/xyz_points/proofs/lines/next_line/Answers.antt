use Rattle.std.proofs.Common.{◌∙◌, sym, ap, List, ℕ, ◌∷◌, []}
use Rattle.std.proofs.lemmas.List.{take_rest}
use Rattle.xyz_points.proofs.LineLaws.{last_line, first_line}
use Rattle.xyz_points.proofs.lines.next_line.Goals as goal

pub returns-in-None-clause-some : goal.returns-in-None-clause-some
returns-in-None-clause-some c = last_line c.args.bytes.now (sym c.is_empty.ensures ∙ c.if-is_empty.false) (sym c.in-None.ensures) ∙ ap (λ (l : List ℕ). l ∷ []) (sym c.without_return.ensures)

pub returns-in-Some-clause-some : goal.returns-in-Some-clause-some
returns-in-Some-clause-some c =
    rw take_rest (rw c.without_return-in-Some.ensures (first_line c.args.bytes.now c.in-Some.k (sym c.in-Some.ensures)))
