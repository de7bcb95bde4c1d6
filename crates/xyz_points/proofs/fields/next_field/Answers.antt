use Rattle.std.proofs.Common.{sym, ◌∙◌, ◌+◌, drop}
use Rattle.std.proofs.lemmas.List.{take_rest}
use Rattle.xyz_points.proofs.FieldLaws.{no_field, last_field, first_field}
use Rattle.xyz_points.proofs.fields.next_field.Goals as goal

pub returns-in_err-line-clause-none : goal.returns-in_err-line-clause-none
returns-in_err-line-clause-none c =
    rw c.from_residual.ensures (no_field c.args.line.now (sym c.field_in.ensures ∙ c.in_err-line.was))

pub returns-in-None-clause-some : goal.returns-in-None-clause-some
returns-in-None-clause-some c =
    rw take_rest (last_field c.args.line.now c.in_ok-line.field-0 (sym c.field_in.ensures ∙ c.in_ok-line.was) (rw take_rest at (sym c.in-None.ensures)))

pub returns-in-Some-clause-some : goal.returns-in-Some-clause-some
returns-in-Some-clause-some c =
    rw (take_rest c.args.line.now c.in_ok-line.field-0, take_rest (drop c.in_ok-line.field-0 c.args.line.now) (c.in-Some.k + 1))
    (first_field c.args.line.now c.in_ok-line.field-0 c.in-Some.k (sym c.field_in.ensures ∙ c.in_ok-line.was) (rw take_rest at (sym c.in-Some.ensures)))
