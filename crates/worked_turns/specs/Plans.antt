-- What a pass of a crowd does in its turns.
use Rattle.std.specs.Prelude.{ℕ, pos, ◌%◌, ◌==◌, if◌then◌else◌, Option, Some, None}
use Rattle.cube_math.specs.Points.{PointValue}
use Rattle.record_model.specs.declared.event.Act.{Act}
use Rattle.record_model.specs.declared.event.Act.TheVariants.{Admitted, Published, Looked}

-- what is done in the turn of this number: the even turns admit, publish and look, over and over, and the odd ones do nothing
abbrev pub planned : ℕ → Option Act
planned turn =
    if turn % 6 == 0 then Some Admitted
    else if turn % 6 == 2 then Some Published
    else if turn % 6 == 4 then Some Looked
    else None

-- the white point of each batch
abbrev pub white_point : PointValue
white_point = record { x = pos 1; y = pos 2; z = pos 3; rgb = 16777215 }
