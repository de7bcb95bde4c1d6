-- The text of what points take up: their number, their least and greatest coordinates, and the cube round them.
use Rattle.std.specs.Prelude.{ℕ, ℤ, ◌==◌, List, [], ◌++◌, length, codes, decimal, if◌then◌else◌}
use Rattle.std.specs.Fmt.{signed_decimal}
use Rattle.cube_math.specs.Points.{PointValue}
use Rattle.cube_math.specs.Cubes.{CubeValue}
use Rattle.octree_plain.specs.Fitting.{on_x, on_y, on_z, least_of, greatest_of}
use Rattle.octree_plain.specs.Listing.{line_feed, cube_line}

-- a word and three coordinates
abbrev pub corner_line : List ℕ → ℤ → ℤ → ℤ → List ℕ
corner_line word x y z = word ++ codes " " ++ signed_decimal x ++ codes " " ++ signed_decimal y ++ codes " " ++ signed_decimal z ++ line_feed

-- the least coordinates
abbrev pub least_line : List PointValue → List ℕ
least_line ps = corner_line (codes "min") (least_of (on_x ps)) (least_of (on_y ps)) (least_of (on_z ps))

-- the greatest coordinates
abbrev pub greatest_line : List PointValue → List ℕ
greatest_line ps = corner_line (codes "max") (greatest_of (on_x ps)) (greatest_of (on_y ps)) (greatest_of (on_z ps))

-- the least and the greatest coordinates, where there are points
abbrev pub corner_lines : List PointValue → List ℕ
corner_lines ps = if length ps == 0 then [] else least_line ps ++ greatest_line ps

-- the whole text
abbrev pub bounds_text : List PointValue → CubeValue → List ℕ
bounds_text ps c = codes "points " ++ decimal (length ps) ++ line_feed ++ corner_lines ps ++ cube_line c
