-- Texts, and what the definition says of them.
use Rattle.std.proofs.Common.{◌≡◌, codes, refl, ◌∷◌, [], Ok, Err, pos, negsuc}
use Rattle.xyz_points.specs.Reading.{xyz}
use Rattle.xyz_points.specs.declared.reader.XyzFault.TheVariants.{Fields, Number, Range}

-- a coordinate is rounded down; a carriage return and a comma are no text
rounded_down : xyz 3 (codes "-0.0005 0 0\r\n1,2,3,255,0,10\r\n")
    ≡ Ok (record { x = negsuc 0; y = pos 0; z = pos 0; rgb = 16777215 } ∷ record { x = pos 1000; y = pos 2000; z = pos 3000; rgb = 16711690 } ∷ [])
unfolding xyz
rounded_down = refl

-- an intensity has no range, and the least coordinate is one
least_with_intensity : xyz 3 (codes "-2147483.648 .5 +1. 99999999999 1 2 3")
    ≡ Ok (record { x = negsuc 2147483647; y = pos 500; z = pos 1000; rgb = 66051 } ∷ [])
unfolding xyz
least_with_intensity = refl

-- one step further down is out of range
below_least : xyz 3 (codes "-2147483.6485 0 0") ≡ Err (Range 1 1)
unfolding xyz
below_least = refl

-- a comment counts as a line, and an exponent is no number
exponent : xyz 3 (codes "# a\n1e3 0 0") ≡ Err (Number 2 1)
unfolding xyz
exponent = refl

-- the number of fields comes before what is wrong with one
five_fields : xyz 3 (codes "x 2 3 4 5") ≡ Err (Fields 1 5)
unfolding xyz
five_fields = refl

-- the first bad field of the first bad line
first_bad : xyz 3 (codes "0 0 0 256 0 x\n. 0 0") ≡ Err (Range 1 4)
unfolding xyz
first_bad = refl

-- a second point is no digit
two_points : xyz 3 (codes "\n//\n 0\t1..2 0") ≡ Err (Number 3 2)
unfolding xyz
two_points = refl

-- lines without fields are no points
nothing : xyz 3 (codes "\r") ≡ Ok []
unfolding xyz
nothing = refl
