-- What a file without and with a refusal is read as.
use Rattle.std.proofs.Common.{◌≡◌, ℕ, List, Some, None, Ok, Err, refl, ap}
use Rattle.cube_math.specs.Points.{PointValue}
use Rattle.las_points.specs.Fields.{point_count, frame}
use Rattle.las_points.specs.Refusals.{first_refusal}
use Rattle.las_points.specs.Reading.{cloud, first_points, las, unless, IsFault}
use Rattle.las_points.specs.declared.reader.LasFault.{LasFault}
use Rattle.las_points.specs.declared.reader.LasFault.TheVariants.{NotLas, HeaderShort, Version, Compressed, Format, Length, Start, PointsShort, Memory}
use Rattle.las_points.specs.declared.reader.RgbByte.{RgbByte}

-- the first refusal is the answer
las-refused : (rgb : RgbByte) (bytes : List ℕ) (fault : LasFault) → first_refusal bytes ≡ Some fault → las rgb bytes ≡ Err fault
unfolding las
las-refused rgb bytes fault first = ap (λ refusal. unless refusal (cloud rgb bytes)) first

-- and so it is a fault of the file
pub IsFault-refused : (rgb : RgbByte) (bytes : List ℕ) (fault : LasFault) → first_refusal bytes ≡ Some fault → IsFault rgb bytes fault
IsFault-refused rgb bytes NotLas first = las-refused rgb bytes NotLas first
IsFault-refused rgb bytes (HeaderShort have) first = las-refused rgb bytes (HeaderShort have) first
IsFault-refused rgb bytes (Version major minor) first = las-refused rgb bytes (Version major minor) first
IsFault-refused rgb bytes (Compressed byte) first = las-refused rgb bytes (Compressed byte) first
IsFault-refused rgb bytes (Format byte) first = las-refused rgb bytes (Format byte) first
IsFault-refused rgb bytes (Length have need) first = las-refused rgb bytes (Length have need) first
IsFault-refused rgb bytes (Start offset header) first = las-refused rgb bytes (Start offset header) first
IsFault-refused rgb bytes (PointsShort have need) first = las-refused rgb bytes (PointsShort have need) first
IsFault-refused rgb bytes Memory first = tt

-- a file without a refusal is its points and its frame
pub las-accepted : (rgb : RgbByte) (bytes : List ℕ) (count : ℕ) (points : List PointValue) → first_refusal bytes ≡ None → count ≡ point_count bytes
    → points ≡ first_points rgb bytes count → las rgb bytes ≡ Ok (record { points = points; frame = frame bytes })
unfolding las
las-accepted rgb bytes count points none counted is = rw (none, is, counted) refl
