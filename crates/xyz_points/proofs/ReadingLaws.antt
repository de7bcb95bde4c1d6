-- The reading of a text, line by line.
use Rattle.std.proofs.Common.{◌≡◌, ℕ, ◌+◌, List, [], ◌∷◌, ◌++◌, Some, Result, Ok, Err, ap, ◌∙◌, sym, refl, append_assoc, filter_map}
use Rattle.std.specs.List.{enumerate_from}
use Rattle.cube_math.specs.Points.{PointValue}
use Rattle.xyz_points.specs.declared.reader.XyzFault.{XyzFault}
use Rattle.xyz_points.specs.Lines.{lines_of}
use Rattle.xyz_points.specs.Reading.{and_then, all_or_first_error, line_reading, xyz}

-- what the lines from number n on say
abbrev pub lines_reading : ℕ → ℕ → List (List ℕ) → Result (List PointValue) XyzFault
lines_reading d n lines = all_or_first_error (filter_map (λ l. line_reading d l.0 l.1) (enumerate_from n lines))

-- points in front of those of a reading
abbrev pub behind_points : List PointValue → Result (List PointValue) XyzFault → Result (List PointValue) XyzFault
behind_points ps reading = and_then reading (λ qs. Ok (ps ++ qs))

-- no points in front change nothing
no_points : (reading : Result (List PointValue) XyzFault) → behind_points [] reading ≡ reading
no_points (Ok qs) = refl
no_points (Err e) = refl

-- a point may be put behind those in front, or in front of those behind
one_more : (ps : List PointValue) (p : PointValue) (reading : Result (List PointValue) XyzFault)
    → behind_points (ps ++ p ∷ []) reading ≡ behind_points ps (and_then reading (λ qs. Ok (p ∷ qs)))
one_more ps p (Ok qs) = ap Ok (append_assoc ps (p ∷ []) qs)
one_more ps p (Err e) = refl

-- before the first line there is no point
pub at_start : (d : ℕ) (bytes : List ℕ) → behind_points [] (lines_reading d 1 (lines_of bytes)) ≡ xyz d bytes
unfolding xyz
at_start d bytes = no_points (lines_reading d 1 (lines_of bytes))

-- the point of a line stands behind those before it
pub at_point : (d n : ℕ) (ps : List PointValue) (p : PointValue) (rest text behind : List ℕ) → lines_of rest ≡ text ∷ lines_of behind → line_reading d n text ≡ Some (Ok p)
    → behind_points (ps ++ p ∷ []) (lines_reading d (n + 1) (lines_of behind)) ≡ behind_points ps (lines_reading d n (lines_of rest))
at_point d n ps p rest text behind e point = one_more ps p (lines_reading d (n + 1) (lines_of behind)) ∙ sym (rw (e, point) refl)
