-- The first line of a text.
use Rattle.std.proofs.Common.{◌≡◌, ℕ, ◌+◌, ◌<◌, ◌==◌, List, [], ◌∷◌, take, drop, map, length, Some, None, ap, ◌∙◌, refl, arith, count_by, false, position}
use Rattle.std.specs.List.{slice_split}
use Rattle.std.proofs.lemmas.List.Splits.{length-slice_split}
use Rattle.xyz_points.specs.Lines.{is_empty, lines_of, without_empty_rest, without_return}
use Rattle.xyz_points.proofs.Cuts.{uncut, cut_at}

-- a piece before others is a line
first_piece : (line : List ℕ) (more : List (List ℕ)) → 0 < length more → without_empty_rest (line ∷ more) ≡ line ∷ without_empty_rest more
first_piece line [] some = absurd (omega arith)
first_piece line (next ∷ more) some = refl

-- a text without a line feed is one line
pub last_line : (bytes : List ℕ) → is_empty bytes ≡ false → position (λ b. b == 10) bytes ≡ None → lines_of bytes ≡ without_return bytes ∷ []
last_line bytes some e = rw (uncut (λ b. b == 10) bytes e, some) refl

-- the first line of a text ends at its first line feed
pub first_line : (bytes : List ℕ) (k : ℕ) → position (λ b. b == 10) bytes ≡ Some k → lines_of bytes ≡ without_return (take k bytes) ∷ lines_of (drop (k + 1) bytes)
first_line bytes k e =
    let rest : List (List ℕ) = slice_split (λ b. b == 10) (drop (k + 1) bytes) in
    let some : length rest ≡ count_by (λ b. b == 10) (drop (k + 1) bytes) + 1 = length-slice_split (λ b. b == 10) (drop (k + 1) bytes) in
    ap (λ pieces. map without_return (without_empty_rest pieces)) (cut_at (λ b. b == 10) bytes k 0 e)
    ∙ ap (map without_return) (first_piece (take k bytes) rest (omega arith))
