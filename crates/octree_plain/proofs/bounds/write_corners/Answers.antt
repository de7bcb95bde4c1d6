use Rattle.std.proofs.Common.{◌≡◌, ℕ, ◌==◌, ◌++◌, List, [], false, length, codes, ap, ◌∙◌, sym, append_assoc, if◌then◌else◌, ℤ, rules, w32}
use Rattle.std.proofs.lemmas.Int.{to_z-of_z}
use Rattle.cube_math.specs.Points.{PointValue}
use Rattle.octree_plain.specs.Bounds.{corner_line, corner_lines, least_line, greatest_line}
use Rattle.octree_plain.proofs.bounds.write_corners.Goals as goal
use mir.Val.{SFits}

corner : (word : List ℕ) (x y z x' y' z' : ℤ) → x ≡ x' → y ≡ y' → z ≡ z' → corner_line word x y z ≡ corner_line word x' y' z'
corner word x y z x' y' z' a b c = ap (λ n. corner_line word n y z) a ∙ ap (λ n. corner_line word x' n z) b ∙ ap (λ n. corner_line word x' y' n) c

both : (old one two l g : List ℕ) (ps : List PointValue) → (length ps == 0) ≡ false → one ≡ old ++ l → l ≡ least_line ps → two ≡ one ++ g → g ≡ greatest_line ps → two ≡ old ++ corner_lines ps
both old one two l g ps some first least second greatest =
    second ∙ ap (λ line. one ++ line) greatest ∙ ap (λ bytes. bytes ++ greatest_line ps) (first ∙ ap (λ line. old ++ line) least)
    ∙ append_assoc old (least_line ps) (greatest_line ps)
    ∙ ap (λ lines. old ++ lines) (sym (ap (λ b. if b then [] else least_line ps ++ greatest_line ps) some))

pub returns : goal.returns
returns c =
    let all = c.extents_of-all.ensures in
    let read = c.extents_of-all.result in
    let least_x : SFits w32 read.x.least = search rules in
    let least_y : SFits w32 read.y.least = search rules in
    let least_z : SFits w32 read.z.least = search rules in
    let greatest_x : SFits w32 read.x.greatest = search rules in
    let greatest_y : SFits w32 read.y.greatest = search rules in
    let greatest_z : SFits w32 read.z.greatest = search rules in
    let first = simp to_z-of_z at c.in_ok-write_corner.ensures in
    let second = simp to_z-of_z at c.in_ok-write_corner-2.ensures in
    both _ _ _ _ _ c.args.points.now (sym c.is_empty.ensures ∙ c.if-is_empty.false)
    first (corner (codes "min") _ _ _ _ _ _ all.x.0 all.y.0 all.z.0)
    second (corner (codes "max") _ _ _ _ _ _ all.x.1 all.y.1 all.z.1)
