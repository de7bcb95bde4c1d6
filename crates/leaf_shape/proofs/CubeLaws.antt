-- Points in the cubes of paths.
use Rattle.std.proofs.Common.{◌≡◌, ℕ, ◌<◌, ◌≤◌, true, List, [], ◌∷◌, ◌++◌, length, ap, ◌∙◌, sym, refl, arith, subst}
use Rattle.std.specs.Prelude.{All}
use Rattle.std.proofs.lemmas.Bool.{and_parts, eqb-true}
use Rattle.std.proofs.lemmas.List.{append-nil, length-append, nil_from_length}
use Rattle.std.proofs.lemmas.List.Elements.{All-head, All-tail}
use Rattle.cube_math.specs.Cubes.{CubeValue, contains, child, cube_at, octant}
use Rattle.cube_math.specs.Points.{PointValue}
use Rattle.cube_math.proofs.Halves.{child_has}
use Rattle.leaf_shape.specs.Shapes.{GoesOn}

-- octants, at most as many as a cube has bits
pub record IsWay (cube : CubeValue) (path : List ℕ) : Type 0 where
  pub octants : All (λ g. g < 8) path
  pub fits : length path ≤ cube.bits

pub way_on : (cube : CubeValue) (g : ℕ) (path : List ℕ) → IsWay cube (g ∷ path) → IsWay (child cube g) path
way_on cube g path way = record { octants = All-tail (λ k. k < 8) g path way.octants; fits = omega (arith, way.fits) }

pub first_octant : (cube : CubeValue) (g : ℕ) (path : List ℕ) → IsWay cube (g ∷ path) → g < 8
first_octant cube g path way = All-head (λ k. k < 8) g path way.octants

-- what a point in the cube of a longer path says of the first step
pub record IsFirst (cube : CubeValue) (g : ℕ) (p : PointValue) : Type 0 where
  pub contained : contains cube p ≡ true
  pub octant : octant cube p ≡ g

-- a point in the cube of a path lies in the cube that the path starts from
pub contained_above : (cube : CubeValue) (path : List ℕ) (p : PointValue) → IsWay cube path → contains (cube_at cube path) p ≡ true → contains cube p ≡ true
contained_above cube [] p way e = e
contained_above cube (g ∷ path) p way e =
    (and_parts _ _ (sym (child_has cube p g (omega (arith, way.fits)) (first_octant cube g path way))
    ∙ contained_above (child cube g) path p (way_on cube g path way) e)).0

pub first_step : (cube : CubeValue) (g : ℕ) (path : List ℕ) (p : PointValue) → IsWay cube (g ∷ path)
    → contains (cube_at cube (g ∷ path)) p ≡ true → IsFirst cube g p
first_step cube g path p way e =
    let both : (contains cube p ≡ true) × (_ ≡ true) =
    and_parts _ _ (sym (child_has cube p g (omega (arith, way.fits)) (first_octant cube g path way))
    ∙ contained_above (child cube g) path p (way_on cube g path way) e) in
    record { contained = both.0; octant = eqb-true _ _ both.1 }

-- of two paths whose cubes contain a point the longer one goes on from the other
pub goes_on : (cube : CubeValue) (path other : List ℕ) (p : PointValue) → IsWay cube path → IsWay cube other
    → contains (cube_at cube path) p ≡ true → contains (cube_at cube other) p ≡ true
    → length path ≤ length other → GoesOn path other
goes_on cube [] other p way way' e e' le = record { rest = other; is = refl }
goes_on cube (g ∷ path) [] p way way' e e' le = absurd (omega arith)
goes_on cube (g ∷ path) (h ∷ other) p way way' e e' le =
    let same : h ≡ g = sym (first_step cube h other p way' e').octant ∙ (first_step cube g path p way e).octant in
    let P : ℕ → Type 0 = λ k. IsWay (child cube k) other in
    let further : GoesOn path other =
    goes_on (child cube g) path other p (way_on cube g path way) (subst P same (way_on cube h other way')) e
    (ap (λ k. contains (cube_at (child cube k) other) p) (sym same) ∙ e') (omega (arith, le)) in
    record { rest = further.rest; is = ap (λ k. k ∷ other) same ∙ ap (λ (q : List ℕ). g ∷ q) further.is }

-- two paths of one length whose cubes contain a point are one
pub same_path : (cube : CubeValue) (path other : List ℕ) (p : PointValue) → IsWay cube path → IsWay cube other
    → contains (cube_at cube path) p ≡ true → contains (cube_at cube other) p ≡ true
    → length path ≡ length other → path ≡ other
same_path cube path other p way way' e e' len =
    let on : GoesOn path other = goes_on cube path other p way way' e e' (omega (arith, len)) in
    let none : on.rest ≡ [] = nil_from_length on.rest (omega (arith, ap length on.is, length-append path on.rest, len)) in
    sym (on.is ∙ ap (λ (r : List ℕ). path ++ r) none ∙ append-nil path)
