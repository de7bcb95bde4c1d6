-- The lists of points, as more lists are opened.
use Rattle.std.proofs.Common.{◌≡◌, ◌⊎◌, ℕ, ◌-◌, ◌<◌, ◌≤◌, inl, inr, true, false, List, [], ◌∷◌, ◌++◌, length, ap, ◌∙◌, sym, refl, arith, subst}
use Rattle.std.specs.Prelude.{All}
use Rattle.std.proofs.lemmas.Bool.{cases_lt}
use Rattle.std.proofs.lemmas.List.{get_or_append_left, get_or-append_right, length-append}
use Rattle.std.proofs.lemmas.List.Elements.{All-get_or}
use Rattle.cube_math.specs.Cubes.{CubeValue, contains, child, cube_at}
use Rattle.cube_math.specs.Points.{PointValue}
use Rattle.leaf_shape.specs.Shapes.{GoesOn, IsListOf, IsPathIn, path_of}
use Rattle.leaf_shape.proofs.CubeLaws.{IsWay, contained_above, goes_on, same_path, way_on}

pub way_in : (cube : CubeValue) (path : List ℕ) → IsPathIn cube path → IsWay cube path
way_in cube path h = record { octants = h.octants; fits = omega (arith, h.fits) }

way_of : (cube : CubeValue) (paths : List (List ℕ)) (list : ℕ) → All (IsPathIn cube) paths → list < length paths → IsWay cube (path_of paths list)
way_of cube paths list all low = way_in cube (path_of paths list) (All-get_or (IsPathIn cube) paths list [] low all)

-- a point in the cube of a path that goes on lies in the cube of the path above
pub contained_before : (cube : CubeValue) (above rest : List ℕ) (p : PointValue) → IsWay cube (above ++ rest)
    → contains (cube_at cube (above ++ rest)) p ≡ true → contains (cube_at cube above) p ≡ true
contained_before cube [] rest p way e = contained_above cube rest p way e
contained_before cube (g ∷ above) rest p way e = contained_before (child cube g) above rest p (way_on cube g (above ++ rest) way) e

pub one_list : (cube : CubeValue) (paths : List (List ℕ)) (p : PointValue) (list other : ℕ)
    → All (IsPathIn cube) paths → IsListOf cube paths p list → IsListOf cube paths p other → list ≡ other
one_list cube paths p list other all l m =
    let len : length (path_of paths list) ≡ length (path_of paths other) =
    omega (arith, l.longest other m.latest.opened m.contained, m.longest list l.latest.opened l.contained) in
    let same : path_of paths list ≡ path_of paths other =
    same_path cube (path_of paths list) (path_of paths other) p
    (way_of cube paths list all l.latest.opened) (way_of cube paths other all m.latest.opened) l.contained m.contained len in
    omega (arith, l.latest.latest other m.latest.opened (sym same), m.latest.latest list l.latest.opened same)

-- ---- more lists
module _ (paths more : List (List ℕ)) where
  pub path_kept : (list : ℕ) → list < length paths → path_of (paths ++ more) list ≡ path_of paths list
  path_kept list low = get_or_append_left paths more [] list low

  -- a list is an earlier one, or one of the new ones
  pub record IsNew (list : ℕ) : Type 0 where
    pub number : ℕ
    pub low : number < length more
    pub is : path_of (paths ++ more) list ≡ path_of more number

  pub old_or_new : (list : ℕ) → list < length (paths ++ more) → (list < length paths) ⊎ IsNew list
  old_or_new list low = elim (cases_lt list (length paths)) [
    | inl before ↦ inl before
    | inr past ↦ inr record {
      number = list - length paths;
      low = omega (arith, low, past, length-append paths more);
      is = get_or-append_right paths more (length paths) list [] refl past;
    }
  ]

pub stays_elsewhere : (cube : CubeValue) (paths more : List (List ℕ)) (path : List ℕ) (p : PointValue) (list : ℕ)
    → All (IsPathIn cube) more → All (GoesOn path) more
    → contains (cube_at cube path) p ≡ false → IsListOf cube paths p list → IsListOf cube (paths ++ more) p list
stays_elsewhere cube paths more path p list all below outside l = record {
  latest = record {
    opened = omega (arith, l.latest.opened, length-append paths more);
    is = refl;
    latest = λ other low e. latest other e (old_or_new paths more other low);
  };
  contained = ap (λ q. contains (cube_at cube q) p) kept ∙ l.contained;
  longest = λ other low e. longest other e (old_or_new paths more other low);
}
  where
    kept : path_of (paths ++ more) list ≡ path_of paths list
    kept = path_kept paths more list l.latest.opened

    -- no new list's cube contains the point
    not_new : (other : ℕ) → IsNew paths more other → contains (cube_at cube (path_of (paths ++ more) other)) p ≡ true → ⊥
    not_new other n e =
        let on : GoesOn path (path_of more n.number) = All-get_or (GoesOn path) more n.number [] n.low below in
        let is : path_of (paths ++ more) other ≡ path ++ on.rest = n.is ∙ on.is in
        let P : List ℕ → Type 0 = λ q. IsWay cube q in
        let way : IsWay cube (path ++ on.rest) = subst P on.is (way_of cube more n.number all n.low) in
        let has : contains (cube_at cube path) p ≡ true = contained_before cube path on.rest p way (ap (λ q. contains (cube_at cube q) p) (sym is) ∙ e) in
        let bad : false ≡ true = sym outside ∙ has in
        cc

    latest : (other : ℕ) → path_of (paths ++ more) other ≡ path_of (paths ++ more) list → (other < length paths) ⊎ IsNew paths more other → other ≤ list
    latest other e (inl low) = l.latest.latest other low (sym (path_kept paths more other low) ∙ e ∙ kept)
    latest other e (inr n) = absurd (not_new other n (ap (λ q. contains (cube_at cube q) p) (e ∙ kept) ∙ l.contained))

    longest : (other : ℕ) → contains (cube_at cube (path_of (paths ++ more) other)) p ≡ true → (other < length paths) ⊎ IsNew paths more other
        → length (path_of (paths ++ more) other) ≤ length (path_of (paths ++ more) list)
    longest other e (inl low) =
        let has : contains (cube_at cube (path_of paths other)) p ≡ true = ap (λ q. contains (cube_at cube q) p) (sym (path_kept paths more other low)) ∙ e in
        omega (arith, l.longest other low has, ap length (path_kept paths more other low), ap length kept)
    longest other e (inr n) = absurd (not_new other n e)

pub goes_down : (cube : CubeValue) (paths more : List (List ℕ)) (p : PointValue) (list later : ℕ)
    → All (IsPathIn cube) (paths ++ more) → IsListOf cube paths p list → IsListOf cube (paths ++ more) p later
    → GoesOn (path_of paths list) (path_of (paths ++ more) later)
goes_down cube paths more p list later all l m =
    let low : list < length (paths ++ more) = omega (arith, l.latest.opened, length-append paths more) in
    let kept : path_of (paths ++ more) list ≡ path_of paths list = path_kept paths more list l.latest.opened in
    let P : List ℕ → Type 0 = λ q. IsWay cube q in
    goes_on cube (path_of paths list) (path_of (paths ++ more) later) p
    (subst P kept (way_of cube (paths ++ more) list all low)) (way_of cube (paths ++ more) later all m.latest.opened) l.contained m.contained
    (omega (arith, ap length kept, m.longest list low (ap (λ q. contains (cube_at cube q) p) kept ∙ l.contained)))
