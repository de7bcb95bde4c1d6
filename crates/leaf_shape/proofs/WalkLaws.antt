-- The walk from the root down to the list of a point.
use Rattle.std.proofs.Common.{◌≡◌, ◌⊎◌, ℕ, ◌+◌, ◌-◌, ◌<◌, ◌≤◌, inl, inr, true, false, not, Bool, List, [], ◌∷◌, ◌++◌, length, Some, None, Option, ap, ◌∙◌, sym, refl, arith, subst, get_or}
use Rattle.std.specs.Prelude.{option_and_then, is_some, unwrap_or}
use Rattle.std.proofs.lemmas.Bool.{cases_lt, and_from, eq-eqb}
use Rattle.std.proofs.lemmas.List.{get_or_default, length_push, length-append, append-nil}
use Rattle.cube_math.specs.Cubes.{CubeValue, contains, child, cube_at, octant}
use Rattle.cube_math.specs.Points.{PointValue}
use Rattle.cube_math.proofs.Halves.{child_has, octant_below}
use Rattle.cube_math.proofs.Ways.{cube_at-push}
use Rattle.leaf_shape.specs.declared.node.Node.{Node}
use Rattle.leaf_shape.specs.declared.place.Place.{Place}
use Rattle.leaf_shape.specs.Kept.{ArePlaced, IsPlaced}
use Rattle.leaf_shape.specs.Shapes.{GoesOn, IsLatest, IsListOf, IsPathIn, IsSplit, path_of}
use Rattle.leaf_shape.specs.Tables.{AreListed, bare, list_at, node, node_at}
use Rattle.leaf_shape.proofs.CubeLaws.{IsWay, goes_on, same_path}
use Rattle.leaf_shape.proofs.NodeLaws.{none_is, node_step, no_step, at_append, within, octants_below}

false_is : false ≡ true → ⊥
false_is e = cc

-- where a walk with a point stands: at the node of a path whose cube contains the point; and of the lists for paths no longer
-- than that one the list is the last of the longest whose cube contains the point
pub record IsWalk (cube : CubeValue) (nodes : List Node) (paths : List (List ℕ)) (p : PointValue) (i : ℕ) (here : CubeValue) (list : ℕ) : Type 0 where
  pub path : List ℕ
  pub at : node_at nodes 0 path ≡ Some i
  pub is : here ≡ cube_at cube path
  pub bits : length path + here.bits ≡ cube.bits
  pub contained : contains here p ≡ true
  pub latest : IsLatest paths (path_of paths list) list
  pub list_contained : contains (cube_at cube (path_of paths list)) p ≡ true
  pub longest : (other : ℕ) → other < length paths → contains (cube_at cube (path_of paths other)) p ≡ true → length (path_of paths other) ≤ length path
      → length (path_of paths other) ≤ length (path_of paths list)

module _ (cube : CubeValue) (nodes : List Node) (paths : List (List ℕ)) (listed : AreListed nodes paths)
    (fit : (list : ℕ) → list < length paths → IsPathIn cube (path_of paths list)) where
  way_of : (list : ℕ) → list < length paths → IsWay cube (path_of paths list)
  way_of list low = let in_cube : IsPathIn cube (path_of paths list) = fit list low in record { octants = in_cube.octants; fits = omega (arith, in_cube.fits) }

  -- a node of a list's path
  pub found_node : (list : ℕ) → list < length paths → (i : ℕ) × (node_at nodes 0 (path_of paths list) ≡ Some i)
  found_node list low = of_node (node_at nodes 0 (path_of paths list)) refl
    where
      of_node : (o : Option ℕ) → node_at nodes 0 (path_of paths list) ≡ o → (i : ℕ) × (node_at nodes 0 (path_of paths list) ≡ Some i)
      of_node None none =
          let bad : false ≡ true =
          sym (ap (λ (o : Option ℕ). is_some (option_and_then (λ i. (node nodes i).list) o)) none)
          ∙ listed.found list low in
          absurd (false_is bad)
      of_node (Some i) is = (i, is)

  way_to : (path : List ℕ) (i : ℕ) → node_at nodes 0 path ≡ Some i → length path ≤ cube.bits → IsWay cube path
  way_to path i at le = record { octants = octants_below nodes 0 path i at; fits = le }

  -- at a node with no children no longer path of a list contains the point
  pub ends_here : (p : PointValue) (path : List ℕ) (i other : ℕ) → node_at nodes 0 path ≡ Some i
      → length path ≤ cube.bits → contains (cube_at cube path) p ≡ true → (node nodes i).below ≡ None
      → other < length paths → contains (cube_at cube (path_of paths other)) p ≡ true → length (path_of paths other) ≤ length path
  ends_here p path i other at le has none low has' = elim (cases_lt (length path) (length (path_of paths other))) [
    | inl longer ↦ of_rest longer (goes_on cube path (path_of paths other) p (way_to path i at le) (way_of other low) has has' (omega (arith, longer)))
    | inr short ↦ short
  ]
    where
      of_rest : length path < length (path_of paths other) → GoesOn path (path_of paths other) → length (path_of paths other) ≤ length path
      of_rest longer on = by_rest on.rest on.is
        where
          by_rest : (rest : List ℕ) → path_of paths other ≡ path ++ rest → length (path_of paths other) ≤ length path
          by_rest [] is = omega (arith, ap length (is ∙ append-nil path))
          by_rest (g ∷ rest) is =
              let f : (j : ℕ) × (node_at nodes 0 (path_of paths other) ≡ Some j) = found_node other low in
              absurd (none_is f.0 (sym (no_step nodes i g rest none) ∙ sym (at_append nodes 0 path (g ∷ rest) i at) ∙ ap (node_at nodes 0) (sym is) ∙ f.1))

  -- a node with children has a cube that splits
  pub splits : (path : List ℕ) (i first : ℕ) → node_at nodes 0 path ≡ Some i → (node nodes i).below ≡ Some first → length path + 8 ≤ cube.bits
  splits path i first at is =
      let s : IsSplit paths path = listed.used path i first at is in
      omega (arith, (fit s.list s.opened).fits, ap length s.below.is, length-append path (s.below.octant ∷ s.below.rest))

  -- a list at the node where the walk stands is that of the node's path
  pub stands_at : (path : List ℕ) (i list : ℕ) → node_at nodes 0 path ≡ Some i → (node nodes i).list ≡ Some list → IsLatest paths path list
  stands_at path i list at is = listed.named path list (ap (option_and_then (λ j. (node nodes j).list)) at ∙ is)

  -- where no list stands at a node, no list has its path
  pub none_at : (path : List ℕ) (i other : ℕ) → node_at nodes 0 path ≡ Some i → (node nodes i).list ≡ None
      → other < length paths → path_of paths other ≡ path → ⊥
  none_at path i other at none low is =
      let bad : false ≡ true =
      sym (ap (λ (o : Option ℕ). is_some o) (ap (list_at nodes) is
      ∙ ap (option_and_then (λ j. (node nodes j).list)) at ∙ none)) ∙ listed.found other low in
      false_is bad

  latest_of_path : (path : List ℕ) (list : ℕ) → IsLatest paths path list → IsLatest paths (path_of paths list) list
  latest_of_path path list l = let P : List ℕ → Type 0 = λ q. IsLatest paths q list in subst P (sym l.is) l

  -- the walk begins at the root, whose node has a list
  pub walk_begins : (p : PointValue) (list : ℕ) → (node nodes 0).list ≡ Some list → contains cube p ≡ true → IsWalk cube nodes paths p 0 cube list
  walk_begins p list is has =
      let l : IsLatest paths [] list = stands_at [] 0 list refl is in
      record {
        path = [];
        at = refl;
        is = refl;
        bits = omega arith;
        contained = has;
        latest = latest_of_path [] list l;
        list_contained = ap (λ q. contains (cube_at cube q) p) l.is ∙ has;
        longest = λ other low has' le. omega (arith, le);
      }

  -- the walk goes down one step, to the node of the point's octant
  module _ (p : PointValue) (i : ℕ) (here : CubeValue) (list : ℕ) (w : IsWalk cube nodes paths p i here list) (first g n : ℕ) (here' : CubeValue)
      (below : (node nodes i).below ≡ Some first) (octant_is : g ≡ octant here p) (number : n ≡ first + g) (child_is : here' ≡ child here g) where
    deep : length w.path + 8 ≤ cube.bits
    deep = splits w.path i first w.at below

    splits_here : 7 < here.bits
    splits_here = omega (arith, deep, w.bits)

    low : g < 8
    low = let l : octant here p < 8 = octant_below here p (omega (arith, splits_here)) w.contained in omega (arith, octant_is)

    at' : node_at nodes 0 (w.path ++ g ∷ []) ≡ Some n
    at' = at_append nodes 0 w.path (g ∷ []) i w.at ∙ node_step nodes i g first [] low below ∙ ap Some (sym number)

    cube' : here' ≡ cube_at cube (w.path ++ g ∷ [])
    cube' = child_is ∙ ap (λ k. child k g) w.is ∙ sym (cube_at-push cube w.path g)

    bits' : length (w.path ++ g ∷ []) + here'.bits ≡ cube.bits
    bits' = let b : here'.bits ≡ here.bits - 1 = ap (λ (k : CubeValue). k.bits) child_is in omega (arith, b, length_push w.path g, w.bits, splits_here)

    has' : contains here' p ≡ true
    has' = ap (λ k. contains k p) child_is ∙ child_has here p g (omega (arith, splits_here)) low ∙ and_from _ _ w.contained (eq-eqb _ _ (sym octant_is))

    pub with_a_list : (latest : ℕ) → (node nodes n).list ≡ Some latest → IsWalk cube nodes paths p n here' latest
    with_a_list latest is =
        let l : IsLatest paths (w.path ++ g ∷ []) latest = stands_at (w.path ++ g ∷ []) n latest at' is in
        record {
          path = w.path ++ g ∷ [];
          at = at';
          is = cube';
          bits = bits';
          contained = has';
          latest = latest_of_path (w.path ++ g ∷ []) latest l;
          list_contained = ap (λ q. contains (cube_at cube q) p) l.is ∙ ap (λ k. contains k p) (sym cube') ∙ has';
          longest = λ other lower has'' le. omega (arith, le, ap length l.is);
        }

    pub with_no_list : (node nodes n).list ≡ None → IsWalk cube nodes paths p n here' list
    with_no_list none = record {
      path = w.path ++ g ∷ [];
      at = at';
      is = cube';
      bits = bits';
      contained = has';
      latest = w.latest;
      list_contained = w.list_contained;
      longest = λ other lower has'' le. of_length other lower has'' (cases_lt (length w.path) (length (path_of paths other))) le;
    }
      where
        of_length : (other : ℕ) → other < length paths → contains (cube_at cube (path_of paths other)) p ≡ true
            → (length w.path < length (path_of paths other)) ⊎ (length (path_of paths other) ≤ length w.path)
            → length (path_of paths other) ≤ length (w.path ++ g ∷ [])
            → length (path_of paths other) ≤ length (path_of paths list)
        of_length other lower has'' (inr short) le = w.longest other lower has'' short
        of_length other lower has'' (inl longer) le =
            let len : length (path_of paths other) ≡ length (w.path ++ g ∷ []) = omega (arith, longer, le, length_push w.path g) in
            let way : IsWay cube (w.path ++ g ∷ []) = way_to (w.path ++ g ∷ []) n at' (omega (arith, length_push w.path g, deep)) in
            let same : path_of paths other ≡ w.path ++ g ∷ [] =
            same_path cube (path_of paths other) (w.path ++ g ∷ []) p (way_of other lower) way has'' (ap (λ k. contains k p) (sym cube') ∙ has') len in
            absurd (none_at (w.path ++ g ∷ []) n other at' none lower same)

  -- the walk ends at a node with no children
  pub walk_ends : (p : PointValue) (i : ℕ) (here : CubeValue) (list : ℕ) → IsWalk cube nodes paths p i here list
      → (node nodes i).below ≡ None → IsListOf cube paths p list
  walk_ends p i here list w none = record {
    latest = w.latest;
    contained = w.list_contained;
    longest = λ other low has.
        w.longest other low has (ends_here p w.path i other w.at (omega (arith, w.bits)) (ap (λ k. contains k p) (sym w.is) ∙ w.contained) none low has);
  }

  -- a list at a node with no children, in whose cube a point lies
  pub list_at_end : (p : PointValue) (path : List ℕ) (i list : ℕ) → node_at nodes 0 path ≡ Some i
      → length path ≤ cube.bits → (node nodes i).list ≡ Some list → (node nodes i).below ≡ None
      → contains (cube_at cube path) p ≡ true → IsListOf cube paths p list
  list_at_end p path i list at le is none has =
      let l : IsLatest paths path list = stands_at path i list at is in
      record {
        latest = latest_of_path path list l;
        contained = ap (λ q. contains (cube_at cube q) p) l.is ∙ has;
        longest = λ other low has'. omega (arith, ap length l.is, ends_here p path i other at le has none low has');
      }

  -- below a node with no children no list was opened
  pub unsplit_end : (path : List ℕ) (i : ℕ) → node_at nodes 0 path ≡ Some i → (node nodes i).below ≡ None → IsSplit paths path → ⊥
  unsplit_end path i at none s =
      let f : (j : ℕ) × (node_at nodes 0 (path_of paths s.list) ≡ Some j) = found_node s.list s.opened in
      none_is f.0 (sym (no_step nodes i s.below.octant s.below.rest none)
      ∙ sym (at_append nodes 0 path (s.below.octant ∷ s.below.rest) i at) ∙ ap (node_at nodes 0) (sym s.below.is)
      ∙ f.1)

  pub end_of_unsplit : (path : List ℕ) (i : ℕ) → node_at nodes 0 path ≡ Some i → (IsSplit paths path → ⊥) → (node nodes i).below ≡ None
  end_of_unsplit path i at unsplit = of_below (node nodes i).below refl
    where
      of_below : (o : Option ℕ) → (node nodes i).below ≡ o → (node nodes i).below ≡ None
      of_below None is = is
      of_below (Some first) is = absurd (unsplit (listed.used path i first at is))

none_of : (o : Option ℕ) → is_some o ≡ false → o ≡ None
none_of None e = refl
none_of (Some x) e = absurd (false_is (sym e))

true_of : (b : Bool) → not b ≡ false → b ≡ true
true_of true e = refl
true_of false e = absurd (false_is (sym e))

-- where a walk stands, by the node that is read there
pub record IsAt (cube : CubeValue) (nodes : List Node) (paths : List (List ℕ)) (p : PointValue) (here : Node) (near : CubeValue) (list : ℕ) : Type 0 where
  pub number : ℕ
  pub is : here ≡ node nodes number
  pub walk : IsWalk cube nodes paths p number near list

module _ {cube : CubeValue} {nodes : List Node} {paths : List (List ℕ)} {places : List Place} (placed : ArePlaced cube nodes paths places) where
  pub fit_of : (list : ℕ) → list < length paths → IsPathIn cube (path_of paths list)
  fit_of list low =
      let d : Place = record { cube = cube; node = 0 } in
      (placed.each list (get_or places list d) low (get_or_default places list d (get_or places list d) (omega (arith, low, placed.len)))).in_cube

  -- at the root stands a list
  root_list : (o : Option ℕ) → (node nodes 0).list ≡ o → (list : ℕ) × ((node nodes 0).list ≡ Some list)
  root_list None none = absurd (none_at cube nodes paths placed.listed fit_of [] 0 0 refl none placed.some placed.root)
  root_list (Some list) is = (list, is)

  pub walk_starts : (p : PointValue) (here : Node) (list : ℕ) → contains cube p ≡ true → here ≡ node nodes 0
      → list ≡ unwrap_or here.list 0 → IsAt cube nodes paths p here cube list
  walk_starts p here list has is list_is =
      let r : (k : ℕ) × ((node nodes 0).list ≡ Some k) = root_list (node nodes 0).list refl in
      let same : list ≡ r.0 = list_is ∙ ap (λ (n : Node). unwrap_or n.list 0) is ∙ ap (λ o. unwrap_or o 0) r.1 in
      record { number = 0; is = is; walk = walk_begins cube nodes paths placed.listed fit_of p list (r.1 ∙ ap Some (sym same)) has }

  pub walk_on : {p : PointValue} {here : Node} {near : CubeValue} {list : ℕ} (next : Node) (near' : CubeValue) (list' first g n : ℕ)
      → IsAt cube nodes paths p here near list → here.below ≡ Some first → g ≡ octant near p → n ≡ first + g → next ≡ node nodes n
      → near' ≡ child near g → list' ≡ unwrap_or next.list list → IsAt cube nodes paths p next near' list'
  walk_on {p} {here} {near} {list} next near' list' first g n at below octant_is number read child_is list_is = record {
    number = n;
    is = read;
    walk = of_list (node nodes n).list refl;
  }
    where
      was : (node nodes at.number).below ≡ Some first
      was = sym (ap (λ (m : Node). m.below) at.is) ∙ below

      same : (o : Option ℕ) → (node nodes n).list ≡ o → list' ≡ unwrap_or o list
      same o is = list_is ∙ ap (λ (m : Node). unwrap_or m.list list) read ∙ ap (λ o. unwrap_or o list) is

      of_list : (o : Option ℕ) → (node nodes n).list ≡ o → IsWalk cube nodes paths p n near' list'
      of_list None none =
          let P : ℕ → Type 0 = λ k. IsWalk cube nodes paths p n near' k in
          subst P (sym (same None none))
          (with_no_list cube nodes paths placed.listed fit_of p at.number near list at.walk first g n near' was octant_is number child_is none)
      of_list (Some k) is =
          with_a_list cube nodes paths placed.listed fit_of p at.number near list at.walk first g n near' was
          octant_is number child_is list' (is ∙ ap Some (sym (same (Some k) is)))

  -- the next node of a walk is one of the table
  pub next_within : {p : PointValue} {here : Node} {near : CubeValue} {list : ℕ} (first g : ℕ)
      → IsAt cube nodes paths p here near list → here.below ≡ Some first → g < 8 → first + g < length nodes
  next_within first g at below low =
      omega (arith, placed.listed.tree.eight at.number first (sym (ap (λ (m : Node). m.below) at.is) ∙ below), low)

  pub walk_splits : {p : PointValue} {here : Node} {near : CubeValue} {list : ℕ} (first : ℕ)
      → IsAt cube nodes paths p here near list → here.below ≡ Some first → 7 < near.bits
  walk_splits first at below =
      let deep : length at.walk.path + 8 ≤ cube.bits =
      splits cube nodes paths placed.listed fit_of at.walk.path at.number first at.walk.at (sym (ap (λ (m : Node). m.below) at.is) ∙ below) in
      omega (arith, deep, at.walk.bits)

  pub walk_done : {p : PointValue} {here : Node} {near : CubeValue} {list : ℕ}
      → IsAt cube nodes paths p here near list → here.below ≡ None → IsListOf cube paths p list
  walk_done {p} {here} {near} {list} at none =
      walk_ends cube nodes paths placed.listed fit_of p at.number near list at.walk (sym (ap (λ (m : Node). m.below) at.is) ∙ none)

  -- whether the node that is read for a list has no children
  pub leaf_told : (list : ℕ) (place : Place) (here : Node) (answer : Bool) → list < length paths
      → place ≡ get_or places list place → here ≡ get_or nodes place.node here
      → is_some here.below ≡ not answer → (answer ≡ true → IsSplit paths (path_of paths list) → ⊥) × ((IsSplit paths (path_of paths list) → ⊥) → answer ≡ true)
  leaf_told list place here answer low place_at here_at is = (unsplit, leaf)
    where
      q : IsPlaced cube nodes (path_of paths list) place
      q = placed.each list place low place_at

      here_is : here ≡ node nodes place.node
      here_is = here_at ∙ get_or_default nodes place.node here bare
          (within nodes 0 (path_of paths list) place.node placed.listed.tree placed.listed.tree.some q.at)

      none_there : answer ≡ true → (node nodes place.node).below ≡ None
      none_there said = none_of (node nodes place.node).below (ap (λ (n : Node). is_some n.below) (sym here_is) ∙ is ∙ ap not said)

      unsplit : answer ≡ true → IsSplit paths (path_of paths list) → ⊥
      unsplit said = unsplit_end cube nodes paths placed.listed fit_of (path_of paths list) place.node q.at (none_there said)

      leaf : (IsSplit paths (path_of paths list) → ⊥) → answer ≡ true
      leaf never = true_of answer
          (sym is ∙ ap (λ (n : Node). is_some n.below) here_is
          ∙ ap (λ (o : Option ℕ). is_some o) (end_of_unsplit cube nodes paths placed.listed fit_of (path_of paths list) place.node q.at never))

  -- a list whose node was read, with no children, and in whose cube a point lies
  pub hint_holds : (p : PointValue) (list : ℕ) (place : Place) (here : Node) → list < length paths
      → place ≡ get_or places list place → here ≡ get_or nodes place.node here
      → is_some here.below ≡ false → here.list ≡ Some list → contains place.cube p ≡ true → IsListOf cube paths p list
  hint_holds p list place here low place_at here_at none list_is has =
      list_at_end cube nodes paths placed.listed fit_of p (path_of paths list) place.node list q.at
      (omega (arith, q.in_cube.fits)) (ap (λ (n : Node). n.list) (sym here_is) ∙ list_is)
      (none_of (node nodes place.node).below (ap (λ (n : Node). is_some n.below) (sym here_is) ∙ none)) (ap (λ k. contains k p) (sym q.is) ∙ has)
    where
      q : IsPlaced cube nodes (path_of paths list) place
      q = placed.each list place low place_at

      here_is : here ≡ node nodes place.node
      here_is = here_at ∙ get_or_default nodes place.node here bare
          (within nodes 0 (path_of paths list) place.node placed.listed.tree placed.listed.tree.some q.at)
