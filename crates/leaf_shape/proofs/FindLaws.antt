-- How the node of a path is found, and what stands there.
use Rattle.std.proofs.Common.{◌≡◌, ℕ, ◌+◌, ◌<◌, ◌≤◌, List, [], ◌∷◌, length, drop, get_or, Some, None, Option, ap, ◌∙◌, sym, refl, arith}
use Rattle.std.proofs.lemmas.List.{drop_all, get_or_default}
use Rattle.std.proofs.lemmas.Option.{slice_get-get_or}
use Rattle.std.specs.Prelude.{◌↔◌, Contains, IfSome, IsSome, IsTrue, is_some, slice_get}
use Rattle.cube_math.specs.Cubes.{CubeValue}
use Rattle.cube_math.proofs.Ways.{next_of}
use Rattle.leaf_shape.specs.declared.node.Node.{Node}
use Rattle.leaf_shape.specs.declared.place.Place.{Place}
use Rattle.leaf_shape.specs.Kept.{ArePlaced}
use Rattle.leaf_shape.specs.Shapes.{IsLatest, IsSplit, path_of}
use Rattle.leaf_shape.specs.Tables.{IsTree, node, node_at}
use Rattle.leaf_shape.proofs.NodeLaws.{IsOnTheWay, no_step, node_step, none_is, on_the_way, within}
use Rattle.leaf_shape.proofs.WalkLaws.{fit_of, found_node, none_at, stands_at, unsplit_end}

-- so many steps lead to a node, from which the other ones lead on
pub record IsWayTo (nodes : List Node) (path : List ℕ) (step i : ℕ) : Type 0 where
  pub within : i < length nodes
  pub on : node_at nodes 0 path ≡ node_at nodes i (drop step path)

module _ (nodes : List Node) (path : List ℕ) where
  pub way_begins : IsTree nodes → IsWayTo nodes path 0 0
  way_begins tree = record { within = tree.some; on = refl }

  pub way_goes_on : (step i g first : ℕ) → IsTree nodes → IsWayTo nodes path step i → slice_get path step ≡ Some g → g < 8
      → (node nodes i).below ≡ Some first → IsWayTo nodes path (step + 1) (first + g)
  way_goes_on step i g first tree way at low below = record {
    within = omega (arith, tree.eight i first below);
    on = way.on ∙ ap (node_at nodes i) (next_of path step g at) ∙ node_step nodes i g first (drop (step + 1) path) low below;
  }

  pub way_is_lost : (step i : ℕ) → IsWayTo nodes path step i → step < length path → (node nodes i).below ≡ None → node_at nodes 0 path ≡ None
  way_is_lost step i way less none =
      way.on ∙ ap (node_at nodes i) (next_of path step (get_or path step 0) (slice_get-get_or path step 0 less))
      ∙ no_step nodes i (get_or path step 0) (drop (step + 1) path) none

  pub way_ends : (step i : ℕ) → IsWayTo nodes path step i → length path ≤ step → node_at nodes 0 path ≡ Some i
  way_ends step i way all = way.on ∙ ap (node_at nodes i) (drop_all step path all)

module _ {cube : CubeValue} {nodes : List Node} {paths : List (List ℕ)} {places : List Place} (placed : ArePlaced cube nodes paths places) (path : List ℕ) where
  pub node_within : (i : ℕ) → node_at nodes 0 path ≡ Some i → i < length nodes
  node_within i at = within nodes 0 path i placed.listed.tree placed.listed.tree.some at

  -- the list of the path's node is the latest of the path
  pub latest_there : (i : ℕ) (o : Option ℕ) → node_at nodes 0 path ≡ Some i → (node nodes i).list ≡ o → IfSome o (IsLatest paths path)
  latest_there i None at is = tt
  latest_there i (Some list) at is = stands_at cube nodes paths placed.listed (fit_of placed) path i list at is

  -- a list was opened for the path where there is one
  pub found_there : (i : ℕ) (o : Option ℕ) → node_at nodes 0 path ≡ Some i → (node nodes i).list ≡ o → IsSome o ↔ Contains paths path
  found_there i None at is = (
    λ some. absurd (cc),
    λ has. absurd (none_at cube nodes paths placed.listed (fit_of placed) path i has.0 at is has.1
        (get_or_default paths has.0 [] path has.1 ∙ has.2)),
  )
  found_there i (Some list) at is =
      let l : IsLatest paths path list = stands_at cube nodes paths placed.listed (fit_of placed) path i list at is in
      (λ some. (list, l.opened, get_or_default paths list path [] l.opened ∙ l.is), λ has. refl)

  -- and none where no node stands
  pub none_nowhere : node_at nodes 0 path ≡ None → Contains paths path → ⊥
  none_nowhere nowhere has =
      let f : (i : ℕ) × (node_at nodes 0 (path_of paths has.0) ≡ Some i) = found_node cube nodes paths placed.listed (fit_of placed) has.0 has.1 in
      let same : path_of paths has.0 ≡ path = get_or_default paths has.0 [] path has.1 ∙ has.2 in
      none_is f.0 (sym nowhere ∙ ap (node_at nodes 0) (sym same) ∙ f.1)

  -- a path is split where its node has children
  pub split_there : (i : ℕ) (o : Option ℕ) → node_at nodes 0 path ≡ Some i → (node nodes i).below ≡ o → IsTrue (is_some o) ↔ IsSplit paths path
  split_there i None at is = (λ told. absurd (cc), λ s. absurd (unsplit_end cube nodes paths placed.listed (fit_of placed) path i at is s))
  split_there i (Some first) at is = (λ told. placed.listed.used path i first at is, λ s. refl)

  pub no_split_nowhere : node_at nodes 0 path ≡ None → IsSplit paths path → ⊥
  no_split_nowhere nowhere s =
      let f : (i : ℕ) × (node_at nodes 0 (path_of paths s.list) ≡ Some i) = found_node cube nodes paths placed.listed (fit_of placed) s.list s.opened in
      let w : IsOnTheWay nodes 0 path (s.below.octant ∷ s.below.rest) f.0 =
      on_the_way nodes 0 path (s.below.octant ∷ s.below.rest) f.0 (ap (node_at nodes 0) (sym s.below.is) ∙ f.1) in
      none_is w.number (sym nowhere ∙ w.at)
