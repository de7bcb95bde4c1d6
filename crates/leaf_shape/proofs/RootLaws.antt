-- The table of a root alone.
use Rattle.std.proofs.Common.{◌≡◌, ℕ, zero, suc, ◌<◌, ◌≤◌, List, [], ◌∷◌, Some, None, ap, ◌∙◌, sym, refl, arith, subst, get_or}
use Rattle.std.specs.Prelude.{IsSome, option_and_then}
use Rattle.std.proofs.lemmas.List.Elements.{All-nil}
use Rattle.cube_math.specs.Cubes.{CubeValue}
use Rattle.leaf_shape.specs.declared.node.Node.{Node}
use Rattle.leaf_shape.specs.declared.place.Place.{Place}
use Rattle.leaf_shape.specs.Kept.{ArePlaced, IsPlaced}
use Rattle.leaf_shape.specs.Shapes.{IsLatest, path_of}
use Rattle.leaf_shape.specs.Tables.{AreListed, IsTree, list_at, node, node_at}
use Rattle.leaf_shape.proofs.NodeLaws.{no_step, none_is, some_is}

root_node : Node
root_node = record { below = None; list = Some 0 }

root_table : List Node
root_table = root_node ∷ []

-- no node of the table has children
childless : (i : ℕ) → (node root_table i).below ≡ None
unfolding root_table root_node
childless zero = refl
childless (suc i) = refl

-- the root's path alone leads to a node
only_root : (path : List ℕ) (i : ℕ) → node_at root_table 0 path ≡ Some i → path ≡ []
only_root [] i e = refl
only_root (g ∷ path) i e = absurd (none_is i (sym (no_step root_table 0 g path (childless 0)) ∙ e))

root_tree : IsTree root_table
unfolding root_table
root_tree = record {
  some = omega arith;
  eight = λ i first is. absurd (none_is first (sym (childless i) ∙ is));
  single = λ path other i e e'. only_root path i e ∙ sym (only_root other i e');
}

root_latest : IsLatest ([] ∷ []) [] 0
root_latest = record { opened = omega arith; is = refl; latest = λ other low e. omega arith }

named_at : (path : List ℕ) (list : ℕ) → list_at root_table path ≡ Some list → IsLatest ([] ∷ []) path list
unfolding root_table root_node
named_at [] list e =
    let same : 0 ≡ list = some_is 0 list e in
    let P : ℕ → Type 0 = λ n. IsLatest ([] ∷ []) [] n in
    subst P same root_latest
named_at (g ∷ path) list e = absurd
    (none_is list (sym (ap (λ o. option_and_then (λ i. (node root_table i).list) o)
    (no_step root_table 0 g path (childless 0))) ∙ e))

root_listed : AreListed root_table ([] ∷ [])
unfolding root_table root_node
root_listed = record {
  tree = root_tree;
  named = named_at;
  found = found;
  used = λ path i first at is. absurd (none_is first (sym (childless i) ∙ is));
}
  where
    found : (list : ℕ) → list < 1 → IsSome (list_at root_table (path_of ([] ∷ []) list))
    found zero low = refl
    found (suc list) low = absurd (omega arith)

pub root_placed : (cube : CubeValue) → 7 ≤ cube.bits
    → ArePlaced cube (record { below = None; list = Some 0 } ∷ []) ([] ∷ []) (record { cube = cube; node = 0 } ∷ [])
unfolding root_table root_node
root_placed cube seven = record {
  listed = root_listed;
  len = refl;
  some = omega arith;
  root = refl;
  each = each;
}
  where
    here : IsPlaced cube root_table [] record { cube = cube; node = 0 }
    here = record { is = refl; at = refl; in_cube = record { octants = All-nil (λ g. g < 8); fits = omega arith } }

    each : (list : ℕ) (place : Place) → list < 1 → place ≡ get_or (record { cube = cube; node = 0 } ∷ []) list place
        → IsPlaced cube root_table (path_of ([] ∷ []) list) place
    each zero place low at = let P : Place → Type 0 = λ q. IsPlaced cube root_table [] q in subst P (sym at) here
    each (suc list) place low at = absurd (omega arith)
