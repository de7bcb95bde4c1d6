-- The cut of an outline by a camera: the nodes that are shown.
use Rattle.std.specs.Prelude.{ℕ, List, [], ◌∷◌, Bool, true, false, not, ◌&&◌, ◌||◌, ◌==◌, nat_lt, filter}
use Rattle.std.specs.List.{list_any, list_all}
use Rattle.picture_model.specs.Cameras.{CameraValue, refines}
use Rattle.octree_model.specs.declared.outline.OutlineNode.{OutlineNode}

-- whether a path goes on from another one, or is that path
abbrev pub begins : List ℕ → List ℕ → Bool
begins [] path = true
begins (g ∷ rest) [] = false
begins (g ∷ rest) (h ∷ path) = g == h && begins rest path

-- whether a path goes on from another one, and is longer
abbrev pub is_above : List ℕ → List ℕ → Bool
is_above upper path = begins upper path && not (begins path upper)

-- whether the camera looks past a node to the nodes below it: it is inner, and refines
abbrev pub opens : CameraValue → OutlineNode → Bool
opens c n = n.inner && refines c n.cube

-- whether a node above another one is shown itself, or hidden, so that the other one is hidden
abbrev pub hides : CameraValue → OutlineNode → OutlineNode → Bool
hides c n m = is_above m.path n.path && not (opens c m)

-- whether a node of an outline is in the cut: all nodes above it are inner and refine, and it is a leaf or
-- does not refine
abbrev pub in_cut : CameraValue → List OutlineNode → OutlineNode → Bool
in_cut c nodes n = not (list_any (hides c n) nodes) && not (opens c n)

-- the nodes of the cut, in the outline's order
abbrev pub cut : CameraValue → List OutlineNode → List OutlineNode
cut c nodes = filter (in_cut c nodes) nodes

-- whether a path stands before another one in the order of lists
abbrev pub is_before : List ℕ → List ℕ → Bool
is_before path [] = false
is_before [] (h ∷ rest) = true
is_before (g ∷ path) (h ∷ rest) = nat_lt g h || g == h && is_before path rest

-- whether each node's path stands before the paths of all later nodes
abbrev pub in_path_order : List OutlineNode → Bool
in_path_order [] = true
in_path_order (n ∷ ns) = list_all (λ (m : OutlineNode). is_before n.path m.path) ns && in_path_order ns
