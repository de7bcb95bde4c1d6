-- A camera, and what the definitions say of cubes and nodes before it.
use Rattle.std.proofs.Common.{◌≡◌, ◌∷◌, [], Bool, true, false, ℕ, List, refl, pos, negsuc}
use Rattle.cube_math.specs.Cubes.{CubeValue, child}
use Rattle.picture_model.specs.Cameras.{CameraValue, seen_at, refines}
use Rattle.picture_model.specs.Cuts.{cut}
use Rattle.octree_model.specs.declared.outline.OutlineNode.{OutlineNode}

-- a camera at 100, 100, 100 that looks along the third axis
abbrev eye : CameraValue
eye = record {
  eye = (pos 100, pos 100, pos 100);
  right = (pos 1024, pos 0, pos 0);
  down = (pos 0, pos 1024, pos 0);
  forward = (pos 0, pos 0, pos 1024);
  focal = 10;
  near = 5;
  width = 3;
  height = 3;
  threshold = 2;
  dot = 1;
}

-- a place to the left of it, above it and behind it
left_and_behind : seen_at eye (pos 99, pos 90, pos 50) ≡ (negsuc 0, negsuc 9, negsuc 49)
left_and_behind = refl

-- the cube around the camera refines, and the one behind it does not
abbrev whole : CubeValue
whole = record { ox = pos 0; oy = pos 0; oz = pos 0; bits = 8 }

abbrev behind : CubeValue
behind = record { ox = pos 0; oy = pos 0; oz = negsuc 511; bits = 8 }

cubes_refine : (refines eye whole ≡ true) × (refines eye behind ≡ false)
cubes_refine = (refl, refl)

-- of an inner node that refines its children are in the cut, and of one that does not it alone
abbrev node : List ℕ → CubeValue → Bool → OutlineNode
node path c inner = record { path = path; cube = c; inner = inner }

cuts : (cut eye (node [] whole true ∷ node (0 ∷ []) (child whole 0) false ∷ node (1 ∷ []) (child whole 1) false ∷ []) ≡ node (0 ∷ []) (child whole 0) false ∷ node (1 ∷ []) (child whole 1) false ∷ [])
    × (cut eye (node [] behind true ∷ node (0 ∷ []) (child behind 0) false ∷ []) ≡ node [] behind true ∷ [])
cuts = (refl, refl)
