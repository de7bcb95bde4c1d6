use Rattle.std.proofs.Common.{◌≡◌, ◌+◌, ◌*◌, ◌≤◌, ◌++◌, ◌∷◌, [], drop, take, vec_len}
use Rattle.std.specs.Vec.{vec_capacity}
use Rattle.leaf_shape.specs.Kept.{ArePlaced}
use Rattle.leaf_shape.specs.Openings.{blocks, paths_of}
use Rattle.leaf_shape.specs.Shapes.{path_of}
use Rattle.leaf_shape.proofs.OpeningLaws.{HasNode}
use Rattle.leaf_shape.proofs.opens.open_all.Given as goal

abbrev pub invariant-loop-opening : goal.invariant-loop-opening
invariant-loop-opening l = record {
  placed : ArePlaced l.cube l.nodes.items l.paths.items l.places.items;
  so_far : l.paths.items ≡ l.fn.paths.items ++ take l.opening-index (paths_of l.ready);
  before : HasNode l.nodes.items (path_of ([] ∷ paths_of l.ready) l.opening-index);
  nodes : vec_len l.nodes + 8 * blocks (drop l.opening-index l.ready) ≤ vec_len l.fn.nodes + 8 * blocks l.ready;
  node_capacity : vec_capacity l.fn.nodes ≤ vec_capacity l.nodes;
  paths : vec_len l.paths ≡ vec_len l.fn.paths + l.opening-index;
  path_capacity : vec_capacity l.fn.paths ≤ vec_capacity l.paths;
  places : vec_len l.places ≡ vec_len l.fn.places + l.opening-index;
  place_capacity : vec_capacity l.fn.places ≤ vec_capacity l.places;
}
