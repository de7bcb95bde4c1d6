-- The way down an octree by paths: the trees below an inner node.
use Rattle.std.proofs.Common.{◌≡◌, ℕ, ◌<◌, ◌++◌, ◌∷◌, [], List, length, get_or, arith}
use Rattle.std.proofs.lemmas.List.{length_push}
use Rattle.cube_math.specs.Cubes.{child}
use Rattle.octree_model.specs.declared.tree.Tree.{Tree}
use Rattle.octree_model.specs.declared.tree.Tree.TheVariants.{Inner}
use Rattle.octree_model.specs.declared.tree.InnerNode.{InnerNode}
use Rattle.octree_model.proofs.ShapeLaws.{IsInnerIn, inner_in}
use Rattle.octree_plain.specs.Descent.{IsOctreeBelow}

-- what the way down needs of an inner node, by its path
pub record IsInnerBelow (path : List ℕ) (n : InnerNode) : Type 0 where
  pub room : length path < 24
  pub eight : length n.trees ≡ 8
  pub below : (g : ℕ) (t : Tree) → g < 8 → t ≡ get_or n.trees g t → IsOctreeBelow (path ++ g ∷ []) t

pub inner_below : (path : List ℕ) (t : Tree) (n : InnerNode) → IsOctreeBelow path t → t ≡ Inner n → IsInnerBelow path n
inner_below path t n b is =
    let inner : IsInnerIn b.cube n = inner_in b.cube t n b.octree is in
    record {
      room = omega (arith, inner.splits, b.room);
      eight = inner.eight;
      below = λ g u low at. record {
        cube = child b.cube g;
        octree = inner.below g u low at;
        room = omega (arith, inner.splits, b.room, length_push path g);
      };
    }
