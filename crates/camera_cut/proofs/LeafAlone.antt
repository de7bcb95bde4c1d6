-- A leaf by itself is the outline of an octree without points.
use Rattle.std.proofs.Common.{◌≡◌, ◌-◌, ◌∷◌, [], false, ap, ◌∙◌, sym, refl, lit<, arith}
use Rattle.cube_math.specs.Cubes.{CubeValue}
use Rattle.octree_model.specs.Octree.{octree_at}
use Rattle.octree_model.specs.Outlines.{OutlineAt}
use Rattle.octree_model.specs.declared.tree.Tree.TheVariants.{Leaf}
use Rattle.camera_cut.specs.Outlines.{IsOutline}
use Rattle.camera_cut.proofs.CutLaws.{outline_at-Leaf}

least_octree : (c : CubeValue) → Leaf [] ≡ octree_at 1 0 c []
unfolding octree_at
least_octree c = refl

pub leaf_alone : (c : CubeValue) → c.bits ≡ 7 → IsOutline (record { path = []; cube = c; inner = false } ∷ [])
leaf_alone c seven =
    let none : 0 ≡ c.bits - 7 = omega arith in
    record {
      tree = Leaf [];
      cube = c;
      octree = record { leaf = 1; points = []; few = lit< tt; is = least_octree c ∙ ap (λ n. octree_at 1 n c []) none };
      is = sym (ap (λ (f : OutlineAt). f [] c) (outline_at-Leaf []));
    }
