-- The octree that levels show.
use Rattle.std.proofs.Common.{◌≡◌, ℕ, zero, suc, ◌-◌, inl, inr, List, [], ◌∷◌, map, length, ap, ◌∙◌, sym, refl}
use Rattle.std.proofs.lemmas.Bool.{cases_lt, le-leb, lt-leb}
use Rattle.cube_math.specs.Points.{PointValue}
use Rattle.cube_math.specs.Cubes.{CubeValue, child}
use Rattle.octree_model.specs.Numbers.{up_to}
use Rattle.octree_model.specs.Octree.{inside, octree_at, octree}
use Rattle.octree_model.specs.declared.tree.InnerNode.{InnerNode}
use Rattle.octree_model.specs.declared.tree.Tree.{Tree}
use Rattle.octree_model.specs.declared.tree.Tree.TheVariants as tree
use Rattle.voxel_sampler.specs.Nears.{voxel_of}
use Rattle.batch_levels.specs.declared.level.Level.{Level}
use Rattle.batch_levels.specs.declared.level.Level.TheOpen.{Level-F}
use Rattle.batch_levels.specs.declared.level.Level.TheFolds.{fold-roll-Level, fold-roll-InnerLevel}
use Rattle.batch_levels.specs.declared.level.Level.TheVariants.{Leaf, Inner, rolls-Leaf, rolls-Inner}
use Rattle.batch_levels.specs.declared.level.InnerLevel.{InnerLevel}
use Rattle.batch_levels.specs.Levels.{level_at, level_of}
use Rattle.batch_levels.specs.Shown.{shown, shown_level, shown_inner}
use Rattle.least_runs.proofs.RunLaws.{voxels_of_nears}

shown-Leaf : (ps : List PointValue) → shown (Leaf ps) ≡ tree.Leaf ps
shown-Leaf ps = ap shown (sym (rolls-Leaf ps)) ∙ fold-roll-Level Tree InnerNode shown_level shown_inner (Level-F.Leaf ps)

shown-Inner : (n : InnerLevel) → shown (Inner n) ≡ tree.Inner record { count = n.count; voxels = map voxel_of n.runs; trees = map shown n.levels }
shown-Inner n = ap shown (sym (rolls-Inner n)) ∙ fold-roll-Level Tree InnerNode shown_level shown_inner (Level-F.Inner n)
    ∙ ap tree.Inner (fold-roll-InnerLevel Tree InnerNode shown_level shown_inner record { count = n.count; runs = n.runs; levels = n.levels })

all_shown : (F : ℕ → Level) (G : ℕ → Tree) (ks : List ℕ) → ((g : ℕ) → shown (F g) ≡ G g) → map shown (map F ks) ≡ map G ks
all_shown F G [] h = refl
all_shown F G (k ∷ ks) h = (λ i. h k i ∷ all_shown F G ks h i)

shown_at : (leaf depth : ℕ) (c : CubeValue) (ps : List PointValue) → shown (level_at leaf depth c ps) ≡ octree_at leaf depth c ps
unfolding level_at octree_at
shown_at leaf zero c ps = shown-Leaf (inside c ps)
shown_at leaf (suc depth) c ps =
    let q : List PointValue = inside c ps in
    elim (cases_lt leaf (length q)) [
      | inl more ↦
          let below : map shown (map (λ g. level_at leaf depth (child c g) q) (up_to 8)) ≡ map (λ g. octree_at leaf depth (child c g) q) (up_to 8) =
          all_shown (λ g. level_at leaf depth (child c g) q) (λ g. octree_at leaf depth (child c g) q) (up_to 8) (λ g. shown_at leaf depth (child c g) q) in
          rw (lt-leb _ _ more) (shown-Inner _ ∙ (λ i. tree.Inner record { count = length q; voxels = voxels_of_nears c q i; trees = below i }))
      | inr few ↦ rw (le-leb _ _ few) (shown-Leaf q)
    ]

pub shown_of : (leaf : ℕ) (c : CubeValue) (ps : List PointValue) → shown (level_of leaf c ps) ≡ octree leaf c ps
shown_of leaf c ps = shown_at leaf (c.bits - 7) c ps
