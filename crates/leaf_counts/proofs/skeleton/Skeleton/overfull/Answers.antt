use Rattle.std.proofs.Common.{ap, ◌∙◌, sym, subst, IsTrue}
use Rattle.std.specs.List.{All}
use Rattle.cube_math.specs.Cubes.{CubeValue, contains}
use Rattle.octree_model.proofs.OctreeLaws.{all_inside}
use Rattle.leaf_counts.specs.Skeletons.{SkeletonValue}
use Rattle.leaf_counts.specs.declared.skeleton.Skeleton.TheInside.{Inside}
use Rattle.leaf_counts.specs.Overfull.{overfull}
use Rattle.leaf_counts.proofs.PathLaws.{named_from_root}
use Rattle.leaf_counts.proofs.skeleton.Skeleton.overfull.Goals as goal

pub returns : goal.returns
returns c =
    let P : CubeValue → Type 0 = λ cube. All (λ p. IsTrue (contains cube p)) c.args.batch.now.points in
    let has : P c.self.inside.cube = subst P (c.requires ∙ ap (λ (s : SkeletonValue). s.cube) (sym c.self.view_is)) c.points.ensures.kept.contained in
    named_from_root _ _ _ _ _ (c.in_ok-add_overfull.ensures c.args.batch.now.points (all_inside c.self.inside.cube c.args.batch.now.points has ∙ sym c.points.ensures.value)) c.new-paths.ensures.items c.root.ensures
    (ap (λ (s : Inside). overfull s.leaf c.self.inside.cube s.counts c.args.batch.now.points) c.self-inside.view_is
    ∙ ap (λ (s : SkeletonValue). overfull s.leaf s.cube s.counts c.args.batch.now.points) c.self.view_is)
