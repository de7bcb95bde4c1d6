use Rattle.std.proofs.Common.{◌≡◌, ℕ, ◌+◌, ◌<◌, ◌++◌, ◌∷◌, List, length, get_or, drop, map, sum, flat_map, ap, sym, ◌∙◌, arith}
use Rattle.std.proofs.lemmas.List.{drop_more}
use Rattle.std.proofs.lemmas.List.Sums.{sum_by-cons}
use Rattle.cube_math.specs.Cubes.{child}
use Rattle.octree_model.specs.Counts.{nodes}
use Rattle.octree_model.specs.Voxels.{VoxelValue}
use Rattle.octree_model.specs.declared.tree.Tree.{Tree}
use Rattle.octree_model.proofs.CountLaws.{nodes-Inner}
use Rattle.octree_model.proofs.ShapeLaws.{IsInnerIn, inner_in}
use Rattle.octree_file.specs.Spelling.{spelling, u32_bytes, voxel_bytes}
use Rattle.octree_file.proofs.WritingLaws.{few_in_leaf, few_in_node, node_written}
use Rattle.octree_file.proofs.writing.+write_tree.Goals as goal

pub write_leaf-requires : goal.write_leaf-requires
write_leaf-requires t c = omega (arith, ap length c.points.ensures, few_in_leaf c.args.tree.now c.in-Leaf.points c.requires c.in-Leaf.is)

pub write_voxels-requires : goal.write_voxels-requires
write_voxels-requires t c = omega (arith, ap length c.voxels.ensures, few_in_node c.args.tree.now c.in-Inner.node c.requires c.in-Inner.is)

pub loop-t-init : goal.loop-t-init
loop-t-init t c =
    let items : c.trees-t-items.result.now ≡ c.in-Inner.node.trees = c.trees-t-items.ensures in
    let count : nodes c.args.tree.now ≡ 1 + sum (map nodes c.in-Inner.node.trees) = ap nodes c.in-Inner.is ∙ nodes-Inner c.in-Inner.node in
    record {
      rest = omega (arith, count, ap (λ (ts : List Tree). sum (map nodes ts)) items);
      written =
          ap (λ (ts : List Tree). c.write_voxels.new.out.items ++ flat_map spelling ts) items
          ∙ node_written c.args.tree.now c.in-Inner.node c.args.out.now.items c.write_voxels.new.out.items c.in-Inner.is
          (c.in_ok-write_voxels-in-Inner.ensures ∙ ap
          (λ (vs : List VoxelValue). c.args.out.now.items ++ ((1 ∷ u32_bytes (length vs)) ++ flat_map voxel_bytes vs))
          c.voxels.ensures);
    }

pub write_tree-requires : goal.write_tree-requires
write_tree-requires t c =
    let items : List Tree = c.trees-t-items.result.now in
    let i : ℕ = c.loop-t.t-index in
    let next : drop i items ≡ c.t-item.result ∷ drop (i + 1) items =
    drop_more items i c.t-item.result c.loop-t-test.true ∙ ap (λ (u : Tree). u ∷ drop (i + 1) items) (sym c.t-item.is) in
    let inner : IsInnerIn c.requires.cube c.in-Inner.node = inner_in c.requires.cube c.args.tree.now c.in-Inner.node c.requires.octree c.in-Inner.is in
    let low : i < 8 = omega (arith, inner.eight, ap length c.trees-t-items.ensures) in
    let at : c.t-item.result ≡ get_or c.in-Inner.node.trees i c.t-item.result =
    c.t-item.is ∙ ap (λ (ts : List Tree). get_or ts i c.t-item.result) c.trees-t-items.ensures in
    let whole : sum (map nodes (drop i items)) ≡ nodes c.t-item.result + sum (map nodes (drop (i + 1) items)) =
    ap (λ (ts : List Tree). sum (map nodes ts)) next ∙ sum_by-cons (λ m. m) (nodes c.t-item.result) (map nodes (drop (i + 1) items)) in
    (omega (arith, c.loop-t.invariant.rest, whole), record { cube = child c.requires.cube i; octree = inner.below i c.t-item.result low at })
