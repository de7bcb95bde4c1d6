-- The way of a camera down an octree, child by child.
use Rattle.std.proofs.Common.{◌≡◌, ℕ, suc, ◌+◌, ◌<◌, true, List, [], ◌∷◌, ◌++◌, map, take, length, get_or, append_assoc, ap, ◌∙◌, sym, arith, if◌then◌else◌}
use Rattle.std.proofs.lemmas.List.{append-nil, length-map, length-take, map-append, take_more}
use Rattle.cube_math.specs.Cubes.{CubeValue, child}
use Rattle.octree_model.specs.declared.tree.Tree.{Tree}
use Rattle.octree_model.specs.declared.tree.Tree.TheVariants.{Inner}
use Rattle.octree_model.specs.declared.tree.InnerNode.{InnerNode}
use Rattle.picture_model.specs.Cameras.{CameraValue, refines}
use Rattle.picture_model.specs.Items.{ItemValue, voxel_item}
use Rattle.camera_cut.specs.Descents.{SeenIn, children_seen, seen_in}
use Rattle.camera_cut.proofs.ItemLaws.{seen_in-Inner}

-- a child more at the end
children_push : (c : CubeValue) (g : ℕ) (seen : List SeenIn) (last : SeenIn) → children_seen c g (seen ++ last ∷ []) ≡ children_seen c g seen ++ last (child c (g + length seen))
children_push c g [] last = append-nil (last (child c g)) ∙ (let same : g ≡ g + 0 = omega arith in ap (λ k. last (child c k)) same)
children_push c g (first ∷ seen) last =
    ap (λ (items : List ItemValue). first (child c g) ++ items) (children_push c (g + 1) seen last)
    ∙ sym (append_assoc (first (child c g)) (children_seen c (g + 1) seen) (last (child c (g + 1 + length seen))))
    ∙ (let same : g + 1 + length seen ≡ g + suc (length seen) = omega arith in ap (λ k. (first (child c g) ++ children_seen c (g + 1) seen) ++ last (child c k)) same)

-- after some items and the first children, what is seen of the next child
pub child_more : (camera : CameraValue) (cube : CubeValue) (before : List ItemValue) (ts : List Tree) (g : ℕ) (t : Tree) → g < length ts → t ≡ get_or ts g t
    → (before ++ children_seen cube 0 (map (seen_in camera) (take g ts))) ++ seen_in camera t (child cube g) ≡ before ++ children_seen cube 0 (map (seen_in camera) (take (g + 1) ts))
child_more camera cube before ts g t low at =
    let done : List SeenIn = map (seen_in camera) (take g ts) in
    let many : length done ≡ g = length-map (take g ts) (seen_in camera) ∙ length-take g ts ∙ omega arith in
    let place : g ≡ 0 + length done = omega (arith, many) in
    let more : map (seen_in camera) (take (g + 1) ts) ≡ done ++ seen_in camera t ∷ [] =
    ap (map (seen_in camera)) (take_more ts g t low) ∙ map-append (seen_in camera) (take g ts) (get_or ts g t ∷ []) ∙ ap (λ (u : Tree). done ++ seen_in camera u ∷ []) (sym at) in
    append_assoc before (children_seen cube 0 done) (seen_in camera t (child cube g))
    ∙ ap (λ (items : List ItemValue). before ++ items) (
    ap (λ k. children_seen cube 0 done ++ seen_in camera t (child cube k)) place
    ∙ sym (children_push cube 0 done (seen_in camera t)) ∙ ap (children_seen cube 0) (sym more))

-- of an inner node that refines all children are seen
pub all_children : (camera : CameraValue) (cube : CubeValue) (n : InnerNode) → refines camera cube ≡ true → children_seen cube 0 (map (seen_in camera) n.trees) ≡ seen_in camera (Inner n) cube
all_children camera cube n refined =
    sym (seen_in-Inner camera n cube ∙ ap (λ b. if b then children_seen cube 0 (map (seen_in camera) n.trees) else map (voxel_item cube) n.voxels) refined)
