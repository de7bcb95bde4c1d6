-- Commits one after the other, and what stands at a path.
use Rattle.std.proofs.Common.{◌≡◌, ◌⊎◌, ℕ, ◌≤◌, inl, inr, true, false, ◌&&◌, List, [], ◌∷◌, ◌++◌, map, length, Some, None, nat_lt, ap, ◌∙◌, sym, refl, subst, arith, append_assoc}
use Rattle.std.proofs.lemmas.Bool.{cases_lt, lt-ltb, le-ltb, and_right, and_from}
use Rattle.std.proofs.lemmas.List.{append-nil}
use Rattle.std.proofs.lemmas.Option.{slice_get_read, slice_get_past}
use Rattle.cube_math.specs.Points.{PointValue}
use Rattle.cube_math.specs.Cubes.{CubeValue, child}
use Rattle.octree_model.specs.Numbers.{up_to}
use Rattle.octree_model.specs.Octree.{inside}
use Rattle.leaf_counts.specs.declared.counts.Counts.{Counts, Inner}
use Rattle.leaf_counts.specs.Laws.{Commit, IsDue, AreDue, skeleton_after, all_points}
use Rattle.leaf_counts.specs.Nodes.{NodeValue, NodesAt, node_at, cube_at}
use Rattle.leaf_counts.specs.Plans.{IsPublished, planned}
use Rattle.leaf_counts.specs.Skeletons.{SkeletonValue, skeleton_of}
use Rattle.leaf_counts.proofs.CountLaws as counts
use Rattle.leaf_counts.proofs.CountLaws.{counts_of}
use Rattle.leaf_counts.proofs.NodeLaws.{node_at-Leaf, node_at-Inner}
use Rattle.leaf_counts.proofs.OverfullLaws.{child_counts, eight_children}
use Rattle.leaf_counts.proofs.WayLaws.{node_below, no_node_below, none_below_leaf}

pub commits_are : (leaf : ℕ) (cube : CubeValue) (points : List PointValue) (commits : List Commit) → AreDue (skeleton_of leaf cube points) points commits
    → skeleton_after (skeleton_of leaf cube points) commits ≡ skeleton_of leaf cube (points ++ all_points commits)
commits_are leaf cube points [] due = ap (skeleton_of leaf cube) (sym (append-nil points))
commits_are leaf cube points (commit ∷ others) due =
    let here : IsDue (skeleton_of leaf cube points) points commit = due.0 in
    let published : IsPublished (skeleton_of leaf cube points) commit.batch commit.spills points = record { is = refl; few = here.few; paths = here.paths; bags = here.bags } in
    let next : planned (skeleton_of leaf cube points) commit.plan ≡ skeleton_of leaf cube (points ++ commit.batch) = here.answer points published in
    ap (λ (s : SkeletonValue). skeleton_after s others) next
    ∙ commits_are leaf cube (points ++ commit.batch) others (subst (λ (s : SkeletonValue). AreDue s (points ++ commit.batch) others) next due.1)
    ∙ ap (skeleton_of leaf cube) (append_assoc points commit.batch (all_points others))

-- what a node says
pub record SaysOf (leaf : ℕ) (cube : CubeValue) (ps : List PointValue) (node : NodeValue) : Type 0 where
  pub count : node.count ≡ length (inside cube ps)
  pub inner : node.inner ≡ (nat_lt 7 cube.bits && nat_lt leaf node.count)

some_is : {X : Type 0} (x y : X) → Some x ≡ Some y → x ≡ y
some_is x y e = cc

leaf_says : (leaf : ℕ) (cube : CubeValue) (ps : List PointValue) (node : NodeValue) → (length (inside cube ps) ≤ leaf) ⊎ (cube.bits ≤ 7) → node_at (counts_of leaf cube ps) [] ≡ Some node → SaysOf leaf cube ps node
leaf_says leaf cube ps node stays e =
    let n : ℕ = length (inside cube ps) in
    let is : record { inner = false; count = n } ≡ node =
    some_is _ _ (sym (ap (λ (t : Counts). node_at t []) (counts.is_leaf leaf cube ps stays) ∙ ap (λ (f : NodesAt). f []) (node_at-Leaf n)) ∙ e) in
    let test : (nat_lt 7 cube.bits && nat_lt leaf n) ≡ false = elim stays [
      | inl few ↦ and_right (nat_lt 7 cube.bits) _ (le-ltb leaf n few)
      | inr low ↦ ap (λ b. b && nat_lt leaf n) (le-ltb 7 cube.bits low)
    ] in
    subst (SaysOf leaf cube ps) is record { count = refl; inner = sym test }

pub node_says : (path : List ℕ) (leaf : ℕ) (cube : CubeValue) (ps : List PointValue) (node : NodeValue) → node_at (counts_of leaf cube ps) path ≡ Some node → SaysOf leaf (cube_at cube path) ps node
node_says [] leaf cube ps node e =
    elim (cases_lt leaf (length (inside cube ps))) [
      | inl more ↦ elim (cases_lt 7 cube.bits) [
        | inl high ↦
            let n : ℕ = length (inside cube ps) in
            let is : record { inner = true; count = n } ≡ node =
            some_is _ _ (sym (ap (λ (t : Counts). node_at t []) (counts.is_inner leaf cube ps more high) ∙ ap (λ (f : NodesAt). f []) (node_at-Inner n _)) ∙ e) in
            subst (SaysOf leaf cube ps) is record { count = refl; inner = sym (and_from _ _ (lt-ltb 7 cube.bits high) (lt-ltb leaf n more)) }
        | inr low ↦ leaf_says leaf cube ps node (inr low) e
      ]
      | inr few ↦ leaf_says leaf cube ps node (inl few) e
    ]
node_says (g ∷ path) leaf cube ps node e =
    elim (cases_lt leaf (length (inside cube ps))) [
      | inl more ↦ elim (cases_lt 7 cube.bits) [
        | inl high ↦
            let ts : List Counts = map (λ k. counts_of leaf (child cube k) ps) (up_to 8) in
            let inner : counts_of leaf cube ps ≡ Inner (length (inside cube ps)) ts = counts.is_inner leaf cube ps more high in
            elim (cases_lt g 8) [
              | inl low ↦
                  let u : Counts = counts_of leaf (child cube g) ps in
                  node_says path leaf (child cube g) ps node
                  (sym (node_below _ _ g ts path u inner (slice_get_read ts 8 g u (sym (eight_children leaf cube ps)) low (sym (child_counts leaf cube ps g u low)))) ∙ e)
              | inr past ↦ absurd (none_some node (sym (no_node_below _ _ g ts path inner (slice_get_past ts g (omega (arith, eight_children leaf cube ps)))) ∙ e))
            ]
        | inr low ↦ absurd (none_some node (sym (none_below_leaf _ _ g path (counts.is_leaf leaf cube ps (inr low))) ∙ e))
      ]
      | inr few ↦ absurd (none_some node (sym (none_below_leaf _ _ g path (counts.is_leaf leaf cube ps (inl few))) ∙ e))
    ]
  where
    none_some : (node : NodeValue) → None ≡ Some node → ⊥
    none_some node e = cc
