-- The first batch with too many nodes, by halves.
use Rattle.std.proofs.Common.{◌≡◌, ℕ, ◌+◌, ◌-◌, ◌<◌, ◌≤◌, List, ◌++◌, length, take, drop, get_or, Some, None, nat_lt, ap, ◌∙◌, sym, refl, arith, if◌then◌else◌}
use Rattle.std.proofs.lemmas.Bool.{lt-ltb, le-ltb}
use Rattle.std.proofs.lemmas.List.{take_all}
use Rattle.cube_math.specs.Points.{PointValue}
use Rattle.cube_math.specs.Cubes.{CubeValue}
use Rattle.cube_math.specs.declared.refused.Cause.TheVariants.{Nodes}
use Rattle.octree_model.specs.Bags.{joined}
use Rattle.octree_model.specs.Counts.{nodes}
use Rattle.octree_model.specs.Octree.{octree}
use Rattle.batch_bounds.specs.Stops.{IsCut, IsFirst, need_at, nodes_at}
use Rattle.batch_bounds.proofs.Counts.{nodes_rise}
use Rattle.batch_bounds.proofs.Cuts.{length-ends, ends_within, first_points, joined_split, take-take}
use Rattle.batch_bounds.proofs.StopLaws.{end_is}

-- the points up to the end of a batch
pub up_to_end : (points : List PointValue) (ends : List ℕ) (bs : List (List PointValue)) (k : ℕ) → IsCut points ends bs → k < length ends → take (get_or ends k 0) points ≡ joined (take (k + 1) bs)
up_to_end points ends bs k cut l =
    let many : length ends ≡ length bs = ap length cut.ends_are ∙ length-ends 0 bs in
    (λ i. take (end_is ends bs k cut.ends_are (omega (arith, many)) i) (cut.joined_is i)) ∙ first_points bs (k + 1)

-- so many nodes, as the code counts them
pub need_is : (leaf : ℕ) (cube : CubeValue) (points : List PointValue) (ends : List ℕ) (bs : List (List PointValue)) (k : ℕ) → IsCut points ends bs → k < length ends
    → nodes (octree leaf cube (take (get_or ends k 0) points)) ≡ need_at cube leaf bs k
need_is leaf cube points ends bs k cut l = ap (λ (ps : List PointValue). nodes (octree leaf cube ps)) (up_to_end points ends bs k cut l)

-- later batches need no fewer
needs_rise : (leaf : ℕ) (cube : CubeValue) (bs : List (List PointValue)) (j k : ℕ) → j ≤ k → need_at cube leaf bs j ≤ need_at cube leaf bs k
needs_rise leaf cube bs j k l =
    let prefix : joined (take (k + 1) bs) ≡ joined (take (j + 1) (take (k + 1) bs)) ++ joined (drop (j + 1) (take (k + 1) bs)) = joined_split (take (k + 1) bs) (j + 1) in
    let same : joined (take (j + 1) (take (k + 1) bs)) ≡ joined (take (j + 1) bs) = ap joined (take-take (j + 1) (k + 1) bs (omega arith)) in
    let whole : joined (take (k + 1) bs) ≡ joined (take (j + 1) bs) ++ joined (drop (j + 1) (take (k + 1) bs)) = prefix ∙ ap (λ (ps : List PointValue). ps ++ joined (drop (j + 1) (take (k + 1) bs))) same in
    omega (arith, nodes_rise leaf cube (joined (take (j + 1) bs)) (joined (drop (j + 1) (take (k + 1) bs))), ap (λ (ps : List PointValue). nodes (octree leaf cube ps)) whole)

pub nodes_upto : (leaf : ℕ) (cube : CubeValue) (points : List PointValue) (ends : List ℕ) (bs : List (List PointValue)) (j k : ℕ) → IsCut points ends bs → k < length ends → j ≤ k
    → nodes (octree leaf cube (take (get_or ends j 0) points)) ≤ nodes (octree leaf cube (take (get_or ends k 0) points))
nodes_upto leaf cube points ends bs j k cut l le =
    omega (arith, need_is leaf cube points ends bs j cut (omega arith), need_is leaf cube points ends bs k cut l, needs_rise leaf cube bs j k le)

-- the last batch ends with the points
pub last_end : (points : List PointValue) (ends : List ℕ) (bs : List (List PointValue)) → IsCut points ends bs → 0 < length ends → take (get_or ends (length ends - 1) 0) points ≡ points
last_end points ends bs cut some =
    let many : length ends ≡ length bs = ap length cut.ends_are ∙ length-ends 0 bs in
    up_to_end points ends bs (length ends - 1) cut (omega arith)
    ∙ ap joined (take_all (length ends - 1 + 1) bs (omega (arith, many))) ∙ sym cut.joined_is

-- each batch ends among the points
pub end_there : (points : List PointValue) (ends : List ℕ) (bs : List (List PointValue)) (k : ℕ) → IsCut points ends bs → k < length ends → get_or ends k 0 ≤ length points
end_there points ends bs k cut l =
    let many : length ends ≡ length bs = ap length cut.ends_are ∙ length-ends 0 bs in
    omega (arith, end_is ends bs k cut.ends_are (omega (arith, many)), ends_within bs (k + 1), ap length cut.joined_is)

few_nodes : (cube : CubeValue) (leaf most : ℕ) (bs : List (List PointValue)) (k : ℕ) → need_at cube leaf bs k ≤ most → nodes_at cube leaf most bs k ≡ None
few_nodes cube leaf most bs k few = rw (le-ltb _ _ few) refl

-- where one batch needs too many nodes, and those before it do not
pub nodes_stop : (leaf most : ℕ) (cube : CubeValue) (points : List PointValue) (ends : List ℕ) (bs : List (List PointValue)) (k need : ℕ) → IsCut points ends bs → k < length ends
    → need ≡ nodes (octree leaf cube (take (get_or ends k 0) points)) → most < need → ((i : ℕ) → i < k → nodes (octree leaf cube (take (get_or ends i 0) points)) ≤ most)
    → IsFirst (nodes_at cube leaf most bs) (length bs) (Some record { batch = k; row = record { input = k; cause = Nodes k need most } })
nodes_stop leaf most cube points ends bs k need cut l is over below =
    let many : length ends ≡ length bs = ap length cut.ends_are ∙ length-ends 0 bs in
    let due : need_at cube leaf bs k ≡ need = sym (is ∙ need_is leaf cube points ends bs k cut l) in (
      omega (arith, many),
      ap (λ n. if nat_lt most n then Some record { input = k; cause = Nodes k n most } else None) due
          ∙ ap (λ b. if b then Some record { input = k; cause = Nodes k need most } else None) (lt-ltb _ _ over),
      λ i b. few_nodes cube leaf most bs i (omega (arith, need_is leaf cube points ends bs i cut (omega arith), below i b)),
    )

-- where the last batch does not, none does
pub no_nodes_stop : (leaf most : ℕ) (cube : CubeValue) (points : List PointValue) (ends : List ℕ) (bs : List (List PointValue)) → IsCut points ends bs → nodes (octree leaf cube points) ≤ most
    → IsFirst (nodes_at cube leaf most bs) (length bs) None
no_nodes_stop leaf most cube points ends bs cut few k l =
    let rest : joined bs ≡ joined (take (k + 1) bs) ++ joined (drop (k + 1) bs) = joined_split bs (k + 1) in
    let whole : points ≡ joined (take (k + 1) bs) ++ joined (drop (k + 1) bs) = cut.joined_is ∙ rest in
    few_nodes cube leaf most bs k (omega (arith, nodes_rise leaf cube (joined (take (k + 1) bs)) (joined (drop (k + 1) bs)), ap (λ (ps : List PointValue). nodes (octree leaf cube ps)) whole))
