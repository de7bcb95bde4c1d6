-- A small record with a split, and what each of its events needs: leaves of at most two points in a cube of 8 bits.
use Rattle.std.proofs.Common.{◌≡◌, ℕ, ◌+◌, ◌-◌, ◌<◌, ◌≤◌, Bool, true, false, not, cond, List, [], ◌∷◌, ◌++◌, map, filter, length, sum_by, pos, ap, sym, ◌∙◌, refl, arith, inl, inr}
use Rattle.std.proofs.lemmas.Simd.{map-map}
use Rattle.chunk_pool.specs.Amounts.{chunks_for}
use Rattle.cube_math.specs.Points.{PointValue}
use Rattle.cube_math.specs.Cubes.{CubeValue, child}
use Rattle.octree_model.specs.Numbers.{up_to}
use Rattle.octree_model.specs.Octree.{inside}
use Rattle.leaf_counts.specs.declared.counts.Counts.{Counts, Leaf, Inner}
use Rattle.leaf_counts.specs.Nodes.{NodesAt, is_leaf, is_leaf_at}
use Rattle.leaf_counts.specs.Paths.{leaf_paths, paths_below}
use Rattle.leaf_counts.proofs.CountLaws as laws
use Rattle.leaf_counts.proofs.CountLaws.{counted_is}
use Rattle.leaf_counts.proofs.LeafLaws.{leaf_below, leaf_here}
use Rattle.leaf_counts.proofs.NodeLaws.{node_at-Leaf}
use Rattle.leaf_counts.proofs.PathLaws.{leaf_paths-Leaf, leaf_paths-Inner}
use Rattle.record_model.specs.Admissions.{AdmissionValue, admissions}
use Rattle.record_model.specs.Records.{Record, published}
use Rattle.cube_math.specs.declared.config.Config.{Config}
use Rattle.record_model.specs.declared.event.Event.{Event}
use Rattle.record_model.specs.declared.event.Event.TheVariants.{Admission, Publication}
use Rattle.chunk_needs.specs.Leaves.{counts_of, is_leaf_of, leaves, made_leaves, number_in}
use Rattle.chunk_needs.specs.Needs.{leaf_chunks, need}
use Rattle.chunk_needs.specs.Slots.{granted, owned}
use Rattle.chunk_needs.proofs.NeedLaws.{admitted_at_leaf, need_of_admission}

abbrev root : CubeValue
root = record { ox = pos 0; oy = pos 0; oz = pos 0; bits = 8 }

abbrev config : Config
config = record { cube = root; leaf = 2; nodes = 20000; points = 10; chunks = 3; batch = 2 }

abbrev white : ℕ → PointValue
white x = record { x = pos x; y = pos 0; z = pos 0; rgb = 16777215 }

abbrev two : List PointValue
two = white 0 ∷ white 200 ∷ []

abbrev third : List PointValue
third = white 1 ∷ []

-- two points are admitted and published, and then a third
abbrev first_admission : Event × ℕ
first_admission = (Admission 0 two, 0)

abbrev first_publication : Event × ℕ
first_publication = (Publication 0 two, 0)

abbrev second_admission : Event × ℕ
second_admission = (Admission 1 third, 0)

abbrev second_publication : Event × ℕ
second_publication = (Publication 1 third, 0)

abbrev half : Record
half = first_admission ∷ first_publication ∷ []

-- few points make a leaf
few : (ps : List PointValue) → length (inside root ps) ≤ 2 → counts_of config ps ≡ Leaf (length (inside root ps))
few ps le = counted_is 2 root ps ∙ laws.is_leaf 2 root ps (inl le)

no_points : counts_of config [] ≡ Leaf 0
no_points = few [] (omega arith)

two_points : counts_of config two ≡ Leaf 2
two_points = few two (omega arith)

-- which is one at the root, and none below it
leaf_at_root : (n : ℕ) → is_leaf_at (Leaf n) [] ≡ true
leaf_at_root n = ap (λ (f : NodesAt). is_leaf (f [])) (node_at-Leaf n)

no_leaf_below : (n g : ℕ) (path : List ℕ) → is_leaf_at (Leaf n) (g ∷ path) ≡ false
no_leaf_below n g path = ap (λ (f : NodesAt). is_leaf (f (g ∷ path))) (node_at-Leaf n)

-- the first admission needs a chunk for its two points
first_needs : need config [] first_admission ≡ 1
first_needs = need_of_admission config [] 0 0 two ∙ ap (λ (t : Counts). sum_by (λ path. chunks_for (granted config [] path + number_in config path two) - chunks_for (granted config [] path)) (leaf_paths t)) no_points
    ∙ ap (λ (paths : List (List ℕ)). sum_by (λ path. chunks_for (granted config [] path + number_in config path two) - chunks_for (granted config [] path)) paths) (leaf_paths-Leaf 0)

-- its publication makes no leaf, and needs none
second_needs : need config (first_admission ∷ []) first_publication ≡ 0
second_needs = ap (sum_by (λ path. chunks_for (owned config half path))) none
  where
    none : made_leaves config (first_admission ∷ []) first_publication ≡ []
    none = (λ i. filter (λ path. not (is_leaf_at (no_points i) path)) (leaf_paths (two_points i))) ∙ ap (filter (λ path. not (is_leaf_at (Leaf 0) path))) (leaf_paths-Leaf 2)
        ∙ ap (λ b. cond (not b) ([] ∷ []) []) (leaf_at_root 0)

abbrev more_then : List ℕ → ℕ
more_then path = chunks_for (granted config half path + number_in config path third) - chunks_for (granted config half path)

-- the third point has room in that chunk
third_needs : need config half second_admission ≡ 0
third_needs =
    need_of_admission config half 1 0 third ∙ ap (sum_by more_then) (ap leaf_paths two_points ∙ leaf_paths-Leaf 2) ∙ ap (λ n. 0 + (chunks_for (n + 1) - chunks_for n)) slots
  where
    slots : granted config half [] ≡ 2
    slots = ap (λ b. 0 + cond {A = ℕ} b 2 0) (ap (λ (t : Counts). is_leaf_at t []) no_points ∙ leaf_at_root 0)

abbrev three : List PointValue
three = white 0 ∷ white 200 ∷ white 1 ∷ []

abbrev eight : List (List ℕ)
eight = map (λ g. g ∷ []) (up_to 8)

-- the octree of all three has the eight octants as leaves
three_points : leaf_paths (counts_of config three) ≡ eight
three_points =
    ap leaf_paths (counted_is 2 root three ∙ laws.is_inner 2 root three (omega arith) (omega arith)) ∙ leaf_paths-Inner _ _
    ∙ ap (paths_below 0) (map-map leaf_paths (λ g. laws.counts_of 2 (child root g) three) (up_to 8) ∙ laws.map_same (λ g. leaf_paths (laws.counts_of 2 (child root g) three)) (λ g. [] ∷ []) 8 (λ g low. ap leaf_paths (laws.is_leaf 2 (child root g) three (inr (omega arith))) ∙ leaf_paths-Leaf _))

-- no node below a leaf is one
none_was : (gs : List ℕ) → filter (λ path. not (is_leaf_at (Leaf 2) path)) (map (λ g. g ∷ []) gs) ≡ map (λ g. g ∷ []) gs
none_was [] = refl
none_was (g ∷ gs) = (λ i. cond (not (no_leaf_below 2 g [] i)) ((g ∷ []) ∷ none_was gs i) (none_was gs i))

-- so the publication of the third point makes all eight
made : made_leaves config (half ++ second_admission ∷ []) second_publication ≡ eight
made = (λ i. filter (λ path. not (is_leaf_at (two_points i) path)) (three_points i)) ∙ none_was (up_to 8)

-- no octant was a leaf when they were admitted
none_before : (g : ℕ) → is_leaf_of config [] (g ∷ []) ≡ false
none_before g = ap (λ (t : Counts). is_leaf_at t (g ∷ [])) no_points ∙ no_leaf_below 0 g []

none_then : (g : ℕ) → is_leaf_of config two (g ∷ []) ≡ false
none_then g = ap (λ (t : Counts). is_leaf_at t (g ∷ [])) two_points ∙ no_leaf_below 2 g []

-- an octant owns slots for the admitted points in it
owns : (g : ℕ) → owned config (half ++ second_admission ∷ second_publication ∷ []) (g ∷ []) ≡ length (inside (child root g) two) + length (inside (child root g) third)
owns g = (λ i. (0 + cond (none_before g i) 0 (length (inside (child root g) two))) + cond (none_then g i) 0 (length (inside (child root g) third))) ∙ plain _ _
  where
    plain : (a b : ℕ) → (0 + a) + b ≡ a + b
    plain a b = omega arith

-- and none is granted there
none_granted : (g : ℕ) → granted config (half ++ second_admission ∷ second_publication ∷ []) (g ∷ []) ≡ 0
none_granted g = (λ i. (0 + cond (none_before g i) (length (inside (child root g) two)) 0) + cond (none_then g i) (length (inside (child root g) third)) 0)

-- its publication splits the root, and needs a chunk for each of the two octants with points
fourth_needs : need config (half ++ second_admission ∷ []) second_publication ≡ 2
fourth_needs = ap (sum_by (λ path. chunks_for (owned config (half ++ second_admission ∷ second_publication ∷ []) path))) made
    ∙ (λ i. ((((((((0 + chunks_for (owns 0 i)) + chunks_for (owns 1 i)) + chunks_for (owns 2 i)) + chunks_for (owns 3 i)) + chunks_for (owns 4 i)) + chunks_for (owns 5 i)) + chunks_for (owns 6 i)) + chunks_for (owns 7 i)))

-- a fourth point comes, beside the first and the third
abbrev fourth : List PointValue
fourth = white 2 ∷ []

abbrev split : Record
split = half ++ second_admission ∷ second_publication ∷ []

abbrev third_admission : Event × ℕ
third_admission = (Admission 2 fourth, 0)

-- the octants are leaves then, as they were not when the points before were admitted
octant_is_leaf : (g : ℕ) → g < 8 → is_leaf_of config three (g ∷ []) ≡ true
octant_is_leaf g low =
    ap (λ (t : Counts). is_leaf_at t (g ∷ [])) (counted_is 2 root three)
    ∙ leaf_below 2 root three g [] record { more = omega arith; high = omega arith } low ∙ leaf_here 2 (child root g) three (inr (omega arith))

-- so the first octant owns the slots of two points, and is granted one for the fourth: a chunk for each
first_octant_owns : owned config (split ++ third_admission ∷ []) (0 ∷ []) ≡ 2
first_octant_owns = (admitted_at_leaf config split 2 0 fourth (0 ∷ []) (octant_is_leaf 0 (omega arith))).1 ∙ owns 0

first_octant_is_granted : granted config (split ++ third_admission ∷ []) (0 ∷ []) ≡ 1
first_octant_is_granted = (admitted_at_leaf config split 2 0 fourth (0 ∷ []) (octant_is_leaf 0 (omega arith))).0 ∙ ap (λ n. n + 1) (none_granted 0)

first_octant_has_both : leaf_chunks config (split ++ third_admission ∷ []) (0 ∷ []) ≡ 2
first_octant_has_both = (λ i. chunks_for (first_octant_is_granted i) + chunks_for (first_octant_owns i))
