-- Runs of points, joined and in any order.
use Rattle.std.proofs.Common.{◌≡◌, ℕ, ◌+◌, ◌%◌, ◌^◌, ◌<◌, Bool, cond, nat_eq, List, [], ◌∷◌, ◌++◌, map, take, length, get_or, count_by, ap, refl, sym, arith, ◌∙◌, append_assoc}
use Rattle.std.specs.List.{All, sum_by}
use Rattle.std.specs.List.Sorted.{IsPermutation}
use Rattle.std.specs.Prelude.{unwrap_or}
use Rattle.std.proofs.lemmas.List.{map-append, append-nil, take_more}
use Rattle.std.proofs.lemmas.List.Sorted.{sum_by-IsPermutation}
use Rattle.std.proofs.lemmas.List.Sums.{sum_by-append, sum_by-cons}
use Rattle.cube_math.specs.Points.{PointValue}
use Rattle.cube_math.specs.Cubes.{CubeValue, cell}
use Rattle.octree_model.specs.Bags.{IsSameBag, joined}
use Rattle.octree_model.specs.Numbers.{ascending, least}
use Rattle.octree_model.specs.Voxels.{VoxelValue, cell_keys, voxels}
use Rattle.octree_model.proofs.SameBagLaws.{Same, same_filter, same_numbers, same_least, same_voxels}
use Rattle.voxel_sampler.specs.Nears.{NearValue, near_key, near_at, near_of, entries_in, keys_in, voxel_of, cells_of, least_nears, nears}
use Rattle.voxel_sampler.specs.Order.{IsAscending}
use Rattle.voxel_sampler.proofs.Keys.{same_nears, merged_nears, merged_right, nears_of_points}
use Rattle.least_runs.specs.Runs.{entries, joined_run, voxels_of}
use Rattle.least_runs.proofs.TableLaws.{alone}

-- the run of points and more points is that of both
pub nears_of_both : (c : CubeValue) (ps qs : List PointValue) → least_nears (nears c ps ++ nears c qs) ≡ nears c (ps ++ qs)
nears_of_both c ps qs =
    ap (λ (ns : List NearValue). least_nears (ns ++ nears c qs)) (sym (nears_of_points c ps)) ∙ merged_nears (map (near_of c) ps) (nears c qs)
    ∙ ap (λ (ns : List NearValue). least_nears (map (near_of c) ps ++ ns)) (sym (nears_of_points c qs)) ∙ merged_right (map (near_of c) ps) (map (near_of c) qs)
    ∙ ap least_nears (sym (map-append (near_of c) ps qs)) ∙ nears_of_points c (ps ++ qs)

pub nears_of_none : (c : CubeValue) → nears c [] ≡ []
unfolding nears
nears_of_none c = refl

-- the least keys of a run are its own
pub nears_again : (c : CubeValue) (ps : List PointValue) → least_nears (nears c ps) ≡ nears c ps
nears_again c ps = ap (λ (ns : List NearValue). least_nears (ns ++ nears c ps)) (sym (nears_of_none c)) ∙ nears_of_both c [] ps

pub none_joined : joined_run [] ≡ []
unfolding least_nears
none_joined = refl

-- runs of points, joined, are the run of all the points
pub joined_nears : (c : CubeValue) (parts : List (List PointValue)) → joined_run (map (nears c) parts) ≡ nears c (joined parts)
joined_nears c [] = none_joined ∙ sym (nears_of_none c)
joined_nears c (ps ∷ parts) =
    sym (merged_right (nears c ps) (entries (map (nears c) parts))) ∙ ap (λ (ns : List NearValue). least_nears (nears c ps ++ ns)) (joined_nears c parts)
    ∙ nears_of_both c ps (joined parts)

-- the cells with the colours of their least keys are the voxels
coloured : (f : ℕ → ℕ) (ks : List ℕ) → map voxel_of (map (λ z. near_at z (f z)) ks) ≡ map (λ z. record { cell = z; rgb = f z % 2 ^ 24 }) ks
coloured f [] = refl
coloured f (k ∷ ks) = ap (λ l. record { cell = k; rgb = f k % 2 ^ 24 } ∷ l) (coloured f ks)

pub voxels_of_nears : (c : CubeValue) (ps : List PointValue) → map voxel_of (nears c ps) ≡ voxels c ps
unfolding nears voxels
voxels_of_nears c ps = coloured (λ z. unwrap_or (least (cell_keys c ps z)) 0) (ascending (map (cell c) ps))

pub runs_voxels : (c : CubeValue) (parts : List (List PointValue)) (points : List PointValue) → IsSameBag (joined parts) points → voxels_of (map (nears c) parts) ≡ voxels c points
runs_voxels c parts points same = ap (map voxel_of) (joined_nears c parts) ∙ voxels_of_nears c (joined parts) ∙ same_voxels c (joined parts) points same

-- ---- runs that are joined
pub entries-append : (runs others : List (List NearValue)) → entries (runs ++ others) ≡ entries runs ++ entries others
entries-append [] others = refl
entries-append (run ∷ runs) others = ap (λ (ns : List NearValue). run ++ ns) (entries-append runs others) ∙ sym (append_assoc run (entries runs) (entries others))

pub joined_first : (some others : List (List NearValue)) → joined_run (joined_run some ∷ others) ≡ joined_run (some ++ others)
joined_first some others = merged_nears (entries some) (entries others) ∙ ap least_nears (sym (entries-append some others))

-- one run more
pub joined_push : (runs : List (List NearValue)) (run : List NearValue) → joined_run (runs ++ run ∷ []) ≡ least_nears (joined_run runs ++ run)
joined_push runs run =
    ap least_nears (entries-append runs (run ∷ []) ∙ ap (λ (ns : List NearValue). entries runs ++ ns) (append-nil run)) ∙ sym (merged_nears (entries runs) run)

-- a run by itself
pub joined_alone : (run : List NearValue) → joined_run (run ∷ []) ≡ least_nears run
joined_alone run = ap least_nears (append-nil run)

-- ---- runs in another order
same_nears_of : (ns ms : List NearValue) → Same ns ms → least_nears ns ≡ least_nears ms
same_nears_of ns ms same = same_nears ns ms (λ z.
    same_least (keys_in ns z) (keys_in ms z) (same_numbers near_key (entries_in ns z) (entries_in ms z) (same_filter (λ (n : NearValue). nat_eq n.cell z) ns ms same)))

count_entries : (test : NearValue → Bool) (runs : List (List NearValue)) → count_by test (entries runs) ≡ sum_by (λ (run : List NearValue). count_by test run) runs
count_entries test [] = refl
count_entries test (run ∷ runs) =
    sum_by-append (λ n. cond (test n) 1 0) run (entries runs) ∙ ap (λ n. count_by test run + n) (count_entries test runs)
    ∙ sym (sum_by-cons (λ (r : List NearValue). count_by test r) run runs)

pub any_order : (runs others : List (List NearValue)) → IsPermutation runs others → joined_run runs ≡ joined_run others
any_order runs others moved = same_nears_of (entries runs) (entries others) (λ test.
    count_entries test runs ∙ sym (sum_by-IsPermutation (λ (run : List NearValue). count_by test run) runs others moved) ∙ sym (count_entries test others))

-- one run more of a list that is walked
pub one_run : {A : Type 0} (f : A → List NearValue) (runs : List A) (before after keys : List NearValue) (i : ℕ) (run : A) → i < length runs → run ≡ get_or runs i run → keys ≡ f run → before ≡ joined_run (map f (take i runs))
    → after ≡ least_nears (before ++ keys) → after ≡ joined_run (map f (take (i + 1) runs))
one_run {A} f runs before after keys i run l is of so_far put =
    put ∙ (λ k. least_nears (so_far k ++ of k)) ∙ sym (joined_push (map f (take i runs)) (f run))
    ∙ ap joined_run (sym (map-append f (take i runs) (run ∷ []))) ∙ ap (λ r. joined_run (map f (take i runs ++ r ∷ []))) is ∙ ap (λ (rs : List A). joined_run (map f rs)) (sym (take_more runs i run l))

-- a lone run
pub lone_run : {A : Type 0} (f : A → List NearValue) (runs : List A) (run : A) (keys : List NearValue) (found : List VoxelValue) → length runs ≡ 1 → run ≡ get_or runs 0 run → keys ≡ f run → IsAscending (cells_of keys) → All (λ n. n.rgb < 2 ^ 24) keys
    → found ≡ map voxel_of keys → found ≡ voxels_of (map f runs)
lone_run f [] run keys found l is of ascends small coloured = absurd (omega arith)
lone_run f (r ∷ []) run keys found l is of ascends small coloured =
    coloured ∙ ap (map voxel_of) (sym (alone keys ascends small) ∙ ap least_nears (of ∙ ap f is) ∙ sym (joined_alone (f r)))
lone_run f (r ∷ s ∷ runs) run keys found l is of ascends small coloured = absurd (omega arith)
