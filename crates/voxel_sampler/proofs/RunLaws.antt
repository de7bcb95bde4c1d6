-- The runs of batches, and the voxels of all their points.
use Rattle.std.proofs.Common.{◌≡◌, ℕ, ◌%◌, ◌^◌, ◌<◌, ◌≤◌, ◌≢◌, inl, inr, Bool, true, false, ◌||◌, ◌&&◌, List, [], ◌∷◌, ◌++◌, map, ap, refl, sym, arith, ◌∙◌, nat_eq, nat_lt, cond, Option, Some, None, min, append_assoc}
use Rattle.std.specs.List.{filter}
use Rattle.std.specs.Prelude.{unwrap_or, is_some}
use Rattle.std.proofs.lemmas.Bool.{cases_eq, eq-eqb, ne_eqb, ltb-true, ltb-false}
use Rattle.std.proofs.lemmas.List.{map-append, append-nil}
use Rattle.std.proofs.lemmas.List.Elements.{filter-append}
use Rattle.cube_math.specs.Points.{PointValue}
use Rattle.cube_math.specs.Cubes.{CubeValue, cell}
use Rattle.octree_model.specs.Bags.{joined}
use Rattle.octree_model.specs.Numbers.{has, ascending, least}
use Rattle.octree_model.specs.Voxels.{VoxelValue, cell_keys, cell_colour, voxels}
use Rattle.octree_model.proofs.AscendingLaws.{has-ascending}
use Rattle.occupancy_grid.proofs.NumberSets.{same_numbers}
use Rattle.voxel_sampler.specs.Laws.{nears_after, runs_of, all_voxels}
use Rattle.voxel_sampler.specs.Nears.{NearValue, near_at, near_of, voxel_of, cells_of, least_nears, nears, nears_with}
use Rattle.voxel_sampler.specs.Runs.{is_lower, falls, run_of, voxel_cells, last_or, last_colour, last_entries}
use Rattle.voxel_sampler.specs.Updates.{is_change}
use Rattle.voxel_sampler.proofs.Keys.{both, both-none, key_in, key_in-append, some_again, key_in-least_nears, cells_of-least_nears, key_back, has_key, map_same, keys_of_points, cells_of_points, nears_of_points, merged_nears, merged_right}
use Rattle.voxel_sampler.proofs.Rising.{Rising, rising-ascending, over_not_has}

-- ---- the last number of a list, where it has one
abbrev last : List ℕ → Option ℕ
last [] = None
last (n ∷ ns) = Some (last_or ns n)

abbrev later : Option ℕ → Option ℕ → Option ℕ
later None before = before
later (Some n) before = Some n

later-none : (o : Option ℕ) → later o None ≡ o
later-none None = refl
later-none (Some n) = refl

last_or-append : (xs ys : List ℕ) (other : ℕ) → last_or (xs ++ ys) other ≡ last_or ys (last_or xs other)
last_or-append [] ys other = refl
last_or-append (x ∷ xs) ys other = last_or-append xs ys x

last-append : (xs ys : List ℕ) → last (xs ++ ys) ≡ later (last ys) (last xs)
last-append [] ys = sym (later-none (last ys))
last-append (x ∷ xs) [] = ap (λ n. Some n) (last_or-append xs [] x)
last-append (x ∷ xs) (y ∷ ys) = ap (λ n. Some n) (last_or-append xs (y ∷ ys) x)

last_is : (ns : List ℕ) → last_or ns 0 ≡ unwrap_or (last ns) 0
last_is [] = refl
last_is (n ∷ ns) = refl

-- ---- the last colour of a cell, where it has one
abbrev last_in : List VoxelValue → ℕ → Option ℕ
last_in vs z = last (map (λ v. v.rgb) (filter (λ v. nat_eq v.cell z) vs))

last_in-append : (vs ws : List VoxelValue) (z : ℕ) → last_in (vs ++ ws) z ≡ later (last_in ws z) (last_in vs z)
last_in-append vs ws z =
    ap (λ us. last (map (λ (v : VoxelValue). v.rgb) us)) (filter-append (λ (v : VoxelValue). nat_eq v.cell z) vs ws)
    ∙ ap last (map-append (λ (v : VoxelValue). v.rgb) (filter (λ v. nat_eq v.cell z) vs) (filter (λ v. nat_eq v.cell z) ws))
    ∙ last-append (map (λ v. v.rgb) (filter (λ v. nat_eq v.cell z) vs)) (map (λ v. v.rgb) (filter (λ v. nat_eq v.cell z) ws))

last_in_here : (v : VoxelValue) (z : ℕ) → v.cell ≡ z → last_in (v ∷ []) z ≡ Some v.rgb
last_in_here v z e = ap (λ b. last (map (λ (w : VoxelValue). w.rgb) (cond b (v ∷ []) []))) (eq-eqb _ _ e)

last_in_elsewhere : (v : VoxelValue) (z : ℕ) → v.cell ≢ z → last_in (v ∷ []) z ≡ None
last_in_elsewhere v z other = ap (λ b. last (map (λ (w : VoxelValue). w.rgb) (cond b (v ∷ []) []))) (ne_eqb _ _ other)

has_last : (vs : List VoxelValue) (z : ℕ) → has z (voxel_cells vs) ≡ is_some (last_in vs z)
has_last [] z = refl
has_last (v ∷ vs) z = elim (cases_eq z v.cell) [
  | inl same ↦
      ap (λ b. b || has z (voxel_cells vs)) (eq-eqb _ _ same)
      ∙ sym (ap (λ b. is_some (last (map (λ (w : VoxelValue). w.rgb) (cond b (v ∷ filter (λ w. nat_eq w.cell z) vs) (filter (λ w. nat_eq w.cell z) vs))))) (eq-eqb _ _ (sym same)))
  | inr other ↦
      ap (λ b. b || has z (voxel_cells vs)) (ne_eqb _ _ other) ∙ has_last vs z
      ∙ sym (ap (λ b. is_some (last (map (λ (w : VoxelValue). w.rgb) (cond b (v ∷ filter (λ w. nat_eq w.cell z) vs) (filter (λ w. nat_eq w.cell z) vs))))) (ne_eqb _ _ (λ e. other (sym e))))
]

-- ---- the colours of points
abbrev colour_of : Option ℕ → Option ℕ
colour_of None = None
colour_of (Some k) = Some (k % 2 ^ 24)

has_cell_key : (c : CubeValue) (ps : List PointValue) (z : ℕ) → has z (map (cell c) ps) ≡ is_some (least (cell_keys c ps z))
has_cell_key c ps z =
    ap (has z) (sym (cells_of_points c ps)) ∙ has_key (map (near_of c) ps) z ∙ ap (λ ks. is_some (least ks)) (keys_of_points c ps z)

keys_of_both : (c : CubeValue) (qs ps : List PointValue) (z : ℕ) → least (cell_keys c (qs ++ ps) z) ≡ both (least (cell_keys c qs z)) (least (cell_keys c ps z))
keys_of_both c qs ps z =
    ap least (sym (keys_of_points c (qs ++ ps) z)) ∙ ap (λ (ns : List NearValue). key_in ns z) (map-append (near_of c) qs ps)
    ∙ key_in-append (map (near_of c) qs) (map (near_of c) ps) z
    ∙ ap (λ ks. both (least ks) (key_in (map (near_of c) ps) z)) (keys_of_points c qs z)
    ∙ ap (λ ks. both (least (cell_keys c qs z)) (least ks)) (keys_of_points c ps z)

-- voxels whose last colours are those of points
voxels_by : (vs : List VoxelValue) (c : CubeValue) (ps : List PointValue) → ((z : ℕ) → last_in vs z ≡ colour_of (least (cell_keys c ps z))) → last_entries vs ≡ voxels c ps
unfolding voxels
voxels_by vs c ps same =
    ap (map (λ z. record { cell = z; rgb = last_colour vs z })) (same_numbers (voxel_cells vs) (map (cell c) ps)
    (λ z. has_last vs z ∙ ap is_some (same z) ∙ some_colour (least (cell_keys c ps z)) ∙ sym (has_cell_key c ps z)))
    ∙ map_same (λ z. record { cell = z; rgb = last_colour vs z }) (λ z. record { cell = z; rgb = cell_colour c ps z }) (ascending (map (cell c) ps))
    (λ z i. record { cell = z; rgb = (last_is (map (λ (v : VoxelValue). v.rgb) (filter (λ v. nat_eq v.cell z) vs)) ∙ ap (λ o. unwrap_or o 0) (same z) ∙ colour_is (least (cell_keys c ps z))) i })
  where
    some_colour : (o : Option ℕ) → is_some (colour_of o) ≡ is_some o
    some_colour None = refl
    some_colour (Some k) = refl

    colour_is : (o : Option ℕ) → unwrap_or (colour_of o) 0 ≡ unwrap_or o 0 % 2 ^ 24
    colour_is None = refl
    colour_is (Some k) = refl

-- ---- one run
first_voxel : (b : Bool) (v : VoxelValue) (rest : List VoxelValue) (z : ℕ) → last_in (cond b (v ∷ rest) rest) z ≡ later (last_in rest z) (cond b (last_in (v ∷ []) z) None)
first_voxel true v rest z = last_in-append (v ∷ []) rest z
first_voxel false v rest z = sym (later-none (last_in rest z))

abbrev nobody : Option ℕ
nobody = None

nothing : (b : Bool) → cond b nobody nobody ≡ nobody
nothing true = refl
nothing false = refl

passing_last : (p : ℕ → Bool) (h : ℕ → ℕ) (ks : List ℕ) (z : ℕ) → Rising ks
    → last_in (filter (λ v. p v.cell) (map (λ y. record { cell = y; rgb = h y }) ks)) z ≡ cond (has z ks && p z) (Some (h z)) None
passing_last p h [] z rising = refl
passing_last p h (k ∷ ks) z rising =
    let voxel : VoxelValue = record { cell = k; rgb = h k } in
    let rest : List VoxelValue = filter (λ v. p v.cell) (map (λ y. record { cell = y; rgb = h y }) ks) in
    first_voxel (p k) voxel rest z ∙ elim (cases_eq z k) [
      | inl same ↦
          ap (λ o. later o (cond (p k) (last_in (voxel ∷ []) z) None)) (passing_last p h ks z rising.1 ∙ ap (λ b. cond (b && p z) (Some (h z)) None) (over_not_has k z ks rising.0 (omega arith)))
          ∙ ap (λ o. cond (p k) o None) (last_in_here voxel z (sym same))
          ∙ ap (λ y. cond (p y) (Some (h y)) None) (sym same)
          ∙ sym (ap (λ b. cond ((b || has z ks) && p z) (Some (h z)) None) (eq-eqb _ _ same))
      | inr other ↦
          ap (later (last_in rest z)) (ap (λ o. cond (p k) o None) (last_in_elsewhere voxel z (λ e. other (sym e))) ∙ nothing (p k))
          ∙ later-none (last_in rest z) ∙ passing_last p h ks z rising.1
          ∙ sym (ap (λ b. cond ((b || has z ks) && p z) (Some (h z)) None) (ne_eqb _ _ other))
    ]

last_of_run : (best : List NearValue) (c : CubeValue) (ps : List PointValue) (z : ℕ) → last_in (run_of best c ps) z ≡ cond (has z (map (cell c) ps) && falls best c ps z) (Some (cell_colour c ps z)) None
unfolding voxels
last_of_run best c ps z =
    passing_last (falls best c ps) (cell_colour c ps) (ascending (map (cell c) ps)) z (rising-ascending (map (cell c) ps))
    ∙ ap (λ b. cond (b && falls best c ps z) (Some (cell_colour c ps z)) None) (has-ascending z (map (cell c) ps))

-- the colours after one batch more
one_run_more : (c : CubeValue) (qs ps : List PointValue) (best : List NearValue) (us : List VoxelValue) → best ≡ least_nears (map (near_of c) qs) → ((z : ℕ) → last_in us z ≡ colour_of (least (cell_keys c qs z)))
    → (z : ℕ) → last_in (us ++ run_of best c ps) z ≡ colour_of (least (cell_keys c (qs ++ ps) z))
one_run_more c qs ps best us is before z =
    last_in-append us (run_of best c ps) z
    ∙ ap (later (last_in (run_of best c ps) z)) (before z)
    ∙ ap (λ o. later o (colour_of (least (cell_keys c qs z)))) (last_of_run best c ps z)
    ∙ ap (λ b. later (cond (b && falls best c ps z) (Some (cell_colour c ps z)) None) (colour_of (least (cell_keys c qs z)))) (has_cell_key c ps z)
    ∙ ap (λ o. later (cond (is_some (least (cell_keys c ps z)) && is_lower (unwrap_or (least (cell_keys c ps z)) 0) o) (Some (cell_colour c ps z)) None) (colour_of (least (cell_keys c qs z))))
    (ap (λ ns. key_in ns z) is ∙ key_in-least_nears (map (near_of c) qs) z ∙ ap least (keys_of_points c qs z))
    ∙ lower_wins (least (cell_keys c qs z)) (least (cell_keys c ps z))
    ∙ ap colour_of (sym (keys_of_both c qs ps z))
  where
    decided : (m k : ℕ) (b : Bool) → nat_lt k m ≡ b → later (cond b (Some (k % 2 ^ 24)) None) (Some (m % 2 ^ 24)) ≡ Some (min m k % 2 ^ 24)
    decided m k true e = let below : k < m = ltb-true _ _ e in let is : k ≡ min m k = omega arith in ap (λ n. Some (n % 2 ^ 24)) is
    decided m k false e = let above : m ≤ k = ltb-false _ _ e in let is : m ≡ min m k = omega arith in ap (λ n. Some (n % 2 ^ 24)) is

    lower_wins : (o n : Option ℕ) → later (cond (is_some n && is_lower (unwrap_or n 0) o) (Some (unwrap_or n 0 % 2 ^ 24)) None) (colour_of o) ≡ colour_of (both o n)
    lower_wins o None = ap colour_of (sym (both-none o))
    lower_wins None (Some k) = refl
    lower_wins (Some m) (Some k) = decided m k (nat_lt k m) refl

-- ---- whole lists of batches
one_batch : (c : CubeValue) (qs ps : List PointValue) (best : List NearValue) → best ≡ least_nears (map (near_of c) qs) → nears_with best c ps ≡ least_nears (map (near_of c) (qs ++ ps))
one_batch c qs ps best is =
    ap (λ ns. least_nears (ns ++ map (near_of c) ps)) is ∙ merged_nears (map (near_of c) qs) (map (near_of c) ps) ∙ ap least_nears (sym (map-append (near_of c) qs ps))

all_keys : (c : CubeValue) (qs : List PointValue) (best : List NearValue) (batches : List (List PointValue)) → best ≡ least_nears (map (near_of c) qs)
    → nears_after best c batches ≡ least_nears (map (near_of c) (qs ++ joined batches))
all_keys c qs best [] is = is ∙ ap (λ ps. least_nears (map (near_of c) ps)) (sym (append-nil qs))
all_keys c qs best (ps ∷ batches) is =
    all_keys c (qs ++ ps) (nears_with best c ps) batches (one_batch c qs ps best is) ∙ ap (λ rs. least_nears (map (near_of c) rs)) (append_assoc qs ps (joined batches))

all_runs : (c : CubeValue) (qs : List PointValue) (best : List NearValue) (us : List VoxelValue) (batches : List (List PointValue)) → best ≡ least_nears (map (near_of c) qs)
    → ((z : ℕ) → last_in us z ≡ colour_of (least (cell_keys c qs z))) → (z : ℕ) → last_in (us ++ all_voxels (runs_of best c batches)) z ≡ colour_of (least (cell_keys c (qs ++ joined batches) z))
all_runs c qs best us [] is before z =
    ap (λ vs. last_in vs z) (append-nil us) ∙ before z ∙ ap (λ ps. colour_of (least (cell_keys c ps z))) (sym (append-nil qs))
all_runs c qs best us (ps ∷ batches) is before z =
    ap (λ vs. last_in vs z) (sym (append_assoc us (run_of best c ps) (all_voxels (runs_of (nears_with best c ps) c batches))))
    ∙ all_runs c (qs ++ ps) (nears_with best c ps) (us ++ run_of best c ps) batches (one_batch c qs ps best is) (one_run_more c qs ps best us is before) z
    ∙ ap (λ rs. colour_of (least (cell_keys c rs z))) (append_assoc qs ps (joined batches))

no_nears : (c : CubeValue) → [] ≡ least_nears (map (near_of c) [])
unfolding least_nears
no_nears c = refl

pub last_voxels : (c : CubeValue) (batches : List (List PointValue)) → last_entries (all_voxels (runs_of [] c batches)) ≡ voxels c (joined batches)
last_voxels c batches = voxels_by (all_voxels (runs_of [] c batches)) c (joined batches) (all_runs c [] [] [] batches (no_nears c) (λ z. refl))

pub last_nears : (c : CubeValue) (batches : List (List PointValue)) → nears_after [] c batches ≡ nears c (joined batches)
last_nears c batches = all_keys c [] [] batches (no_nears c) ∙ nears_of_points c (joined batches)

cells_of_nears : (c : CubeValue) (ps : List PointValue) → cells_of (nears c ps) ≡ ascending (map (cell c) ps)
cells_of_nears c ps = ap cells_of (sym (nears_of_points c ps)) ∙ cells_of-least_nears (map (near_of c) ps) ∙ ap ascending (cells_of_points c ps)

pub last_cells : (c : CubeValue) (batches : List (List PointValue)) → cells_of (nears_after [] c batches) ≡ ascending (map (cell c) (joined batches))
last_cells c batches = ap cells_of (last_nears c batches) ∙ cells_of_nears c (joined batches)

-- ---- the run of one batch, by its least keys
changed_voxels : (p : NearValue → Bool) (q : VoxelValue → Bool) (f : ℕ → ℕ) (ks : List ℕ) → ((z : ℕ) → p (near_at z (f z)) ≡ q (voxel_of (near_at z (f z))))
    → map voxel_of (filter p (map (λ z. near_at z (f z)) ks)) ≡ filter q (map (λ z. voxel_of (near_at z (f z))) ks)
changed_voxels p q f [] same = refl
changed_voxels p q f (k ∷ ks) same = elim (p (near_at k (f k))) as (λ b. b ≡ q (voxel_of (near_at k (f k)))
    → map voxel_of (cond b (near_at k (f k) ∷ filter p (map (λ z. near_at z (f z)) ks)) (filter p (map (λ z. near_at z (f z)) ks)))
    ≡ cond (q (voxel_of (near_at k (f k)))) (voxel_of (near_at k (f k)) ∷ filter q (map (λ z. voxel_of (near_at z (f z))) ks)) (filter q (map (λ z. voxel_of (near_at z (f z))) ks))) [
      | true ↦ λ e. ap (λ xs. voxel_of (near_at k (f k)) ∷ xs) (changed_voxels p q f ks same)
          ∙ ap (λ b. cond b (voxel_of (near_at k (f k)) ∷ filter q (map (λ z. voxel_of (near_at z (f z))) ks)) (filter q (map (λ z. voxel_of (near_at z (f z))) ks))) e
      | false ↦ λ e. changed_voxels p q f ks same
          ∙ ap (λ b. cond b (voxel_of (near_at k (f k)) ∷ filter q (map (λ z. voxel_of (near_at z (f z))) ks)) (filter q (map (λ z. voxel_of (near_at z (f z))) ks))) e
    ] (same k)

pub run_is : (best : List NearValue) (c : CubeValue) (ps : List PointValue) → map voxel_of (filter (is_change best) (least_nears (map (near_of c) ps))) ≡ run_of best c ps
unfolding nears voxels
run_is best c ps =
    ap (λ ns. map voxel_of (filter (is_change best) ns)) (nears_of_points c ps)
    ∙ changed_voxels (is_change best) (λ v. falls best c ps v.cell) (λ z. unwrap_or (least (cell_keys c ps z)) 0) (ascending (map (cell c) ps))
    (λ z. ap (λ k. is_lower k (key_in best z)) (key_back z (unwrap_or (least (cell_keys c ps z)) 0)))

-- ---- one batch more, whatever came before
all_pass : {X : Type 0} (xs : List X) → filter (λ _. true) xs ≡ xs
all_pass [] = refl
all_pass (x ∷ xs) = ap (λ ys. x ∷ ys) (all_pass xs)

mapped_last : (h : ℕ → ℕ) (ks : List ℕ) (z : ℕ) → Rising ks → last_in (map (λ y. record { cell = y; rgb = h y }) ks) z ≡ cond (has z ks) (Some (h z)) None
mapped_last h ks z rising =
    ap (λ vs. last_in vs z) (sym (all_pass (map (λ y. record { cell = y; rgb = h y }) ks))) ∙ passing_last (λ _. true) h ks z rising ∙ ap (λ b. cond b (Some (h z)) None) (and_true (has z ks))
  where
    and_true : (b : Bool) → (b && true) ≡ b
    and_true true = refl
    and_true false = refl

last_of_entries : (vs : List VoxelValue) (z : ℕ) → last_in (last_entries vs) z ≡ last_in vs z
last_of_entries vs z =
    mapped_last (last_colour vs) (ascending (voxel_cells vs)) z (rising-ascending (voxel_cells vs))
    ∙ ap (λ b. cond b (Some (last_colour vs z)) None) (has-ascending z (voxel_cells vs) ∙ has_last vs z)
    ∙ ap (λ n. cond (is_some (last_in vs z)) (Some n) None) (last_is (map (λ (v : VoxelValue). v.rgb) (filter (λ v. nat_eq v.cell z) vs)))
    ∙ some_again (last_in vs z)

last_of_voxels : (c : CubeValue) (ps : List PointValue) (z : ℕ) → last_in (voxels c ps) z ≡ colour_of (least (cell_keys c ps z))
unfolding voxels
last_of_voxels c ps z =
    mapped_last (cell_colour c ps) (ascending (map (cell c) ps)) z (rising-ascending (map (cell c) ps))
    ∙ ap (λ b. cond b (Some (cell_colour c ps z)) None) (has-ascending z (map (cell c) ps) ∙ has_cell_key c ps z)
    ∙ back (least (cell_keys c ps z))
  where
    back : (o : Option ℕ) → cond (is_some o) (Some (unwrap_or o 0 % 2 ^ 24)) None ≡ colour_of o
    back None = refl
    back (Some n) = refl

pub next_voxels : (c : CubeValue) (qs ps : List PointValue) (us : List VoxelValue) → last_entries us ≡ voxels c qs → last_entries (us ++ run_of (nears c qs) c ps) ≡ voxels c (qs ++ ps)
next_voxels c qs ps us before = voxels_by (us ++ run_of (nears c qs) c ps) c (qs ++ ps)
    (one_run_more c qs ps (nears c qs) us (sym (nears_of_points c qs)) (λ z. sym (last_of_entries us z) ∙ ap (λ vs. last_in vs z) before ∙ last_of_voxels c qs z))

pub next_nears : (c : CubeValue) (qs ps : List PointValue) → nears_with (nears c qs) c ps ≡ nears c (qs ++ ps)
next_nears c qs ps = one_batch c qs ps (nears c qs) (sym (nears_of_points c qs)) ∙ nears_of_points c (qs ++ ps)

-- ---- what is made ready of the least keys of points
pub ready_nears : (best list lowest lent : List NearValue) (c : CubeValue) (ps : List PointValue) (ns : List NearValue) → list ≡ best → lent ≡ lowest → lowest ≡ least_nears (map (near_of c) ps)
    → ns ≡ least_nears (list ++ lent) → ns ≡ nears_with best c ps
ready_nears best list lowest lent c ps ns same lends is made =
    made ∙ ap (λ (ms : List NearValue). least_nears (ms ++ lent)) same ∙ ap (λ (ms : List NearValue). least_nears (best ++ ms)) (lends ∙ is) ∙ merged_right best (map (near_of c) ps)

pub ready_run : (best list lowest lent : List NearValue) (c : CubeValue) (ps : List PointValue) (vs : List VoxelValue) → list ≡ best → lent ≡ lowest → lowest ≡ least_nears (map (near_of c) ps)
    → vs ≡ map voxel_of (filter (is_change list) lent) → vs ≡ run_of best c ps
ready_run best list lowest lent c ps vs same lends is made =
    made ∙ ap (λ ms. map voxel_of (filter (is_change ms) lent)) same ∙ ap (λ ms. map voxel_of (filter (is_change best) ms)) (lends ∙ is) ∙ run_is best c ps
