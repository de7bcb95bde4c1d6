-- Two lists of least keys, one step after the other.
use Rattle.std.proofs.Common.{◌≡◌, ℕ, zero, suc, ◌+◌, ◌^◌, ◌<◌, ◌≤◌, ◌≢◌, inl, inr, Bool, true, false, List, [], ◌∷◌, ◌++◌, map, take, drop, length, get_or, ap, refl, sym, arith, ◌∙◌, nat_lt, cond, Option, Some, None, min, subst, append_assoc, ◌-◌}
use Rattle.std.specs.List.{filter}
use Rattle.std.proofs.lemmas.Bool.{cases_eq, ltb-true, ltb-false}
use Rattle.std.proofs.lemmas.List.{map-append, append-nil, take_more, take-map, take_rest, get_or-drop, length-drop, get_or-map, length-map}
use Rattle.std.proofs.lemmas.List.Elements.{filter_more}
use Rattle.octree_model.specs.Voxels.{VoxelValue}
use Rattle.occupancy_grid.proofs.NumberSets.{AllUnder}
use Rattle.voxel_sampler.specs.Nears.{NearValue, near_key, cells_of, least_nears, voxel_of}
use Rattle.voxel_sampler.specs.Ready.{ReadyValue}
use Rattle.voxel_sampler.specs.Runs.{is_lower}
use Rattle.voxel_sampler.specs.Updates.{is_change}
use Rattle.voxel_sampler.proofs.Keys.{both, both_comm, both_assoc, key_in, key_in-append, key_in_here, key_in_elsewhere, no_key, same_nears, push_nears}
use Rattle.voxel_sampler.proofs.Rising.{AllOver, Rising, first_under, next_over, not_between, over_not_has, under_higher, under-append}

-- the first i old entries and the first k new ones are merged
pub record IsMerged (best lowest : List NearValue) (i k : ℕ) (nears : List NearValue) (run : List VoxelValue) : Type 0 where
  pub nears_so_far : nears ≡ least_nears (take i best ++ take k lowest)
  pub run_so_far : run ≡ map voxel_of (filter (is_change best) (take k lowest))
  pub old_first : i < length best → AllUnder (get_or (cells_of best) i 0) (cells_of (take k lowest))
  pub new_first : k < length lowest → AllUnder (get_or (cells_of lowest) k 0) (cells_of (take i best))

-- ---- one entry of a list
pub cell_at : (ns : List NearValue) (i : ℕ) (n : NearValue) → i < length ns → n ≡ get_or ns i n → get_or (cells_of ns) i 0 ≡ n.cell
cell_at ns i n l is = get_or-map (λ (m : NearValue). m.cell) ns i n 0 l ∙ sym (ap (λ (m : NearValue). m.cell) is)

next_taken : (ns : List NearValue) (i : ℕ) (n : NearValue) → i < length ns → n ≡ get_or ns i n → take (i + 1) ns ≡ take i ns ++ n ∷ []
next_taken ns i n l is = take_more ns i n l ∙ ap (λ m. take i ns ++ m ∷ []) (sym is)

earlier_under : (ns : List NearValue) (i : ℕ) (n : NearValue) → Rising (cells_of ns) → i < length ns → n ≡ get_or ns i n → AllUnder n.cell (cells_of (take i ns))
earlier_under ns i n rising l is =
    let long : i < length (cells_of ns) = omega (arith, length-map ns (λ (m : NearValue). m.cell)) in
    let first : AllUnder (get_or (cells_of ns) i 0) (take i (cells_of ns)) = first_under (cells_of ns) i rising long in
    let here : AllUnder n.cell (take i (cells_of ns)) = subst (λ m. AllUnder m (take i (cells_of ns))) (cell_at ns i n l is) first in
    subst (AllUnder n.cell) (take-map (λ (m : NearValue). m.cell) i ns) here

later_over : (ns : List NearValue) (i : ℕ) (n : NearValue) → Rising (cells_of ns) → i + 1 < length ns → n ≡ get_or ns i n → n.cell < get_or (cells_of ns) (i + 1) 0
later_over ns i n rising l is =
    let long : suc i < length (cells_of ns) = omega (arith, length-map ns (λ (m : NearValue). m.cell)) in
    let next : get_or (cells_of ns) i 0 < get_or (cells_of ns) (suc i) 0 = next_over (cells_of ns) i rising long in
    let here : get_or (cells_of ns) i 0 ≡ n.cell = cell_at ns i n (omega arith) is in
    let place : suc i ≡ i + 1 = omega arith in
    let same : get_or (cells_of ns) (suc i) 0 ≡ get_or (cells_of ns) (i + 1) 0 = ap (λ k. get_or (cells_of ns) k 0) place in
    omega arith

with_next : (m : ℕ) (ns : List NearValue) (i : ℕ) (n : NearValue) → i < length ns → n ≡ get_or ns i n → AllUnder m (cells_of (take i ns)) → n.cell < m → AllUnder m (cells_of (take (i + 1) ns))
with_next m ns i n l is under below =
    subst (λ (xs : List NearValue). AllUnder m (cells_of xs)) (sym (next_taken ns i n l is))
    (subst (AllUnder m) (sym (map-append (λ (x : NearValue). x.cell) (take i ns) (n ∷ []))) (under-append m (cells_of (take i ns)) (n.cell ∷ []) under (below, tt)))

key_at : (ns : List NearValue) (i : ℕ) (n : NearValue) → Rising (cells_of ns) → i < length ns → n ≡ get_or ns i n → key_in ns n.cell ≡ Some (near_key n)
key_at [] i n rising l is = absurd (omega arith)
key_at (m ∷ ms) zero n rising l is =
    key_in-append (m ∷ []) ms n.cell ∙ ap (λ o. both o (key_in ms n.cell)) (key_in_here m n.cell (sym (ap (λ (x : NearValue). x.cell) is)))
    ∙ ap (both (Some (near_key m))) (no_key ms n.cell (over_not_has m.cell n.cell (cells_of ms) rising.0 (omega (arith, ap (λ (x : NearValue). x.cell) is))))
    ∙ ap (λ (x : NearValue). Some (near_key x)) (sym is)
key_at (m ∷ ms) (suc i) n rising l is =
    let before : m.cell < n.cell = omega (arith, over_here m.cell i ms rising.0 (omega arith), cell_at ms i n (omega arith) is) in
    key_in-append (m ∷ []) ms n.cell ∙ ap (λ o. both o (key_in ms n.cell)) (key_in_elsewhere m n.cell (λ e. absurd (omega arith)))
    ∙ key_at ms i n rising.1 (omega arith) is
  where
    over_here : (m i : ℕ) (ns : List NearValue) → AllOver m (cells_of ns) → i < length ns → m < get_or (cells_of ns) i 0
    over_here m i [] h l = absurd (omega arith)
    over_here m zero (n ∷ ns) h l = h.0
    over_here m (suc i) (n ∷ ns) h l = over_here m i ns h.1 (omega arith)

-- ---- the steps
pub none_merged : (best lowest : List NearValue) → IsMerged best lowest 0 0 [] []
unfolding least_nears
none_merged best lowest = record { nears_so_far = refl; run_so_far = refl; old_first = λ l. tt; new_first = λ l. tt }

swapped : (a b c : List NearValue) (z : ℕ) → key_in ((a ++ b) ++ c) z ≡ key_in ((a ++ c) ++ b) z
swapped a b c z =
    key_in-append (a ++ b) c z ∙ ap (λ o. both o (key_in c z)) (key_in-append a b z)
    ∙ sym (both_assoc (key_in a z) (key_in b z) (key_in c z)) ∙ ap (both (key_in a z)) (both_comm (key_in b z) (key_in c z)) ∙ both_assoc (key_in a z) (key_in c z) (key_in b z)
    ∙ ap (λ o. both o (key_in b z)) (sym (key_in-append a c z)) ∙ sym (key_in-append (a ++ c) b z)

under_both : (m : ℕ) (ns ms : List NearValue) → AllUnder m (cells_of ns) → AllUnder m (cells_of ms) → AllUnder m (cells_of (ns ++ ms))
under_both m ns ms h g = subst (AllUnder m) (sym (map-append (λ (x : NearValue). x.cell) ns ms)) (under-append m (cells_of ns) (cells_of ms) h g)

-- an old entry that comes before the next new one
pub old_kept : (best lowest : List NearValue) (i k : ℕ) (o : NearValue) (nears : List NearValue) (run : List VoxelValue) → Rising (cells_of best) → i < length best → o ≡ get_or best i o → o.rgb < 2 ^ 24
    → (k < length lowest → o.cell < get_or (cells_of lowest) k 0) → IsMerged best lowest i k nears run → IsMerged best lowest (i + 1) k (nears ++ o ∷ []) run
old_kept best lowest i k o nears run rising l is small before merged =
    let news : AllUnder o.cell (cells_of (take k lowest)) = subst (λ m. AllUnder m (cells_of (take k lowest))) (cell_at best i o l is) (merged.old_first l) in
    let all : AllUnder o.cell (cells_of (take i best ++ take k lowest)) = under_both o.cell (take i best) (take k lowest) (earlier_under best i o rising l is) news in
    record {
      nears_so_far =
          ap (λ (xs : List NearValue). xs ++ o ∷ []) merged.nears_so_far ∙ sym (push_nears (take i best ++ take k lowest) o all small)
          ∙ same_nears ((take i best ++ take k lowest) ++ o ∷ []) ((take i best ++ o ∷ []) ++ take k lowest) (swapped (take i best) (take k lowest) (o ∷ []))
          ∙ ap (λ (xs : List NearValue). least_nears (xs ++ take k lowest)) (sym (next_taken best i o l is));
      run_so_far = merged.run_so_far;
      old_first = λ more. let next : o.cell < get_or (cells_of best) (i + 1) 0 = later_over best i o rising more is in under_higher o.cell (get_or (cells_of best) (i + 1) 0) (cells_of (take k lowest)) (omega arith) news;
      new_first = λ more. with_next (get_or (cells_of lowest) k 0) best i o l is (merged.new_first more) (before more);
    }

one_change : (best lowest : List NearValue) (k : ℕ) (n : NearValue) (run : List VoxelValue) → k < length lowest → n ≡ get_or lowest k n → run ≡ map voxel_of (filter (is_change best) (take k lowest))
    → run ++ cond (is_change best n) (voxel_of n ∷ []) [] ≡ map voxel_of (filter (is_change best) (take (k + 1) lowest))
one_change best lowest k n run l is before =
    ap (λ (vs : List VoxelValue). vs ++ cond (is_change best n) (voxel_of n ∷ []) []) before
    ∙ ap (λ (vs : List VoxelValue). map voxel_of (filter (is_change best) (take k lowest)) ++ vs) (sym (one (is_change best n)))
    ∙ sym (ap (map voxel_of) (filter_more (is_change best) lowest k n l ∙ ap (λ m. filter (is_change best) (take k lowest) ++ cond (is_change best m) (m ∷ []) []) (sym is))
    ∙ map-append voxel_of (filter (is_change best) (take k lowest)) (cond (is_change best n) (n ∷ []) []))
  where
    one : (b : Bool) → map voxel_of (cond b (n ∷ []) []) ≡ cond b (voxel_of n ∷ []) []
    one true = refl
    one false = refl

-- a new entry that comes before the next old one
pub new_added : (best lowest : List NearValue) (i k : ℕ) (n : NearValue) (nears : List NearValue) (run : List VoxelValue) → Rising (cells_of best) → Rising (cells_of lowest) → k < length lowest → n ≡ get_or lowest k n → n.rgb < 2 ^ 24
    → (i < length best → n.cell < get_or (cells_of best) i 0) → IsMerged best lowest i k nears run → IsMerged best lowest i (k + 1) (nears ++ n ∷ []) (run ++ voxel_of n ∷ [])
new_added best lowest i k n nears run rising rising' l is small before merged =
    let olds : AllUnder n.cell (cells_of (take i best)) = subst (λ m. AllUnder m (cells_of (take i best))) (cell_at lowest k n l is) (merged.new_first l) in
    let all : AllUnder n.cell (cells_of (take i best ++ take k lowest)) = under_both n.cell (take i best) (take k lowest) olds (earlier_under lowest k n rising' l is) in
    let absent : key_in best n.cell ≡ None = no_key best n.cell (not_between n.cell (cells_of best) i rising (subst (AllUnder n.cell) (sym (take-map (λ (m : NearValue). m.cell) i best)) olds)
    (λ more. before (omega (arith, length-map best (λ (m : NearValue). m.cell))))) in
    let changes : is_change best n ≡ true = ap (is_lower (near_key n)) absent in
    record {
      nears_so_far =
          ap (λ (xs : List NearValue). xs ++ n ∷ []) merged.nears_so_far ∙ sym (push_nears (take i best ++ take k lowest) n all small)
          ∙ ap least_nears (append_assoc (take i best) (take k lowest) (n ∷ []))
          ∙ ap (λ (xs : List NearValue). least_nears (take i best ++ xs)) (sym (next_taken lowest k n l is));
      run_so_far = ap (λ b. run ++ cond b (voxel_of n ∷ []) []) (sym changes) ∙ one_change best lowest k n run l is merged.run_so_far;
      old_first = λ more. with_next (get_or (cells_of best) i 0) lowest k n l is (merged.old_first more) (before more);
      new_first = λ more. let next : n.cell < get_or (cells_of lowest) (k + 1) 0 = later_over lowest k n rising' more is in under_higher n.cell (get_or (cells_of lowest) (k + 1) 0) (cells_of (take i best)) (omega arith) olds;
    }

-- the lesser of two entries of one cell
abbrev pub lesser_near : NearValue → NearValue → NearValue
lesser_near o n = cond (nat_lt (near_key n) (near_key o)) n o

pub key_in_lesser : (o n : NearValue) (z : ℕ) → o.cell ≡ n.cell → key_in (lesser_near o n ∷ []) z ≡ both (key_in (o ∷ []) z) (key_in (n ∷ []) z)
key_in_lesser o n z same = elim (cases_eq n.cell z) [
  | inl here ↦
      pick (nat_lt (near_key n) (near_key o)) refl here
      ∙ sym (ap (λ k. both k (key_in (n ∷ []) z)) (key_in_here o z (same ∙ here)) ∙ ap (both (Some (near_key o))) (key_in_here n z here))
  | inr there ↦
      nowhere (nat_lt (near_key n) (near_key o)) there
      ∙ sym (ap (λ k. both k (key_in (n ∷ []) z)) (key_in_elsewhere o z (λ e. there (sym same ∙ e))) ∙ key_in_elsewhere n z there)
]
  where
    pick : (b : Bool) → nat_lt (near_key n) (near_key o) ≡ b → n.cell ≡ z → key_in (cond b n o ∷ []) z ≡ Some (min (near_key o) (near_key n))
    pick true e here = let below : near_key n < near_key o = ltb-true _ _ e in let m : near_key n ≡ min (near_key o) (near_key n) = omega arith in key_in_here n z here ∙ ap (λ k. Some k) m
    pick false e here = let above : near_key o ≤ near_key n = ltb-false _ _ e in let m : near_key o ≡ min (near_key o) (near_key n) = omega arith in key_in_here o z (same ∙ here) ∙ ap (λ k. Some k) m

    nowhere : (b : Bool) → n.cell ≢ z → key_in (cond b n o ∷ []) z ≡ None
    nowhere true there = key_in_elsewhere n z there
    nowhere false there = key_in_elsewhere o z (λ e. there (sym same ∙ e))

pub lesser_cell : (o n : NearValue) → o.cell ≡ n.cell → o.cell ≡ (lesser_near o n).cell
lesser_cell o n same = elim (nat_lt (near_key n) (near_key o)) as (λ b. o.cell ≡ (cond b n o).cell) [ true ↦ same | false ↦ refl ]

lesser_small : (o n : NearValue) → o.rgb < 2 ^ 24 → n.rgb < 2 ^ 24 → (lesser_near o n).rgb < 2 ^ 24
lesser_small o n h g = elim (nat_lt (near_key n) (near_key o)) as (λ b. (cond b n o).rgb < 2 ^ 24) [ true ↦ g | false ↦ h ]

crossed : (a b c d : Option ℕ) → both (both a b) (both c d) ≡ both (both a c) (both b d)
crossed a b c d =
    sym (both_assoc a b (both c d)) ∙ ap (both a) (both_assoc b c d ∙ ap (λ o. both o d) (both_comm b c) ∙ sym (both_assoc c b d)) ∙ both_assoc a c (both b d)

-- an old and a new entry of one cell
pub one_replaced : (best lowest : List NearValue) (i k : ℕ) (o n : NearValue) (nears : List NearValue) (run : List VoxelValue) → Rising (cells_of best) → Rising (cells_of lowest)
    → i < length best → o ≡ get_or best i o → o.rgb < 2 ^ 24 → k < length lowest → n ≡ get_or lowest k n → n.rgb < 2 ^ 24 → o.cell ≡ n.cell
    → IsMerged best lowest i k nears run → IsMerged best lowest (i + 1) (k + 1) (nears ++ lesser_near o n ∷ []) (run ++ cond (nat_lt (near_key n) (near_key o)) (voxel_of n ∷ []) [])
one_replaced best lowest i k o n nears run rising rising' l is small l' is' small' same merged =
    let m : NearValue = lesser_near o n in
    let news : AllUnder o.cell (cells_of (take k lowest)) = subst (λ z. AllUnder z (cells_of (take k lowest))) (cell_at best i o l is) (merged.old_first l) in
    let olds : AllUnder o.cell (cells_of (take i best)) = earlier_under best i o rising l is in
    let all : AllUnder o.cell (cells_of (take i best ++ take k lowest)) = under_both o.cell (take i best) (take k lowest) olds news in
    let at : o.cell ≡ m.cell = lesser_cell o n same in
    let changes : is_change best n ≡ nat_lt (near_key n) (near_key o) = ap (λ z. is_lower (near_key n) (key_in best z)) (sym same) ∙ ap (is_lower (near_key n)) (key_at best i o rising l is) in
    record {
      nears_so_far =
          ap (λ (xs : List NearValue). xs ++ m ∷ []) merged.nears_so_far
          ∙ sym (push_nears (take i best ++ take k lowest) m (subst (λ z. AllUnder z (cells_of (take i best ++ take k lowest))) at all) (lesser_small o n small small'))
          ∙ same_nears ((take i best ++ take k lowest) ++ m ∷ []) ((take i best ++ o ∷ []) ++ (take k lowest ++ n ∷ [])) (λ z.
          key_in-append (take i best ++ take k lowest) (m ∷ []) z
          ∙ ap (λ x. both x (key_in (m ∷ []) z)) (key_in-append (take i best) (take k lowest) z)
          ∙ ap (both (both (key_in (take i best) z) (key_in (take k lowest) z))) (key_in_lesser o n z same)
          ∙ crossed (key_in (take i best) z) (key_in (take k lowest) z) (key_in (o ∷ []) z) (key_in (n ∷ []) z)
          ∙ ap (λ x. both x (both (key_in (take k lowest) z) (key_in (n ∷ []) z))) (sym (key_in-append (take i best) (o ∷ []) z))
          ∙ ap (both (key_in (take i best ++ o ∷ []) z)) (sym (key_in-append (take k lowest) (n ∷ []) z))
          ∙ sym (key_in-append (take i best ++ o ∷ []) (take k lowest ++ n ∷ []) z))
          ∙ ap (λ (xs : List NearValue). least_nears (xs ++ (take k lowest ++ n ∷ []))) (sym (next_taken best i o l is))
          ∙ ap (λ (xs : List NearValue). least_nears (take (i + 1) best ++ xs)) (sym (next_taken lowest k n l' is'));
      run_so_far = ap (λ b. run ++ cond b (voxel_of n ∷ []) []) (sym changes) ∙ one_change best lowest k n run l' is' merged.run_so_far;
      old_first = λ more.
          let next : o.cell < get_or (cells_of best) (i + 1) 0 = later_over best i o rising more is in
          with_next (get_or (cells_of best) (i + 1) 0) lowest k n l' is' (under_higher o.cell (get_or (cells_of best) (i + 1) 0) (cells_of (take k lowest)) (omega arith) news) (omega arith);
      new_first = λ more.
          let next : n.cell < get_or (cells_of lowest) (k + 1) 0 = later_over lowest k n rising' more is' in
          with_next (get_or (cells_of lowest) (k + 1) 0) best i o l is (under_higher o.cell (get_or (cells_of lowest) (k + 1) 0) (cells_of (take i best)) (omega arith) olds) (omega arith);
    }

-- ---- the same at places that are equal
pub at_old : (best lowest : List NearValue) (i j k : ℕ) (nears : List NearValue) (run : List VoxelValue) → i ≡ j → IsMerged best lowest i k nears run → IsMerged best lowest j k nears run
at_old best lowest i j k nears run e merged = subst (λ (x : ℕ). IsMerged best lowest x k nears run) e merged

pub at_new : (best lowest : List NearValue) (i j k : ℕ) (nears : List NearValue) (run : List VoxelValue) → j ≡ k → IsMerged best lowest i j nears run → IsMerged best lowest i k nears run
at_new best lowest i j k nears run e merged = subst (λ (x : ℕ). IsMerged best lowest i x nears run) e merged

-- an entry of what is left of a list
pub rest_at : (ns : List NearValue) (i k : ℕ) (n : NearValue) → n ≡ get_or (take (length ns - i) (drop i ns)) k n → n ≡ get_or ns (i + k) n
rest_at ns i k n is = is ∙ ap (λ (ms : List NearValue). get_or ms k n) (take_rest ns i) ∙ get_or-drop i ns k n

-- what a step does to what is ready
pub replaced_is : (r : ReadyValue) (o n : NearValue) (b : Bool) → cond b (record { nears = r.nears ++ n ∷ []; run = r.run ++ voxel_of n ∷ [] }) (record r { nears = r.nears ++ o ∷ [] })
    ≡ record { nears = r.nears ++ cond b n o ∷ []; run = r.run ++ cond b (voxel_of n ∷ []) [] }
replaced_is r o n true = refl
replaced_is r o n false = λ i. record { nears = r.nears ++ o ∷ []; run = sym (append-nil r.run) i }

pub rest_within : (ns : List NearValue) (i k : ℕ) → k < length (take (length ns - i) (drop i ns)) → i + k < length ns
rest_within ns i k l = omega (arith, ap length (take_rest ns i), length-drop i ns)

-- all entries of what is left behind the first are read
pub all_read : (ns : List NearValue) (k : ℕ) → length (take (length ns - 1) (drop 1 ns)) ≤ k → length ns ≤ 1 + k
all_read ns k l = omega (arith, ap length (take_rest ns 1), length-drop 1 ns)
