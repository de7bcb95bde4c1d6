-- Tables of places, one entry after the other.
use Rattle.std.proofs.Common.{◌≡◌, ℕ, zero, suc, ◌+◌, ◌^◌, ◌<◌, ◌≤◌, ◌≢◌, inl, inr, Bool, true, false, ◌||◌, List, [], ◌∷◌, ◌++◌, map, take, length, get_or, set, subst, ap, refl, sym, arith, ◌∙◌, nat_eq, Some, append_assoc}
use Rattle.std.specs.List.{All}
use Rattle.std.specs.Prelude.{unwrap_or}
use Rattle.std.proofs.lemmas.Bool.{cases_eq, eq-eqb, ne_eqb}
use Rattle.std.proofs.lemmas.List.{map-append, length-set, length-map, length_push, get_or_push, get_or_append_left, get_or-set_same, get_or-set_other, get_or-map, take_all, take_more, take-map, append-nil}
use Rattle.std.proofs.lemmas.List.Elements.{All-append, All-cons, All-nil}
use Rattle.std.proofs.Math.Seq.{map-set_same}
use Rattle.cube_math.specs.Points.{PointValue}
use Rattle.cube_math.specs.Cubes.{CubeValue}
use Rattle.octree_model.specs.Numbers.{has, with_number, ascending, least}
use Rattle.octree_model.specs.Voxels.{VoxelValue}
use Rattle.octree_model.proofs.AscendingLaws.{ascending_push, has-with_number, has-ascending, length-with_new}
use Rattle.octree_model.proofs.HasLaws.{has_at, map_same_in}
use Rattle.occupancy_grid.proofs.NumberSets.{AllUnder, ascending-ascending}
use Rattle.voxel_sampler.specs.Nears.{NearValue, near_key, near_at, near_of, voxel_of, cells_of, least_nears, nears}
use Rattle.voxel_sampler.specs.Order.{IsAscending}
use Rattle.voxel_sampler.proofs.Keys.{both, both-none, both_comm, both_assoc, key_in, key_in-append, key_in_here, key_in_elsewhere, no_key, same_nears, near_back, nears_of_points, merged_nears, cells_of-least_nears, push_nears}
use Rattle.voxel_sampler.proofs.Merging.{lesser_near, lesser_cell, key_in_lesser}
use Rattle.voxel_sampler.proofs.Rising.{Rising, rising_from, first_under}
use Rattle.least_runs.specs.Tables.{no_near, entry_at, HasEntry, IsTable}

no : {X : Type 0} → false ≡ true → X
no e = cc

right_true : (a b : Bool) → a ≡ false → (a || b) ≡ true → b ≡ true
right_true true b no_first e = no (sym no_first)
right_true false b no_first e = e

pub any_default : (xs : List NearValue) (k : ℕ) (d e : NearValue) → k < length xs → get_or xs k d ≡ get_or xs k e
any_default [] k d e l = absurd (omega arith)
any_default (x ∷ xs) zero d e l = refl
any_default (x ∷ xs) (suc k) d e l = any_default xs k d e (omega arith)

-- ---- tables without entries
pub no_entries : (cells places : List ℕ) (nears : List NearValue) → cells ≡ [] → nears ≡ [] → length places ≡ 2097152 → IsTable cells places nears
no_entries cells places nears none gone long = record {
  places_long = long;
  found = none ∙ ap ascending (sym (ap cells_of gone));
  few = ap length gone ∙ sym (ap length none);
  each = λ z h. no (sym (ap (has z) none) ∙ h);
}

pub no_nears : least_nears [] ≡ []
unfolding least_nears
no_nears = refl

pub none_left : (nears : List NearValue) → length nears ≡ 0 → nears ≡ []
none_left [] e = refl
none_left (n ∷ nears) e = absurd (omega arith)

-- ---- one entry more, of a cell without one
pub new_entry : (cells places places' : List ℕ) (nears nears' : List NearValue) (n : NearValue) (place : ℕ) → n.cell < 2 ^ 21 → has n.cell cells ≡ false → place ≡ length nears → places' ≡ set places n.cell place
    → nears' ≡ nears ++ n ∷ [] → IsTable cells places nears → IsTable (with_number n.cell cells) places' nears'
new_entry cells places places' nears nears' n place small new end set_there pushed t = record {
  places_long = ap length set_there ∙ length-set places n.cell place ∙ t.places_long;
  found = ap (with_number n.cell) t.found ∙ sym (ascending_push (cells_of nears) n.cell) ∙ ap ascending (sym (ap cells_of pushed ∙ map-append (λ (m : NearValue). m.cell) nears (n ∷ [])));
  few = omega (arith, ap length pushed, length_push nears n, length-with_new n.cell cells new, t.few);
  each = λ z h. elim (cases_eq z n.cell) [
    | inl same ↦
        let here : get_or places' z 0 ≡ place = ap (λ (ps : List ℕ). get_or ps z 0) set_there ∙ ap (λ y. get_or (set places n.cell place) y 0) same ∙ get_or-set_same places n.cell place 0 (omega (arith, t.places_long)) in
        let entry : entry_at places' nears' z ≡ n = ap (λ i. get_or nears' i no_near) here ∙ ap (λ (ns : List NearValue). get_or ns place no_near) pushed ∙ get_or_push nears n no_near place (sym end) in
        record {
          small = omega (arith, same);
          within = omega (arith, here, end, ap length pushed, length_push nears n);
          own = ap (λ (m : NearValue). m.cell) entry ∙ sym same;
          only =
              ap (λ (ns : List NearValue). key_in ns z) pushed ∙ key_in-append nears (n ∷ []) z
              ∙ ap (λ o. both o (key_in (n ∷ []) z)) (no_key nears z (ap (λ y. has y (cells_of nears)) same ∙ sym (has-ascending n.cell (cells_of nears)) ∙ ap (has n.cell) (sym t.found) ∙ new))
              ∙ key_in_here n z (sym same) ∙ ap (λ (m : NearValue). Some (near_key m)) (sym entry);
        }
    | inr other ↦
        let old : HasEntry places nears z = t.each z (right_true (nat_eq z n.cell) (has z cells) (ne_eqb _ _ other) (sym (has-with_number z n.cell cells) ∙ h)) in
        let there : get_or places' z 0 ≡ get_or places z 0 = ap (λ (ps : List ℕ). get_or ps z 0) set_there ∙ get_or-set_other places n.cell z place 0 other in
        let entry : entry_at places' nears' z ≡ entry_at places nears z =
        ap (λ i. get_or nears' i no_near) there ∙ ap (λ (ns : List NearValue). get_or ns (get_or places z 0) no_near) pushed ∙ get_or_append_left nears (n ∷ []) no_near (get_or places z 0) old.within in
        record {
          small = old.small;
          within = omega (arith, there, old.within, ap length pushed, length_push nears n);
          own = ap (λ (m : NearValue). m.cell) entry ∙ old.own;
          only =
              ap (λ (ns : List NearValue). key_in ns z) pushed ∙ key_in-append nears (n ∷ []) z ∙ ap (both (key_in nears z)) (key_in_elsewhere n z (λ e. other (sym e)))
              ∙ both-none (key_in nears z) ∙ old.only ∙ ap (λ (m : NearValue). Some (near_key m)) (sym entry);
        }
  ];
}

-- ---- the lesser of two entries in place of one
replaced_key : (nears : List NearValue) (i : ℕ) (n : NearValue) → i < length nears → (get_or nears i no_near).cell ≡ n.cell → (z : ℕ) → key_in (set nears i (lesser_near (get_or nears i no_near) n)) z ≡ both (key_in nears z) (key_in (n ∷ []) z)
replaced_key [] i n l same z = absurd (omega arith)
replaced_key (o ∷ ns) zero n l same z =
    key_in-append (lesser_near o n ∷ []) ns z ∙ ap (λ k. both k (key_in ns z)) (key_in_lesser o n z same)
    ∙ sym (both_assoc (key_in (o ∷ []) z) (key_in (n ∷ []) z) (key_in ns z)) ∙ ap (both (key_in (o ∷ []) z)) (both_comm (key_in (n ∷ []) z) (key_in ns z))
    ∙ both_assoc (key_in (o ∷ []) z) (key_in ns z) (key_in (n ∷ []) z) ∙ ap (λ k. both k (key_in (n ∷ []) z)) (sym (key_in-append (o ∷ []) ns z))
replaced_key (o ∷ ns) (suc i) n l same z =
    key_in-append (o ∷ []) (set ns i (lesser_near (get_or ns i no_near) n)) z ∙ ap (both (key_in (o ∷ []) z)) (replaced_key ns i n (omega arith) same z)
    ∙ both_assoc (key_in (o ∷ []) z) (key_in ns z) (key_in (n ∷ []) z) ∙ ap (λ k. both k (key_in (n ∷ []) z)) (sym (key_in-append (o ∷ []) ns z))

-- one entry more, of a cell that has one: the lesser one stays
pub known_entry : (cells places : List ℕ) (nears nears' : List NearValue) (n m : NearValue) (i : ℕ) → has n.cell cells ≡ true → i ≡ get_or places n.cell 0 → m ≡ lesser_near (get_or nears i no_near) n → nears' ≡ set nears i m
    → IsTable cells places nears → IsTable cells places nears'
known_entry cells places nears nears' n m i old place lesser changed t =
    let o : NearValue = get_or nears i no_near in
    let known : HasEntry places nears n.cell = t.each n.cell old in
    let within : i < length nears = omega (arith, place, known.within) in
    let own : o.cell ≡ n.cell = ap (λ j. (get_or nears j no_near).cell) place ∙ known.own in
    let cell : m.cell ≡ o.cell = ap (λ (x : NearValue). x.cell) lesser ∙ sym (lesser_cell o n own) in
    let keys : (z : ℕ) → key_in nears' z ≡ both (key_in nears z) (key_in (n ∷ []) z) =
    λ z. ap (λ (ns : List NearValue). key_in ns z) (changed ∙ ap (set nears i) lesser) ∙ replaced_key nears i n within own z in
    record {
      places_long = t.places_long;
      found = t.found ∙ ap ascending (sym (ap cells_of changed ∙ map-set_same (λ (x : NearValue). x.cell) nears i m no_near cell));
      few = omega (arith, ap length changed, length-set nears i m, t.few);
      each = λ z h. elim (cases_eq z n.cell) [
        | inl same ↦
            let here : get_or places z 0 ≡ i = ap (λ y. get_or places y 0) same ∙ sym place in
            let entry : entry_at places nears' z ≡ m = ap (λ j. get_or nears' j no_near) here ∙ ap (λ (ns : List NearValue). get_or ns i no_near) changed ∙ get_or-set_same nears i m no_near within in
            record {
              small = omega (arith, same, known.small);
              within = omega (arith, here, within, ap length changed, length-set nears i m);
              own = ap (λ (x : NearValue). x.cell) entry ∙ cell ∙ own ∙ sym same;
              only =
                  keys z ∙ ap (λ k. both k (key_in (n ∷ []) z)) (ap (key_in nears) same ∙ known.only ∙ ap (λ j. Some (near_key (get_or nears j no_near))) (sym place) ∙ sym (key_in_here o z (own ∙ sym same)))
                  ∙ sym (key_in_lesser o n z own) ∙ ap (λ (x : NearValue). key_in (x ∷ []) z) (sym lesser) ∙ key_in_here m z (cell ∙ own ∙ sym same) ∙ ap (λ (x : NearValue). Some (near_key x)) (sym entry);
            }
        | inr other ↦
            let kept : HasEntry places nears z = t.each z h in
            let apart : get_or places z 0 ≢ i = λ e. other (sym kept.own ∙ ap (λ j. (get_or nears j no_near).cell) e ∙ own) in
            let entry : entry_at places nears' z ≡ entry_at places nears z = ap (λ (ns : List NearValue). get_or ns (get_or places z 0) no_near) changed ∙ get_or-set_other nears i (get_or places z 0) m no_near apart in
            record {
              small = kept.small;
              within = omega (arith, kept.within, ap length changed, length-set nears i m);
              own = ap (λ (x : NearValue). x.cell) entry ∙ kept.own;
              only =
                  keys z ∙ ap (both (key_in nears z)) (key_in_elsewhere n z (λ e. other (sym e))) ∙ both-none (key_in nears z) ∙ kept.only
                  ∙ ap (λ (x : NearValue). Some (near_key x)) (sym entry);
            }
      ];
    }

-- what the table shows then
pub shown_new : (nears nears' old : List NearValue) (n : NearValue) → nears' ≡ nears ++ n ∷ [] → least_nears nears ≡ old → least_nears nears' ≡ least_nears (old ++ n ∷ [])
shown_new nears nears' old n pushed is = ap least_nears pushed ∙ sym (merged_nears nears (n ∷ [])) ∙ ap (λ (ns : List NearValue). least_nears (ns ++ n ∷ [])) is

pub shown_known : (cells places : List ℕ) (nears nears' old : List NearValue) (n m : NearValue) (i : ℕ) → has n.cell cells ≡ true → i ≡ get_or places n.cell 0 → m ≡ lesser_near (get_or nears i no_near) n → nears' ≡ set nears i m
    → IsTable cells places nears → least_nears nears ≡ old → least_nears nears' ≡ least_nears (old ++ n ∷ [])
shown_known cells places nears nears' old n m i there place lesser changed t is =
    let known : HasEntry places nears n.cell = t.each n.cell there in
    let own : (get_or nears i no_near).cell ≡ n.cell = ap (λ j. (get_or nears j no_near).cell) place ∙ known.own in
    same_nears nears' (nears ++ n ∷ []) (λ z.
    ap (λ (ns : List NearValue). key_in ns z) (changed ∙ ap (set nears i) lesser) ∙ replaced_key nears i n (omega (arith, place, known.within)) own z ∙ sym (key_in-append nears (n ∷ []) z))
    ∙ sym (merged_nears nears (n ∷ [])) ∙ ap (λ (ns : List NearValue). least_nears (ns ++ n ∷ [])) is

-- ---- the entries by cells
pub entries_back : (cells places : List ℕ) (nears : List NearValue) → IsTable cells places nears → map (λ z. near_at z (near_key (entry_at places nears z))) cells ≡ least_nears nears
unfolding least_nears
entries_back cells places nears t =
    map_same_in (λ z. near_at z (near_key (entry_at places nears z))) (λ z. near_at z (unwrap_or (key_in nears z) 0)) cells (λ z h. ap (λ o. near_at z (unwrap_or o 0)) (sym (t.each z h).only))
    ∙ ap (map (λ z. near_at z (unwrap_or (key_in nears z) 0))) t.found

pub all_there : (cells cells' places places' : List ℕ) (nears nears' : List NearValue) → cells' ≡ cells → places' ≡ places → nears' ≡ nears → IsTable cells places nears → All (λ z. HasEntry places' nears' z) cells'
all_there cells cells' places places' nears nears' is at them t = λ k d l.
    let z : ℕ = get_or cells' k d in
    let entry : HasEntry places nears z = t.each z (ap (has z) (sym is) ∙ has_at cells' k d l) in
    subst (λ (ps : List ℕ). HasEntry ps nears' z) (sym at) (subst (λ (ns : List NearValue). HasEntry places ns z) (sym them) entry)

pub one_entry : (places cells : List ℕ) (nears found found' : List NearValue) (i z j : ℕ) (n : NearValue) → i < length cells → z ≡ get_or cells i z → j ≡ get_or places z 0 → n ≡ get_or nears j n → n.rgb < 2 ^ 24 → HasEntry places nears z
    → found ≡ map (λ y. near_at y (near_key (entry_at places nears y))) (take i cells) → found' ≡ found ++ n ∷ [] → found' ≡ map (λ y. near_at y (near_key (entry_at places nears y))) (take (i + 1) cells)
one_entry places cells nears found found' i z j n l is place at small entry before pushed =
    let F : ℕ → NearValue = λ y. near_at y (near_key (entry_at places nears y)) in
    let same : n ≡ entry_at places nears z = at ∙ ap (λ k. get_or nears k n) place ∙ any_default nears (get_or places z 0) n no_near entry.within in
    let here : F z ≡ n = ap (λ y. near_at y (near_key (entry_at places nears z))) (sym entry.own ∙ ap (λ (x : NearValue). x.cell) (sym same)) ∙ ap (λ (x : NearValue). near_at n.cell (near_key x)) (sym same) ∙ near_back n small in
    pushed ∙ ap (λ (ns : List NearValue). ns ++ n ∷ []) before ∙ ap (λ x. map F (take i cells) ++ x ∷ []) (sym here)
    ∙ sym (map-append F (take i cells) (z ∷ [])) ∙ ap (λ y. map F (take i cells ++ y ∷ [])) is ∙ ap (map F) (sym (take_more cells i z l))

-- ---- lists of least keys
pub cells_ascend : (list ns : List NearValue) → list ≡ least_nears ns → IsAscending (cells_of list)
cells_ascend list ns is =
    let cells : cells_of list ≡ ascending (cells_of ns) = ap cells_of is ∙ cells_of-least_nears ns in
    ap ascending cells ∙ ascending-ascending (cells_of ns) ∙ sym cells

alone_to : (ns : List NearValue) → Rising (cells_of ns) → All (λ n. n.rgb < 2 ^ 24) ns → (i : ℕ) → i ≤ length ns → least_nears (take i ns) ≡ take i ns
alone_to ns rising small zero l = no_nears
alone_to ns rising small (suc i) l =
    let n : NearValue = get_or ns i no_near in
    let next : take (i + 1) ns ≡ take i ns ++ n ∷ [] = take_more ns i no_near (omega arith) in
    let place : suc i ≡ i + 1 = omega arith in
    let cell : get_or (cells_of ns) i 0 ≡ n.cell = get_or-map (λ (m : NearValue). m.cell) ns i no_near 0 (omega arith) in
    let first : AllUnder (get_or (cells_of ns) i 0) (take i (cells_of ns)) = first_under (cells_of ns) i rising (omega (arith, length-map ns (λ (m : NearValue). m.cell))) in
    let under : AllUnder n.cell (cells_of (take i ns)) = subst (AllUnder n.cell) (take-map (λ (m : NearValue). m.cell) i ns) (subst (λ m. AllUnder m (take i (cells_of ns))) cell first) in
    ap (λ k. least_nears (take k ns)) place ∙ ap least_nears next ∙ push_nears (take i ns) n under (small i no_near (omega arith))
    ∙ ap (λ (xs : List NearValue). xs ++ n ∷ []) (alone_to ns rising small i (omega arith)) ∙ sym next ∙ ap (λ k. take k ns) (sym place)

-- a lone run is as it is
pub alone : (ns : List NearValue) → IsAscending (cells_of ns) → All (λ n. n.rgb < 2 ^ 24) ns → least_nears ns ≡ ns
alone ns ascends small =
    sym (ap least_nears (take_all (length ns) ns (omega arith))) ∙ alone_to ns (rising_from (cells_of ns) ascends) small (length ns) (omega arith) ∙ take_all (length ns) ns (omega arith)

-- ---- keys that are put in, one after the other
pub none_put : (nears old : List NearValue) → least_nears nears ≡ old → old ≡ least_nears (old ++ [])
none_put nears old is = sym (ap (λ (ns : List NearValue). least_nears (ns ++ [])) (sym is) ∙ merged_nears nears [] ∙ ap least_nears (append-nil nears) ∙ is)

pub one_put : (old list before after : List NearValue) (i : ℕ) (n : NearValue) → i < length list → n ≡ get_or list i n → before ≡ least_nears (old ++ take i list) → after ≡ least_nears (before ++ n ∷ []) → after ≡ least_nears (old ++ take (i + 1) list)
one_put old list before after i n l is so_far put =
    put ∙ ap (λ (ns : List NearValue). least_nears (ns ++ n ∷ [])) so_far ∙ merged_nears (old ++ take i list) (n ∷ [])
    ∙ ap least_nears (append_assoc old (take i list) (n ∷ [])) ∙ ap (λ m. least_nears (old ++ (take i list ++ m ∷ []))) is
    ∙ ap (λ (ns : List NearValue). least_nears (old ++ ns)) (sym (take_more list i n l))

pub one_point : (c : CubeValue) (ps : List PointValue) (before after : List NearValue) (i : ℕ) (p : PointValue) (n : NearValue) → i < length ps → p ≡ get_or ps i p → n ≡ near_of c p
    → before ≡ least_nears (map (near_of c) (take i ps)) → after ≡ least_nears (before ++ n ∷ []) → after ≡ least_nears (map (near_of c) (take (i + 1) ps))
one_point c ps before after i p n l is of so_far put =
    put ∙ (λ k. least_nears (so_far k ++ of k ∷ [])) ∙ merged_nears (map (near_of c) (take i ps)) (near_of c p ∷ [])
    ∙ ap least_nears (sym (map-append (near_of c) (take i ps) (p ∷ []))) ∙ ap (λ q. least_nears (map (near_of c) (take i ps ++ q ∷ []))) is
    ∙ ap (λ (qs : List PointValue). least_nears (map (near_of c) qs)) (sym (take_more ps i p l))

-- all of them
pub all_points : (c : CubeValue) (ps : List PointValue) (keys : List NearValue) (i : ℕ) → length ps ≤ i → keys ≡ least_nears (map (near_of c) (take i ps)) → keys ≡ nears c ps
all_points c ps keys i l is = is ∙ ap (λ (qs : List PointValue). least_nears (map (near_of c) qs)) (take_all i ps l) ∙ nears_of_points c ps

-- ---- voxels, one after the other
pub one_voxel : (list : List NearValue) (found found' : List VoxelValue) (i : ℕ) (n : NearValue) (v : VoxelValue) → i < length list → n ≡ get_or list i n → v ≡ voxel_of n → found ≡ map voxel_of (take i list) → found' ≡ found ++ v ∷ []
    → found' ≡ map voxel_of (take (i + 1) list)
one_voxel list found found' i n v l is of so_far pushed =
    pushed ∙ (λ k. so_far k ++ of k ∷ []) ∙ sym (map-append voxel_of (take i list) (n ∷ [])) ∙ ap (λ m. map voxel_of (take i list ++ m ∷ [])) is ∙ ap (map voxel_of) (sym (take_more list i n l))

pub one_small : (list : List NearValue) (i : ℕ) (n : NearValue) → i < length list → n ≡ get_or list i n → n.rgb < 2 ^ 24 → All (λ m. m.rgb < 2 ^ 24) (take i list) → All (λ m. m.rgb < 2 ^ 24) (take (i + 1) list)
one_small list i n l is small before =
    let P : NearValue → Type 0 = λ m. m.rgb < 2 ^ 24 in
    let next : take (i + 1) list ≡ take i list ++ n ∷ [] = take_more list i n l ∙ ap (λ m. take i list ++ m ∷ []) (sym is) in
    subst (λ (ns : List NearValue). All P ns) (sym next) (All-append P (take i list) (n ∷ []) before (All-cons P n [] small (All-nil P)))
