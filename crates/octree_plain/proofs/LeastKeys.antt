-- The least key of each cell, one point after the other.
use Rattle.std.proofs.Common.{◌≡◌, ℕ, ◌+◌, ◌^◌, ◌<◌, ◌≤◌, ◌≢◌, inl, inr, Bool, true, false, ◌||◌, List, [], ◌∷◌, ◌++◌, map, take, length, get_or, set, subst, ap, refl, sym, arith, ◌∙◌, nat_eq, cond, Some, min, not, ◌%◌}
use Rattle.std.specs.List.{filter}
use Rattle.std.specs.Prelude.{unwrap_or}
use Rattle.std.proofs.lemmas.Bool.{cases_eq, eq-eqb, ne_eqb}
use Rattle.std.proofs.lemmas.List.{map-append, append-nil, length-set, length_push, get_or_push, get_or_append_left, get_or-set_same, get_or-set_other}
use Rattle.std.proofs.lemmas.List.Elements.{filter-append}
use Rattle.cube_math.specs.Points.{PointValue}
use Rattle.cube_math.specs.Cubes.{CubeValue, cell, key}
use Rattle.octree_model.specs.Numbers.{has, with_number, ascending, least, lesser}
use Rattle.octree_model.specs.Voxels.{cell_keys, cell_colour, voxels}
use Rattle.octree_model.proofs.AscendingLaws.{least_push, ascending_push, has-ascending, length-with_new, length-with_number}
use Rattle.octree_model.proofs.HasLaws.{has_push, has_at, map_same_in}
use Rattle.octree_plain.specs.Sampling.{HasLeastKey, HasLeastKeys, key_at}

-- the keys of a cell with one point more
keys_push : (c : CubeValue) (qs : List PointValue) (p : PointValue) (z : ℕ) → cell_keys c (qs ++ p ∷ []) z ≡ cell_keys c qs z ++ cond (nat_eq (cell c p) z) (key c p ∷ []) []
keys_push c qs p z =
    ap (map (key c)) (filter-append (λ q. nat_eq (cell c q) z) qs (p ∷ []))
    ∙ map-append (key c) (filter (λ q. nat_eq (cell c q) z) qs) (cond (nat_eq (cell c p) z) (p ∷ []) [])
    ∙ ap (λ ks. cell_keys c qs z ++ ks) (one (nat_eq (cell c p) z))
  where
    one : (b : Bool) → map (key c) (cond b (p ∷ []) []) ≡ cond b (key c p ∷ []) []
    one true = refl
    one false = refl

-- the least key of a cell in which the point falls, and of another
least_here : (c : CubeValue) (qs : List PointValue) (p : PointValue) (z : ℕ) → cell c p ≡ z → least (cell_keys c (qs ++ p ∷ []) z) ≡ Some (lesser (key c p) (least (cell_keys c qs z)))
least_here c qs p z e = ap least (keys_push c qs p z ∙ ap (λ b. cell_keys c qs z ++ cond b (key c p ∷ []) []) (eq-eqb _ _ e)) ∙ least_push (cell_keys c qs z) (key c p)

least_elsewhere : (c : CubeValue) (qs : List PointValue) (p : PointValue) (z : ℕ) → cell c p ≢ z → least (cell_keys c (qs ++ p ∷ []) z) ≡ least (cell_keys c qs z)
least_elsewhere c qs p z other = ap least (keys_push c qs p z ∙ ap (λ b. cell_keys c qs z ++ cond b (key c p ∷ []) []) (ne_eqb _ _ other) ∙ append-nil (cell_keys c qs z))

-- a cell in which no point falls has no key
no_keys : (c : CubeValue) (qs : List PointValue) (z : ℕ) → has z (map (cell c) qs) ≡ false → cell_keys c qs z ≡ []
no_keys c [] z h = refl
no_keys c (q ∷ qs) z h =
    let other : nat_eq (cell c q) z ≡ false = ne_eqb _ _ (λ e. let yes : true ≡ false = sym (ap (λ b. b || has z (map (cell c) qs)) (eq-eqb z (cell c q) (sym e))) ∙ h in absurd_bool yes) in
    ap (λ b. map (key c) (cond b (q ∷ filter (λ p. nat_eq (cell c p) z) qs) (filter (λ p. nat_eq (cell c p) z) qs))) other
    ∙ no_keys c qs z (right_false (nat_eq z (cell c q)) (has z (map (cell c) qs)) h)
  where
    absurd_bool : true ≡ false → ⊥
    absurd_bool e = cc

    right_false : (a b : Bool) → (a || b) ≡ false → b ≡ false
    right_false true b e = cc
    right_false false b e = e

-- a cell of the points so far, or that of the new one
old_cell : (c : CubeValue) (qs : List PointValue) (p : PointValue) (z : ℕ) → cell c p ≢ z → has z (map (cell c) (qs ++ p ∷ [])) ≡ true → has z (map (cell c) qs) ≡ true
old_cell c qs p z other h =
    left_true (has z (map (cell c) qs)) (nat_eq z (cell c p)) (ne_eqb _ _ (λ e. other (sym e))) (sym (ap (has z) (map-append (cell c) qs (p ∷ [])) ∙ has_push z (cell c p) (map (cell c) qs)) ∙ h)
  where
    left_true : (a b : Bool) → b ≡ false → (a || b) ≡ true → a ≡ true
    left_true true b n e = refl
    left_true false b n e = absurd (contra b n e)
      where
        contra : (b : Bool) → b ≡ false → b ≡ true → ⊥
        contra true n e = cc
        contra false n e = cc

-- a cell of the points with the new one is one of the points so far, where the new one's is
comes : (c : CubeValue) (qs : List PointValue) (p : PointValue) (z y : ℕ) → z ≡ cell c p → has z (map (cell c) qs) ≡ true → has y (map (cell c) (qs ++ p ∷ [])) ≡ true → has y (map (cell c) qs) ≡ true
comes c qs p z y here old h = elim (cases_eq z y) [
  | inl same ↦ subst (λ n. has n (map (cell c) qs) ≡ true) same old
  | inr other ↦ old_cell c qs p y (λ e. other (here ∙ e)) h
]

-- a cell other than the new point's is one of the cells so far, and has its least key where it had it
stays : (c : CubeValue) (qs : List PointValue) (p : PointValue) (places keys : List ℕ) (y : ℕ) → cell c p ≢ y → has y (map (cell c) (qs ++ p ∷ [])) ≡ true → HasLeastKeys c qs places keys
    → (has y (map (cell c) qs) ≡ true) × HasLeastKey c (qs ++ p ∷ []) places keys y
stays c qs p places keys y there h before =
    let old : has y (map (cell c) qs) ≡ true = old_cell c qs p y there h in
    let found : HasLeastKey c qs places keys y = before.each y old in
    (old, record { small = found.small; within = found.within; least_key = least_elsewhere c qs p y there ∙ found.least_key })

-- one point more, in a cell that is new: it gets the next place
pub key_in_new_cell : (c : CubeValue) (qs : List PointValue) (p : PointValue) (places keys keys' : List ℕ) (z k at : ℕ) → z < length places → z < 2 ^ 21 → z ≡ cell c p → k ≡ key c p
    → has z (map (cell c) qs) ≡ false → at ≡ length keys → keys' ≡ keys ++ k ∷ [] → HasLeastKeys c qs places keys → HasLeastKeys c (qs ++ p ∷ []) (set places z at) keys'
key_in_new_cell c qs p places keys keys' z k at in_table small here is new end pushed before =
    record {
      each = λ y h. elim (cases_eq z y) [
        | inl same ↦
            let place : get_or (set places z at) y 0 ≡ at = own y same in
            let least_key : least (cell_keys c (qs ++ p ∷ []) z) ≡ Some (get_or keys' at 0) =
            least_here c qs p z (sym here) ∙ ap (λ ks. Some (lesser (key c p) (least ks))) (no_keys c qs z new) ∙ ap Some (sym (read ∙ is)) in
            record {
              small = rw (sym same) small;
              within = omega (arith, place, longer);
              least_key = rw (sym same) (least_key ∙ ap (λ n. Some (get_or keys' n 0)) (sym (own z refl)));
            }
        | inr other ↦
            let kept = stays c qs p places keys y (λ e. other (here ∙ e)) h before in
            let place : get_or (set places z at) y 0 ≡ get_or places y 0 = theirs y other in
            let same_key : get_or keys' (get_or places y 0) 0 ≡ get_or keys (get_or places y 0) 0 =
            ap (λ (ks : List ℕ). get_or ks (get_or places y 0) 0) pushed ∙ get_or_append_left keys (k ∷ []) 0 (get_or places y 0) kept.1.within in
            record {
              small = kept.1.small;
              within = omega (arith, place, longer, kept.1.within);
              least_key = kept.1.least_key ∙ ap Some (sym (ap (λ n. get_or keys' n 0) place ∙ same_key));
            }
      ];
      apart = λ x y hx hy e. elim (cases_eq z x) [
        | inl same ↦ elim (cases_eq z y) [
          | inl same' ↦ sym same ∙ same'
          | inr other ↦ absurd (behind x y same other hy e)
        ]
        | inr other ↦ elim (cases_eq z y) [
          | inl same ↦ absurd (behind y x same other hx (sym e))
          | inr other' ↦
              let kept = stays c qs p places keys x (λ q. other (here ∙ q)) hx before in
              let kept' = stays c qs p places keys y (λ q. other' (here ∙ q)) hy before in
              before.apart x y kept.0 kept'.0 (sym (theirs x other) ∙ e ∙ theirs y other')
        ]
      ];
    }
  where
    own : (y : ℕ) → z ≡ y → get_or (set places z at) y 0 ≡ at
    own y same = ap (λ n. get_or (set places z at) n 0) (sym same) ∙ get_or-set_same places z at 0 in_table

    theirs : (y : ℕ) → z ≢ y → get_or (set places z at) y 0 ≡ get_or places y 0
    theirs y other = get_or-set_other places z y at 0 (λ e. other (sym e))

    longer : length keys' ≡ length keys + 1
    longer = ap length pushed ∙ length_push keys k

    read : get_or keys' at 0 ≡ k
    read = ap (λ (ks : List ℕ). get_or ks at 0) pushed ∙ get_or_push keys k 0 at (sym end)

    -- no other cell has the new place
    behind : (x y : ℕ) → z ≡ x → z ≢ y → has y (map (cell c) (qs ++ p ∷ [])) ≡ true → get_or (set places z at) x 0 ≡ get_or (set places z at) y 0 → ⊥
    behind x y same other h e =
        let kept = stays c qs p places keys y (λ q. other (here ∙ q)) h before in
        let place : get_or (set places z at) x 0 ≡ at = own x same in
        let place' : get_or (set places z at) y 0 ≡ get_or places y 0 = theirs y other in
        absurd (omega (arith, place, place', e, end, kept.1.within))

-- one point more, in a cell that has a key: the lesser one stays
pub key_in_old_cell : (c : CubeValue) (qs : List PointValue) (p : PointValue) (places keys : List ℕ) (z k at m : ℕ) → z ≡ cell c p → k ≡ key c p
    → has z (map (cell c) qs) ≡ true → at ≡ get_or places z 0 → m ≡ min k (get_or keys at 0) → HasLeastKeys c qs places keys → HasLeastKeys c (qs ++ p ∷ []) places (set keys at m)
key_in_old_cell c qs p places keys z k at m here is old place lesser_one before =
    record {
      each = λ y h. elim (cases_eq z y) [
        | inl same ↦
            let found : HasLeastKey c qs places keys z = before.each z old in
            let within : at < length keys = omega (arith, place, found.within) in
            let is_least : m ≡ lesser (key c p) (least (cell_keys c qs z)) =
            lesser_one ∙ ap (λ n. min n (get_or keys at 0)) is ∙ ap (λ n. min (key c p) (get_or keys n 0)) place ∙ sym (ap (lesser (key c p)) found.least_key) in
            let least_key : least (cell_keys c (qs ++ p ∷ []) z) ≡ Some (get_or (set keys at m) (get_or places z 0) 0) =
            least_here c qs p z (sym here) ∙ ap Some (sym (ap (λ n. get_or (set keys at m) n 0) (sym place) ∙ get_or-set_same keys at m 0 within ∙ is_least)) in
            rw (sym same) (record { small = found.small; within = omega (arith, place, found.within, length-set keys at m); least_key = least_key })
        | inr other ↦
            let kept = stays c qs p places keys y (λ e. other (here ∙ e)) h before in
            let elsewhere : get_or places y 0 ≢ at = λ e. other (sym (before.apart y z kept.0 old (e ∙ place))) in
            record {
              small = kept.1.small;
              within = omega (arith, kept.1.within, length-set keys at m);
              least_key = kept.1.least_key ∙ ap Some (sym (get_or-set_other keys at (get_or places y 0) m 0 elsewhere));
            }
      ];
      apart = λ x y hx hy e. before.apart x y (comes c qs p z x here old hx) (comes c qs p z y here old hy) e;
    }

-- ---- the loop over the points
pub known_cell : (z : ℕ) (ns cells : List ℕ) → cells ≡ ascending ns → false ≡ not (has z cells) → has z ns ≡ true
known_cell z ns cells is e = sym (has-ascending z ns) ∙ ap (has z) (sym is) ∙ not_false (has z cells) e
  where
    not_false : (b : Bool) → false ≡ not b → b ≡ true
    not_false true h = refl
    not_false false h = h

not_true : (b : Bool) → true ≡ not b → b ≡ false
not_true true h = h
not_true false h = refl

pub new_cell : (z : ℕ) (ns cells : List ℕ) → cells ≡ ascending ns → true ≡ not (has z cells) → has z ns ≡ false
new_cell z ns cells is e = sym (has-ascending z ns) ∙ ap (has z) (sym is) ∙ not_true (has z cells) e

pub found_more : (c : CubeValue) (ps : List PointValue) (i z : ℕ) (p : PointValue) (cells cells' : List ℕ) → cells ≡ ascending (map (cell c) (take i ps)) → cells' ≡ with_number z cells
    → z ≡ cell c p → take (i + 1) ps ≡ take i ps ++ p ∷ [] → cells' ≡ ascending (map (cell c) (take (i + 1) ps))
found_more c ps i z p cells cells' before more is next =
    more ∙ ap (with_number z) before ∙ ap (λ n. with_number n (ascending (map (cell c) (take i ps)))) is
    ∙ sym (ascending_push (map (cell c) (take i ps)) (cell c p))
    ∙ ap ascending (sym (map-append (cell c) (take i ps) (p ∷ [])))
    ∙ ap (λ qs. ascending (map (cell c) qs)) (sym next)

pub one_cell_more : (z : ℕ) (cells cells' : List ℕ) → true ≡ not (has z cells) → cells' ≡ with_number z cells → length cells' ≡ length cells + 1
one_cell_more z cells cells' new e = ap length e ∙ length-with_new z cells (not_true (has z cells) new)

pub no_cell_less : (z : ℕ) (cells cells' : List ℕ) → cells' ≡ with_number z cells → length cells ≤ length cells'
no_cell_less z cells cells' e = omega (arith, ap length e, length-with_number z cells)

-- ---- the loop over the cells
-- a cell of the list has its least key at its place
least_at : (c : CubeValue) (ps : List PointValue) (cells places keys : List ℕ) (z : ℕ) → cells ≡ ascending (map (cell c) ps) → HasLeastKeys c ps places keys → has z cells ≡ true → HasLeastKey c ps places keys z
least_at c ps cells places keys z is before h = before.each z (sym (has-ascending z (map (cell c) ps)) ∙ ap (has z) (sym is) ∙ h)

pub cells_are_small : (c : CubeValue) (ps : List PointValue) (cells places keys : List ℕ) → cells ≡ ascending (map (cell c) ps) → HasLeastKeys c ps places keys → (i d : ℕ) → i < length cells → get_or cells i d < 2 ^ 21
cells_are_small c ps cells places keys is before i d l = (least_at c ps cells places keys (get_or cells i d) is before (has_at cells i d l)).small

pub cells_have_places : (c : CubeValue) (ps : List PointValue) (cells places keys : List ℕ) → cells ≡ ascending (map (cell c) ps) → HasLeastKeys c ps places keys
    → (i d : ℕ) → i < length cells → get_or places (get_or cells i d) 0 < length keys
cells_have_places c ps cells places keys is before i d l = (least_at c ps cells places keys (get_or cells i d) is before (has_at cells i d l)).within

-- the cells with the colours of their least keys are the voxels
pub coloured_cells : (c : CubeValue) (ps : List PointValue) (cells places keys : List ℕ) → cells ≡ ascending (map (cell c) ps) → HasLeastKeys c ps places keys
    → map (λ z. record { cell = z; rgb = key_at places keys z % 2 ^ 24 }) cells ≡ voxels c ps
unfolding voxels
coloured_cells c ps cells places keys is before =
    map_same_in (λ z. record { cell = z; rgb = key_at places keys z % 2 ^ 24 }) (λ z. record { cell = z; rgb = cell_colour c ps z }) cells
    (λ z h. ap (λ r. record { cell = z; rgb = r }) (sym (ap (λ o. unwrap_or o 0 % 2 ^ 24) ((least_at c ps cells places keys z is before h).least_key))))
    ∙ ap (map (λ z. record { cell = z; rgb = cell_colour c ps z })) is
