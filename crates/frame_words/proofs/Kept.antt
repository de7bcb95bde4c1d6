-- Each step keeps the rule of a canvas.
use Rattle.std.proofs.Common.{◌≡◌, ◌≢◌, ℕ, zero, suc, ◌+◌, ◌-◌, ◌/◌, ◌<◌, ◌≤◌, min, List, [], ◌∷◌, ◌++◌, length, replicate, get_or, set, slice_set, ◌⊎◌, inl, inr, ap, ◌∙◌, sym, refl, subst, arith}
use Rattle.std.proofs.lemmas.Bool.{cases_lt, cases_eq}
use Rattle.std.proofs.lemmas.List.{get_or-set_same, get_or-set_other, length-set, length-map, length-replicate, get_or-replicate}
use mathlib.Core.Option.{none, some, some-injective, some-ne-none}
use lib.ListN.{get_elem?}
use Rattle.atomic_table.specs.Table.{State, Act, Valid, stepped, carried_after, Allows, Splits, Joins, step, opening}
use Rattle.atomic_table.specs.Table.Act.{keeps}
use Rattle.atomic_table.proofs.Lists.{at_set, at_snoc, set_again, set_else}
use Rattle.octree_model.specs.Numbers.{up_to}
use Rattle.octree_model.proofs.NumberLaws.{length-up_to, at_up_to}
use Rattle.splat_ppm.specs.Canvases.{no_key}
use Rattle.frame_words.specs.Hands.{Sat, IsHand, IsKept, IsBrush, key_of, lowest, all_shares, first_hand, lowered, wiped, giver, taker, lesser_keys, united, spent, Drew, Looked, Read, Wiped}
use Rattle.frame_words.specs.declared.rule.Hand.{Hand}

-- ---- a list at a place, whatever stands for one past its end
pub or_other : (xs : List ℕ) (k a b : ℕ) → k < length xs → get_or xs k a ≡ get_or xs k b
or_other [] k a b l = absurd (omega arith)
or_other (x ∷ xs) zero a b l = refl
or_other (x ∷ xs) (suc k) a b l = or_other xs k a b (omega arith)

pub past_end : (xs : List ℕ) (k a : ℕ) → length xs ≤ k → get_or xs k a ≡ a
past_end [] k a l = refl
past_end (x ∷ xs) zero a l = absurd (omega arith)
past_end (x ∷ xs) (suc k) a l = past_end xs k a (omega arith)

-- ---- the least key of all seats
at_most_top : (vs : List Hand) (k : ℕ) → lowest vs k ≤ no_key
at_most_top [] k = omega arith
at_most_top (v ∷ vs) k = let rest : lowest vs k ≤ no_key = at_most_top vs k in omega arith

at_most_each : (vs : List Hand) (j : ℕ) (v : Hand) (k : ℕ) → get_elem? vs j ≡ some v → lowest vs k ≤ key_of v k
at_most_each [] j v k at = absurd (some-ne-none v (sym at))
at_most_each (u ∷ vs) zero v k at = let same : key_of u k ≡ key_of v k = ap (λ (h : Hand). key_of h k) (some-injective u v at) in omega arith
at_most_each (u ∷ vs) (suc j) v k at = let rest : lowest vs k ≤ key_of v k = at_most_each vs j v k at in omega arith

-- one seat's key for another's
lowest_swap : (vs : List Hand) (j : ℕ) (v w : Hand) (k : ℕ) → get_elem? vs j ≡ some v
    → min (lowest (set vs j w) k) (key_of v k) ≡ min (lowest vs k) (key_of w k)
lowest_swap [] j v w k at = absurd (some-ne-none v (sym at))
lowest_swap (u ∷ vs) zero v w k at = let same : key_of u k ≡ key_of v k = ap (λ (h : Hand). key_of h k) (some-injective u v at) in omega arith
lowest_swap (u ∷ vs) (suc j) v w k at = let rest : min (lowest (set vs j w) k) (key_of v k) ≡ min (lowest vs k) (key_of w k) = lowest_swap vs j v w k
    at in omega arith

-- one seat's key was lowered
lowest_set : (vs : List Hand) (j : ℕ) (v w : Hand) (k : ℕ) → get_elem? vs j ≡ some v → key_of w k ≤ key_of v k
    → lowest (set vs j w) k ≡ min (lowest vs k) (key_of w k)
lowest_set [] j v w k at l = absurd (some-ne-none v (sym at))
lowest_set (u ∷ vs) zero v w k at l = let same : key_of u k ≡ key_of v k = ap (λ (h : Hand). key_of h k) (some-injective u v at) in omega arith
lowest_set (u ∷ vs) (suc j) v w k at l = let rest : lowest (set vs j w) k ≡ min (lowest vs k) (key_of w k) = lowest_set vs j v w k at l in omega arith

-- one seat's key is as it was
lowest_same : (vs : List Hand) (j : ℕ) (v w : Hand) (k : ℕ) → get_elem? vs j ≡ some v → key_of w k ≡ key_of v k → lowest (set vs j w) k ≡ lowest vs k
lowest_same vs j v w k at same =
    let least : lowest vs k ≤ key_of v k = at_most_each vs j v k at in
    let lower : lowest (set vs j w) k ≡ min (lowest vs k) (key_of w k) = lowest_set vs j v w k at (omega (arith, same)) in
    omega arith

lowest_more : (vs : List Hand) (w : Hand) (k : ℕ) → key_of w k ≡ no_key → lowest (vs ++ w ∷ []) k ≡ lowest vs k
lowest_more [] w k top = omega (arith, top)
lowest_more (v ∷ vs) w k top = ap (min (key_of v k)) (lowest_more vs w k top)

-- the others have drawn nothing
lowest_none : (vs : List Hand) (k : ℕ) → ((j : ℕ) (u : Hand) → get_elem? vs j ≡ some u → key_of u k ≡ no_key) → lowest vs k ≡ no_key
lowest_none [] k top = refl
lowest_none (u ∷ vs) k top =
    let here : key_of u k ≡ no_key = top 0 u refl in
    let rest : lowest vs k ≡ no_key = lowest_none vs k (λ j v at. top (suc j) v at) in
    omega arith

lowest_alone : (vs : List Hand) (j : ℕ) (v w : Hand) (k : ℕ) → get_elem? vs j ≡ some v → ((i : ℕ) (u : Hand) → i ≢ j → get_elem? vs i ≡ some u
    → key_of u k ≡ no_key) → key_of w k ≤ no_key
    → lowest (set vs j w) k ≡ key_of w k
lowest_alone [] j v w k at others l = absurd (some-ne-none v (sym at))
lowest_alone (u ∷ vs) zero v w k at others l =
    let rest : lowest vs k ≡ no_key = lowest_none vs k (λ i x at'. others (suc i) x (λ e. omega arith) at') in omega arith
lowest_alone (u ∷ vs) (suc j) v w k at others l =
    let here : key_of u k ≡ no_key = others 0 u (λ e. omega arith) refl in
    let rest : lowest (set vs j w) k ≡ key_of w k = lowest_alone vs j v w k at (λ i x ne at'. others (suc i) x (λ e. ne (omega arith)) at') l in
    omega arith

-- ---- shares
shares_set : (vs : List Hand) (j : ℕ) (v w : Hand) → get_elem? vs j ≡ some v → all_shares (set vs j w) + v.shares ≡ all_shares vs + w.shares
shares_set [] j v w at = absurd (some-ne-none v (sym at))
shares_set (u ∷ vs) zero v w at = let same : u.shares ≡ v.shares = ap (λ (h : Hand). h.shares) (some-injective u v at) in omega arith
shares_set (u ∷ vs) (suc j) v w at = let rest : all_shares (set vs j w) + v.shares ≡ all_shares vs + w.shares = shares_set vs j v w at in omega arith

shares_more : (vs : List Hand) (w : Hand) → all_shares (vs ++ w ∷ []) ≡ all_shares vs + w.shares
shares_more [] w = omega arith
shares_more (v ∷ vs) w = let rest : all_shares (vs ++ w ∷ []) ≡ all_shares vs + w.shares = shares_more vs w in omega arith

shares_each : (vs : List Hand) (j : ℕ) (v : Hand) → get_elem? vs j ≡ some v → v.shares ≤ all_shares vs
shares_each [] j v at = absurd (some-ne-none v (sym at))
shares_each (u ∷ vs) zero v at = let same : u.shares ≡ v.shares = ap (λ (h : Hand). h.shares) (some-injective u v at) in omega arith
shares_each (u ∷ vs) (suc j) v at = let rest : v.shares ≤ all_shares vs = shares_each vs j v at in omega arith

-- where one seat has all shares, the others have none
shares_alone : (vs : List Hand) (j : ℕ) (v : Hand) → get_elem? vs j ≡ some v → v.shares ≡ all_shares vs → (i : ℕ) (u : Hand) → i ≢ j
    → get_elem? vs i ≡ some u → u.shares ≡ 0
shares_alone [] j v at all i u ne at' = absurd (some-ne-none v (sym at))
shares_alone (x ∷ vs) zero v at all zero u ne at' = absurd (ne refl)
shares_alone (x ∷ vs) zero v at all (suc i) u ne at' =
    let same : x.shares ≡ v.shares = ap (λ (h : Hand). h.shares) (some-injective x v at) in
    let rest : u.shares ≤ all_shares vs = shares_each vs i u at' in omega (arith, all)
shares_alone (x ∷ vs) (suc j) v at all zero u ne at' =
    let same : x.shares ≡ u.shares = ap (λ (h : Hand). h.shares) (some-injective x u at') in
    let rest : v.shares ≤ all_shares vs = shares_each vs j v at in omega (arith, all)
shares_alone (x ∷ vs) (suc j) v at all (suc i) u ne at' =
    let rest : v.shares ≤ all_shares vs = shares_each vs j v at in
    shares_alone vs j v at (omega (arith, all)) i u (λ e. ne (ap suc e)) at'

-- ---- one seat's view changes, and perhaps one word
-- the seats are hands where the one is
seats_set : (vs : List Hand) (j : ℕ) (w : Hand) → ((i : ℕ) (u : Hand) → get_elem? vs i ≡ some u → IsHand u) → IsHand w → (i : ℕ) (u : Hand)
    → get_elem? (set vs j w) i ≡ some u → IsHand u
seats_set vs j w hands is i u at = elim (at_set vs j i w u at) [
  | inl here ↦ subst IsHand here.1 is
  | inr there ↦ hands i u there.1
]

-- ---- a key is drawn
module _ (v : Hand) (i key : ℕ) (within : i < length v.keys) where
  drawn_here : key_of (lowered v i key) i ≡ min (key_of v i) key
  drawn_here = get_or-set_same v.keys i (min (get_or v.keys i 0) key) no_key within ∙ ap (λ n. min n key) (or_other v.keys i 0 no_key within)

  drawn_there : (k : ℕ) → k ≢ i → key_of (lowered v i key) k ≡ key_of v k
  drawn_there k ne = get_or-set_other v.keys i k _ no_key ne

  drawn_hand : IsHand v → 0 < v.shares → IsHand (lowered v i key)
  drawn_hand is some_shares = record {
    idle = λ zeros. absurd (omega (arith, zeros, some_shares));
    small = λ k. elim (cases_eq k i) [
      | inl same ↦ subst (λ n. key_of (lowered v i key) n ≤ no_key) (sym same) (let s : key_of v i ≤ no_key = is.small i in omega (arith, drawn_here))
      | inr other ↦ subst (λ n. n ≤ no_key) (sym (drawn_there k other)) (is.small k)
    ];
  }

-- the words after a step
word_here : (ws : List ℕ) (i n : ℕ) → i < length ws → get_or (slice_set ws i n) i 0 ≡ n
word_here ws i n l = get_or-set_same ws i n 0 l

-- the rule after a key was drawn: the word is the lesser of what it was and the key
kept_drawn : (pixels : ℕ) (s : State (Unit {0}) Hand) (id : ℕ) (v : Hand) (i key n : ℕ) → IsKept pixels s → get_elem? s.views id ≡ some v
    → i < pixels → length v.keys ≡ pixels → 0 < v.shares
    → n ≡ min (get_or s.words i 0) key
    → IsKept pixels record { words = slice_set s.words i n; homes = s.homes; views = set s.views id (lowered v i key) }
kept_drawn pixels s id v i key n is at l long some_shares found =
    let within : i < length v.keys = omega (arith, l, long) in
    let word : i < length s.words = omega (arith, l, is.long) in record {
      long = length-set s.words i n ∙ is.long;
      shares = let e : all_shares (set s.views id (lowered v i key)) + v.shares ≡ all_shares s.views + v.shares = shares_set s.views id v (lowered v
          i key) at in omega (arith, is.shares);
      seats = seats_set s.views id (lowered v i key) is.seats (drawn_hand v i key within (is.seats id v at) some_shares);
      least = λ k b. elim (cases_eq k i) [
        | inl same ↦
            let here : key_of (lowered v i key) i ≡ min (key_of v i) key = drawn_here v i key within in
            let each : lowest s.views i ≤ key_of v i = at_most_each s.views id v i at in
            let low : lowest (set s.views id (lowered v i key)) i ≡ min (lowest s.views i) (key_of (lowered v i key) i) = lowest_set s.views id v
            (lowered v i key) i at (omega arith) in
            let before : get_or s.words i 0 ≡ lowest s.views i = is.least i l in
            let after : get_or (slice_set s.words i n) i 0 ≡ n = word_here s.words i n word in
            subst (λ j. get_or (slice_set s.words i n) j 0 ≡ lowest (set s.views id (lowered v i key)) j) (sym same) (omega (arith, found))
        | inr other ↦
            get_or-set_other s.words i k n 0 other ∙ is.least k b ∙ sym (lowest_same s.views id v (lowered v i key) k at (drawn_there v i key within k other))
      ];
    }

-- ---- a word is read
kept_read : (pixels : ℕ) (s : State (Unit {0}) Hand) (id : ℕ) (v : Hand) (i : ℕ) → IsKept pixels s → get_elem? s.views id ≡ some v → i < pixels
    → IsKept pixels record { words = slice_set s.words i (get_or s.words i 0); homes = s.homes; views = set s.views id v }
kept_read pixels s id v i is at l = record {
  long = length-set s.words i (get_or s.words i 0) ∙ is.long;
  shares = ap all_shares (set_again s.views id v at) ∙ is.shares;
  seats = λ j u at'. is.seats j u (subst (λ vs. get_elem? vs j ≡ some u) (set_again s.views id v at) at');
  least = λ k b. elim (cases_eq k i) [
    | inl same ↦ subst (λ j. get_or (slice_set s.words i (get_or s.words i 0)) j 0 ≡ lowest (set s.views id v) j) (sym same)
        (word_here s.words i (get_or s.words i 0) (omega (arith, l, is.long)) ∙ is.least i l ∙ ap (λ vs. lowest vs i) (sym (set_again s.views id v at)))
    | inr other ↦ get_or-set_other s.words i k (get_or s.words i 0) 0 other ∙ is.least k b ∙ ap (λ vs. lowest vs k) (sym (set_again s.views id v at))
  ];
}

-- where a seat has all shares, the others have drawn nothing
others_idle : (pixels : ℕ) (s : State (Unit {0}) Hand) (id : ℕ) (v : Hand) → IsKept pixels s → get_elem? s.views id ≡ some v → v.shares ≡ 16
    → (k i : ℕ) (u : Hand) → i ≢ id → get_elem? s.views i ≡ some u → key_of u k ≡ no_key
others_idle pixels s id v is at all k i u ne at' = (is.seats i u at').idle (shares_alone s.views id v at (all ∙ sym is.shares) i u ne at') k

-- and it finds its own key
own_found : (pixels : ℕ) (s : State (Unit {0}) Hand) (id : ℕ) (v : Hand) (i : ℕ) → IsKept pixels s → get_elem? s.views id ≡ some v → i < pixels
    → v.shares ≡ 16 → get_or s.words i 0 ≡ key_of v i
own_found pixels s id v i is at l all =
    is.least i l ∙ ap (λ vs. lowest vs i) (sym (set_again s.views id v at))
    ∙ lowest_alone s.views id v v i at (others_idle pixels s id v is at all i) ((is.seats id v at).small i)

-- ---- a pixel is wiped
module _ (v : Hand) (i : ℕ) (within : i < length v.keys) where
  wiped_here : key_of (wiped v i) i ≡ no_key
  wiped_here = get_or-set_same v.keys i no_key no_key within

  wiped_there : (k : ℕ) → k ≢ i → key_of (wiped v i) k ≡ key_of v k
  wiped_there k ne = get_or-set_other v.keys i k no_key no_key ne

  wiped_hand : IsHand v → 0 < v.shares → IsHand (wiped v i)
  wiped_hand is some_shares = record {
    idle = λ zeros. absurd (omega (arith, zeros, some_shares));
    small = λ k. elim (cases_eq k i) [
      | inl same ↦ subst (λ n. key_of (wiped v i) n ≤ no_key) (sym same) (omega (arith, wiped_here))
      | inr other ↦ subst (λ n. n ≤ no_key) (sym (wiped_there k other)) (is.small k)
    ];
  }

kept_wiped : (pixels : ℕ) (s : State (Unit {0}) Hand) (id : ℕ) (v : Hand) (i : ℕ) → IsKept pixels s → get_elem? s.views id ≡ some v → i < pixels
    → length v.keys ≡ pixels → v.shares ≡ 16
    → IsKept pixels record { words = slice_set s.words i no_key; homes = s.homes; views = set s.views id (wiped v i) }
kept_wiped pixels s id v i is at l long all =
    let within : i < length v.keys = omega (arith, l, long) in record {
      long = length-set s.words i no_key ∙ is.long;
      shares = let e : all_shares (set s.views id (wiped v i)) + v.shares ≡ all_shares s.views + v.shares = shares_set s.views id v (wiped v i) at in
          omega (arith, is.shares);
      seats = seats_set s.views id (wiped v i) is.seats (wiped_hand v i within (is.seats id v at) (omega (arith, all)));
      least = λ k b. elim (cases_eq k i) [
        | inl same ↦
            let top : key_of (wiped v i) i ≤ no_key = omega (arith, wiped_here v i within) in
            subst (λ j. get_or (slice_set s.words i no_key) j 0 ≡ lowest (set s.views id (wiped v i)) j) (sym same)
            (word_here s.words i no_key (omega (arith, l, is.long)) ∙ sym (wiped_here v i within)
            ∙ sym (lowest_alone s.views id v (wiped v i) i at (others_idle pixels s id v is at all i) top))
        | inr other ↦ get_or-set_other s.words i k no_key 0 other ∙ is.least k b
            ∙ sym (lowest_same s.views id v (wiped v i) k at (wiped_there v i within k other))
      ];
    }

module _ (pixels slots id : ℕ) (me : Sat) (shares : ℕ) (brush : IsBrush pixels shares me) where
  pub draws : (i key : ℕ) → i < pixels → 0 < me.0.shares → Allows (IsKept pixels) slots id me i (λ n. min n key) (Drew (step slots i key 0 none) me)
  draws i key l some_shares s is homes at small =
      (lowered me.0 i key, keeps, tt, kept_drawn pixels s id me.0 i key _ is at l brush.long some_shares refl, refl)

  looks_at : (i key : ℕ) → i < pixels → 0 < me.0.shares → (s : State (Unit {0}) Hand) → IsKept pixels s → get_elem? s.views id ≡ some me.0
      → (key < get_or s.words i 0) ⊎ (get_or s.words i 0 ≤ key)
      → (w : Hand) × (a : Act (Unit {0})) × Valid s.homes me.1 a × IsKept pixels (stepped s i (get_or s.words i 0) id me.1 w a) × Looked key (step
      slots i 0 0 none) me (get_or s.words i 0) (w, carried_after me.1 a)
  looks_at i key l some_shares s is at (inr low) = (
    lowered me.0 i key,
    keeps,
    tt,
    kept_drawn pixels s id me.0 i key _ is at l brush.long some_shares (omega (arith, low)),
    (
      (λ _. refl),
      λ high.
          absurd (omega (arith, low)),
    ),
  )
  looks_at i key l some_shares s is at (inl high) =
      (me.0, keeps, tt, kept_read pixels s id me.0 i is at l, ((λ low. absurd (omega (arith, high))), λ _. refl))

  pub looks : (i key : ℕ) → i < pixels → 0 < me.0.shares → Allows (IsKept pixels) slots id me i (λ n. n) (Looked key (step slots i 0 0 none) me)
  looks i key l some_shares s is homes at small = looks_at i key l some_shares s is at (cases_lt key (get_or s.words i 0))

  pub reads : (i : ℕ) → i < pixels → Allows (IsKept pixels) slots id me i (λ n. n) (Read (step slots i 0 0 none) me)
  reads i l s is homes at small = (me.0, keeps, tt, kept_read pixels s id me.0 i is at l, (refl, λ all. own_found pixels s id me.0 i is at l all))

  pub wipes : (i : ℕ) → i < pixels → me.0.shares ≡ 16 → Allows (IsKept pixels) slots id me i (λ _. no_key) (λ _. Wiped (step slots i no_key 0 none) me no_key)
  wipes i l all s is homes at small = (wiped me.0 i, keeps, tt, kept_wiped pixels s id me.0 i is at l brush.long all, refl)

-- ---- seats
pub of_blank : (n k : ℕ) → get_or (replicate n no_key) k no_key ≡ no_key
of_blank n k = elim (cases_lt k n) [
  | inl below ↦ get_or-replicate n k no_key no_key below
  | inr above ↦ past_end (replicate n no_key) k no_key (omega (arith, length-replicate n no_key))
]

-- a seat is cut in two
pub splits : (pixels id : ℕ) (v : Hand) → Splits (IsKept pixels) id v (giver v) (taker v)
splits pixels id v s is at =
    let blank : (k : ℕ) → key_of (taker v) k ≡ no_key = λ k. of_blank (length v.keys) k in
    let old : IsHand v = is.seats id v at in record {
      long = is.long;
      shares =
          let e : all_shares (set s.views id (giver v)) + v.shares ≡ all_shares s.views + (v.shares - v.shares / 2) = shares_set s.views id v (giver v) at in
          let f : all_shares (set s.views id (giver v) ++ taker v ∷ []) ≡ all_shares (set s.views id (giver v)) + v.shares / 2 = shares_more (set
          s.views id (giver v)) (taker v) in
          omega (arith, is.shares);
      seats = λ j u at'. elim (at_snoc (set s.views id (giver v)) (taker v) u j at') [
        | inl among ↦ seats_set s.views id (giver v) is.seats record { idle = λ zeros k. old.idle (omega (arith, zeros)) k; small = old.small } j u among
        | inr last ↦ subst IsHand last record { idle = λ _ k. blank k; small = λ k. omega (arith, blank k) }
      ];
      least = λ k b. is.least k b ∙ sym (lowest_same s.views id v (giver v) k at refl) ∙ sym (lowest_more (set s.views id (giver v)) (taker v) k (blank k));
    }

placed : (vs : List Hand) (j : ℕ) (v w : Hand) → get_elem? vs j ≡ some v → get_elem? (set vs j w) j ≡ some w
placed [] j v w at = absurd (some-ne-none v (sym at))
placed (u ∷ vs) zero v w at = refl
placed (u ∷ vs) (suc j) v w at = placed vs j v w at

pub lesser_at : (xs ys : List ℕ) (k d : ℕ) → k < length xs → get_or (lesser_keys xs ys) k d ≡ min (get_or xs k no_key) (get_or ys k no_key)
lesser_at xs ys k d l = at_up_to (λ n. min (get_or xs n no_key) (get_or ys n no_key)) (length xs) k d l

pub length-lesser : (xs ys : List ℕ) → length (lesser_keys xs ys) ≡ length xs
length-lesser xs ys = length-map (up_to (length xs)) (λ n. min (get_or xs n no_key) (get_or ys n no_key)) ∙ length-up_to (length xs)

united_hand : (v w : Hand) → IsHand v → IsHand w → IsHand (united v w)
united_hand v w a b = record {
  idle = λ zeros k. elim (cases_lt k (length v.keys)) [
    | inl within ↦
        let p : key_of v k ≡ no_key = a.idle (omega (arith, zeros)) k in let q : key_of w k ≡ no_key = b.idle (omega (arith, zeros)) k in
        lesser_at v.keys w.keys k no_key within ∙ omega arith
    | inr past ↦ past_end (lesser_keys v.keys w.keys) k no_key (omega (arith, length-lesser v.keys w.keys))
  ];
  small = λ k. elim (cases_lt k (length v.keys)) [
    | inl within ↦ let p : key_of v k ≤ no_key = a.small k in let q : get_or (lesser_keys v.keys w.keys) k no_key ≡ min (key_of v k) (key_of w k) =
        lesser_at v.keys w.keys k no_key within in omega arith
    | inr past ↦ let q : get_or (lesser_keys v.keys w.keys) k no_key ≡ no_key = past_end (lesser_keys v.keys w.keys) k no_key (omega (
      arith,
      length-lesser v.keys w.keys,
    )) in omega arith
  ];
}

spent_at : (k : ℕ) → key_of spent k ≡ no_key
spent_at k = past_end [] k no_key (omega arith)

spent_hand : IsHand spent
spent_hand = record { idle = λ _ k. spent_at k; small = λ k. omega (arith, spent_at k) }

-- two seats are made one
pub joins : (pixels id other : ℕ) (v w : Hand) → length v.keys ≡ pixels → Joins (IsKept pixels) id v other w (united v w) spent
joins pixels id other v w long s is at ne at' =
    let u : Hand = united v w in
    let vs : List Hand = set s.views id u in
    let there : get_elem? s.views other ≡ some w = elim (at_set s.views id other u w at') [ inl same ↦ absurd (ne same.0) | inr t ↦ t.1 ] in
    let here : get_elem? (set vs other spent) id ≡ some u = set_else vs other id spent (λ e. ne (sym e)) ∙ placed s.views id v u at in
    let hand : IsHand u = united_hand v w (is.seats id v at) (is.seats other w there) in record {
      long = is.long;
      shares =
          let e : all_shares vs + v.shares ≡ all_shares s.views + (v.shares + w.shares) = shares_set s.views id v u at in
          let f : all_shares (set vs other spent) + w.shares ≡ all_shares vs + 0 = shares_set vs other w spent at' in
          omega (arith, is.shares);
      seats = seats_set vs other spent (seats_set s.views id u is.seats hand) spent_hand;
      least = λ k b.
          let both : key_of u k ≡ min (key_of v k) (key_of w k) = lesser_at v.keys w.keys k no_key (omega (arith, b, long)) in
          let first : lowest s.views k ≤ key_of v k = at_most_each s.views id v k at in
          let second : lowest s.views k ≤ key_of w k = at_most_each s.views other w k there in
          let mid : lowest vs k ≡ min (lowest s.views k) (key_of u k) = lowest_set s.views id v u k at (omega arith) in
          let top : lowest vs k ≤ no_key = at_most_top vs k in
          let swap : min (lowest (set vs other spent) k) (key_of w k) ≡ min (lowest vs k) (key_of spent k) = lowest_swap vs other w spent k at' in
          let clear : key_of spent k ≡ no_key = spent_at k in
          let each : lowest (set vs other spent) k ≤ key_of u k = at_most_each (set vs other spent) id u k here in
          is.least k b ∙ omega arith;
    }

-- the table at the start
pub opens : (pixels : ℕ) (words : List ℕ) → words ≡ replicate pixels no_key → IsKept pixels (opening words [] (first_hand pixels))
opens pixels words blank = record {
  long = ap length blank ∙ length-replicate pixels no_key;
  shares = refl;
  seats = λ j v at. opens_seat j v at;
  least = λ k b.
      let key : key_of (first_hand pixels) k ≡ no_key = of_blank pixels k in
      ap (λ (ws : List ℕ). get_or ws k 0) blank ∙ get_or-replicate pixels k no_key 0 b ∙ omega (arith, key);
} where
  opens_seat : (j : ℕ) (v : Hand) → get_elem? (first_hand pixels ∷ []) j ≡ some v → IsHand v
  opens_seat zero v at = subst IsHand (some-injective (first_hand pixels) v at) record {
    idle = λ zeros. absurd (omega (arith, zeros));
    small = λ k.
        omega (arith, of_blank pixels k);
  }
  opens_seat (suc j) v at = absurd (some-ne-none v (sym at))
