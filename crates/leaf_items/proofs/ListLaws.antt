-- Lists of items, when one of them changes.
use Rattle.std.proofs.Common.{◌≡◌, ◌≢◌, ◌∙◌, ℕ, ◌+◌, ◌-◌, ◌<◌, ◌≤◌, inl, inr, Bool, cond, nat_eq, List, [], ◌∷◌, ◌++◌, length, get_or, set, ap, sym, refl, arith, subst, append-nil}
use Rattle.std.specs.Prelude.{All, count_by}
use Rattle.std.proofs.lemmas.Bool.{cases_eq, eq-eqb, ne_eqb}
use Rattle.std.proofs.lemmas.List.{get_or-map, get_or-set_other, get_or-set_same, get_or_append_left, get_or_at, get_or_default, length-append, length-map, length-set, map-set, set-get_or}
use Rattle.std.proofs.lemmas.List.Elements.{All-from_get_or, All-get_or, All-push, All-tail, All-weaker}
use Rattle.std.proofs.lemmas.List.Sums.{count_by-le-length, sum_by-cons, sum_by_push}
use Rattle.leaf_items.specs.Items.{ItemsValue, items_from}
use Rattle.leaf_items.specs.Kept.{AreLists, births}
use Rattle.leaf_items.specs.Lists.{ListValue, appended, list_at, no_list}
use Rattle.leaf_items.proofs.ItemLaws.{items_from-append, one}

-- items by lists of these parts
abbrev pub value_with : List ℕ → List ℕ → List ℕ → ℕ → ItemsValue
value_with leaf born ready rooms = record { leaf = leaf; born = born; ready = ready; rooms = rooms }

-- how many of some lists are this one
abbrev pub counted : ℕ → List ℕ → ℕ
counted list ready = count_by (λ l. nat_eq l list) ready

-- a list as it is read
pub known_is : (lists : List ListValue) (at : ℕ) (known : ListValue) → at < length lists → known ≡ get_or lists at known → known ≡ list_at lists at
known_is lists at known low is = is ∙ get_or_default lists at known no_list low

-- what one list more or less in readiness, or an item more, changes: this list, and no other
pub record IsStep (leaf leaf' ready ready' : List ℕ) (count at : ℕ) (new : ListValue) : Type 0 where
  pub has : new.items ≡ items_from 0 leaf' at
  pub wants : new.wanted ≡ counted at ready'
  pub other_items : (l : ℕ) → l ≢ at → items_from 0 leaf' l ≡ items_from 0 leaf l
  pub other_wants : (l : ℕ) → l ≢ at → counted l ready' ≡ counted l ready
  pub placed' : All (λ l. l < count) leaf'
  pub aimed' : All (λ l. l < count) ready'
  pub early' : new.born ≤ length leaf'
  pub longer : length leaf ≤ length leaf'

module _ (leaf leaf' ready ready' : List ℕ) (lists : List ListValue) (at : ℕ) (new : ListValue) (low : at < length lists) where
  here : (l : ℕ) → l ≡ at → list_at (set lists at new) l ≡ new
  here l is = ap (list_at (set lists at new)) is ∙ get_or-set_same lists at new no_list low

  there : (l : ℕ) → l ≢ at → list_at (set lists at new) l ≡ list_at lists l
  there l other = get_or-set_other lists at l new no_list other

  pub lists_step : AreLists leaf ready lists → IsStep leaf leaf' ready ready' (length lists) at new → AreLists leaf' ready' (set lists at new)
  lists_step are step =
      let same : length (set lists at new) ≡ length lists = length-set lists at new in
      let below : (l : ℕ) → l < length (set lists at new) → l < length lists = λ l within. omega (arith, same, within) in
      let above : (l : ℕ) → l < length lists → l < length (set lists at new) = λ l within. omega (arith, same, within) in
      record {
        have = λ l within. elim (cases_eq l at) [
          | inl is ↦ ap (λ (v : ListValue). v.items) (here l is) ∙ step.has ∙ ap (items_from 0 leaf') (sym is)
          | inr other ↦ ap (λ (v : ListValue). v.items) (there l other) ∙ are.have l (below l within) ∙ sym (step.other_items l other)
        ];
        want = λ l within. elim (cases_eq l at) [
          | inl is ↦ ap (λ (v : ListValue). v.wanted) (here l is) ∙ step.wants ∙ ap (λ (k : ℕ). counted k ready') (sym is)
          | inr other ↦ ap (λ (v : ListValue). v.wanted) (there l other) ∙ are.want l (below l within) ∙ sym (step.other_wants l other)
        ];
        placed = All-weaker (λ (l : ℕ). l < length lists) (λ (l : ℕ). l < length (set lists at new)) above leaf' step.placed';
        aimed = All-weaker (λ (l : ℕ). l < length lists) (λ (l : ℕ). l < length (set lists at new)) above ready' step.aimed';
        early = λ l within. elim (cases_eq l at) [
          | inl is ↦ omega (arith, ap (λ (v : ListValue). v.born) (here l is), step.early')
          | inr other ↦ omega (arith, ap (λ (v : ListValue). v.born) (there l other), are.early l (below l within), step.longer)
        ];
      }

-- births stay where a list keeps its own
pub births_set : (lists : List ListValue) (at : ℕ) (new : ListValue) → at < length lists → new.born ≡ (list_at lists at).born
    → births (set lists at new) ≡ births lists
births_set lists at new low same =
    map-set (λ (v : ListValue). v.born) lists at new
    ∙ ap (set (births lists) at) (same ∙ sym (get_or-map (λ (v : ListValue). v.born) lists at no_list 0 low))
    ∙ set-get_or (births lists) at 0

same_counts : (at : ℕ) → one (nat_eq at at) ≡ 1
same_counts at = ap one (eq-eqb at at refl)

other_counts : (l at : ℕ) → l ≢ at → one (nat_eq at l) ≡ 0
other_counts l at other = ap one (ne_eqb at l (λ is. other (sym is)))

module _ (leaf rest : List ℕ) (lists : List ListValue) (at : ℕ) (known new : ListValue) (low : at < length lists) (is : known ≡ list_at lists at) where
  -- a list is wanted once more
  pub want_step : AreLists leaf rest lists → new ≡ record known { wanted = known.wanted + 1 } → AreLists leaf (rest ++ at ∷ []) (set lists at new)
  want_step are e = lists_step leaf leaf rest (rest ++ at ∷ []) lists at new low are record {
    has = ap (λ (v : ListValue). v.items) (e ∙ ap (λ (v : ListValue). record v { wanted = v.wanted + 1 }) is) ∙ are.have at low;
    wants = omega (
      arith,
      ap (λ (v : ListValue). v.wanted) e,
      ap (λ (v : ListValue). v.wanted) is,
      are.want at low,
      sum_by_push (λ (l : ℕ). cond (nat_eq l at) 1 0) rest at,
      same_counts at,
    );
    other_items = λ l other. refl;
    other_wants = λ l other. omega (arith, sum_by_push (λ (k : ℕ). cond (nat_eq k l) 1 0) rest at, other_counts l at other);
    placed' = are.placed;
    aimed' = All-push (λ (l : ℕ). l < length lists) rest at are.aimed low;
    early' = omega (arith, ap (λ (v : ListValue). v.born) e, ap (λ (v : ListValue). v.born) is, are.early at low);
    longer = omega arith;
  }

  -- how often it is wanted, at least
  pub wanted_once : AreLists leaf (rest ++ at ∷ []) lists → 0 < known.wanted
  wanted_once are = omega (arith, ap (λ (v : ListValue). v.wanted) is, are.want at low, sum_by_push (λ (l : ℕ). cond (nat_eq l at) 1 0) rest at, same_counts at)

  -- a list is wanted once less
  pub unwant_step : AreLists leaf (rest ++ at ∷ []) lists → new ≡ record known { wanted = known.wanted - 1 } → AreLists leaf rest (set lists at new)
  unwant_step are e = lists_step leaf leaf (rest ++ at ∷ []) rest lists at new low are record {
    has = ap (λ (v : ListValue). v.items) (e ∙ ap (λ (v : ListValue). record v { wanted = v.wanted - 1 }) is) ∙ are.have at low;
    wants = omega (
      arith,
      ap (λ (v : ListValue). v.wanted) e,
      ap (λ (v : ListValue). v.wanted) is,
      are.want at low,
      sum_by_push (λ (l : ℕ). cond (nat_eq l at) 1 0) rest at,
      same_counts at,
    );
    other_items = λ l other. refl;
    other_wants = λ l other. omega (arith, sum_by_push (λ (k : ℕ). cond (nat_eq k l) 1 0) rest at, other_counts l at other);
    placed' = are.placed;
    aimed' = front (λ (l : ℕ). l < length lists) rest at are.aimed;
    early' = omega (arith, ap (λ (v : ListValue). v.born) e, ap (λ (v : ListValue). v.born) is, are.early at low);
    longer = omega arith;
  } where
    front : (P : ℕ → Type 0) (xs : List ℕ) (x : ℕ) → All P (xs ++ x ∷ []) → All P xs
    front P xs x all = All-from_get_or P xs 0 (λ i within. subst P (get_or_append_left xs (x ∷ []) 0 i within)
        (All-get_or P (xs ++ x ∷ []) i 0 (omega (arith, within, length-append xs (x ∷ []))) all))

  -- how often it is wanted, at least
  pub wanted_next : AreLists leaf (at ∷ rest) lists → 0 < known.wanted
  wanted_next are = omega (arith, ap (λ (v : ListValue). v.wanted) is, are.want at low, sum_by-cons (λ (l : ℕ). cond (nat_eq l at) 1 0) at rest, same_counts at)

  -- an item is admitted in the list that is wanted next
  pub admit_step : AreLists leaf (at ∷ rest) lists → new ≡ appended known (length leaf) → AreLists (leaf ++ at ∷ []) rest (set lists at new)
  admit_step are e =
      let more : new.items ≡ items_from 0 leaf at ++ length leaf ∷ [] =
      ap (λ (v : ListValue). v.items) e ∙ ap (λ (v : ListValue). v.items ++ length leaf ∷ []) is
      ∙ ap (λ (s : List ℕ). s ++ length leaf ∷ []) (are.have at low) in
      let number : 0 + length leaf ≡ length leaf = omega arith in
      lists_step leaf (leaf ++ at ∷ []) (at ∷ rest) rest lists at new low are record {
        has = more
            ∙ sym (items_from-append 0 leaf (at ∷ []) at ∙ ap (λ (b : Bool). items_from 0 leaf at ++ cond b ((0 + length leaf) ∷ []) []) (eq-eqb at at refl)
            ∙ ap (λ (n : ℕ). items_from 0 leaf at ++ n ∷ []) number);
        wants = omega (
          arith,
          ap (λ (v : ListValue). v.wanted) e,
          ap (λ (v : ListValue). v.wanted) is,
          are.want at low,
          sum_by-cons (λ (l : ℕ). cond (nat_eq l at) 1 0) at rest,
          same_counts at,
        );
        other_items = λ l other. items_from-append 0 leaf (at ∷ []) l
            ∙ ap (λ (b : Bool). items_from 0 leaf l ++ cond b ((0 + length leaf) ∷ []) []) (ne_eqb at l (λ same. other (sym same)))
            ∙ append-nil (items_from 0 leaf l);
        other_wants = λ l other. omega (arith, sum_by-cons (λ (k : ℕ). cond (nat_eq k l) 1 0) at rest, other_counts l at other);
        placed' = All-push (λ (l : ℕ). l < length lists) leaf at are.placed low;
        aimed' = All-tail (λ (l : ℕ). l < length lists) at rest are.aimed;
        early' = omega (arith, ap (λ (v : ListValue). v.born) e, ap (λ (v : ListValue). v.born) is, are.early at low, length-append leaf (at ∷ []));
        longer = omega (arith, length-append leaf (at ∷ []));
      }

-- the same lists, otherwise written
pub lists_same : (leaf leaf' ready ready' : List ℕ) (lists lists' : List ListValue) → leaf' ≡ leaf → ready' ≡ ready → lists' ≡ lists
    → AreLists leaf ready lists → AreLists leaf' ready' lists'
lists_same leaf leaf' ready ready' lists lists' e f g are =
    let P : List ℕ → Type 0 = λ x. AreLists x ready lists in
    let Q : List ℕ → Type 0 = λ x. AreLists leaf' x lists in
    let R : List ListValue → Type 0 = λ x. AreLists leaf' ready' x in
    subst R (sym g) (subst Q (sym f) (subst P (sym e) are))

-- a value by its parts
pub value_same : (leaf leaf' born born' ready ready' : List ℕ) (rooms rooms' : ℕ) → leaf ≡ leaf' → born ≡ born' → ready ≡ ready' → rooms ≡ rooms'
    → value_with leaf born ready rooms ≡ value_with leaf' born' ready' rooms'
value_same leaf leaf' born born' ready ready' rooms rooms' e f g h =
    ap (λ (x : List ℕ). value_with x born ready rooms) e ∙ ap (λ (x : List ℕ). value_with leaf' x ready rooms) f
    ∙ ap (λ (x : List ℕ). value_with leaf' born' x rooms) g ∙ ap (λ (x : ℕ). value_with leaf' born' ready' x) h

-- how many are wanted of a list: no more than are ready
pub wanted_few : (leaf ready : List ℕ) (lists : List ListValue) (at : ℕ) (known : ListValue) → at < length lists → known ≡ list_at lists at
    → AreLists leaf ready lists → known.wanted ≤ length ready
wanted_few leaf ready lists at known low is are =
    omega (arith, ap (λ (v : ListValue). v.wanted) is, are.want at low, count_by-le-length (λ (l : ℕ). nat_eq l at) ready)

-- births by number
pub births_at : (lists : List ListValue) (at : ℕ) → at < length lists → get_or (births lists) at 0 ≡ (list_at lists at).born
births_at lists at low = get_or-map (λ (v : ListValue). v.born) lists at no_list 0 low

pub births_early : (leaf ready : List ℕ) (lists : List ListValue) → AreLists leaf ready lists → All (λ b. b ≤ length leaf) (births lists)
births_early leaf ready lists are = All-from_get_or (λ (b : ℕ). b ≤ length leaf) (births lists) 0
    (λ i low. let within : i < length lists = omega (arith, low, length-map lists (λ (v : ListValue). v.born)) in
    omega (arith, births_at lists i within, are.early i within))

-- a list that is ready is one that there is
pub last_low : (leaf rest : List ℕ) (lists : List ListValue) (at : ℕ) → AreLists leaf (rest ++ at ∷ []) lists → at < length lists
last_low leaf rest lists at are =
    let here : get_or (rest ++ at ∷ []) (length rest) 0 ≡ at = get_or_at rest at [] 0 (length rest) refl in
    let low : get_or (rest ++ at ∷ []) (length rest) 0 < length lists = are.aimed (length rest) 0 (omega (arith, length-append rest (at ∷ []))) in
    omega (arith, here, low)

pub next_low : (leaf rest : List ℕ) (lists : List ListValue) (at : ℕ) → AreLists leaf (at ∷ rest) lists → at < length lists
next_low leaf rest lists at are = are.aimed 0 0 (omega arith)
