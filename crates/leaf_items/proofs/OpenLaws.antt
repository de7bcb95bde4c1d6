-- What lists have once the items of one of them went to new ones.
use Rattle.std.proofs.Common.{◌≡◌, ◌≢◌, ◌∙◌, ℕ, suc, ◌+◌, ◌-◌, ◌<◌, ◌≤◌, inl, inr, Bool, true, false, cond, nat_eq, List, [], ◌∷◌, ◌++◌, length, get_or, set, replicate, ap, sym, refl, arith, subst}
use Rattle.std.specs.Prelude.{All}
use Rattle.std.proofs.lemmas.Bool.{cases_eq, cases_lt, eq-eqb, eqb-true, ne_eqb}
use Rattle.std.proofs.lemmas.List.{get_or-append_right, get_or-map, get_or-set_other, get_or-set_same, get_or_append_left, length-append, length-map, length-set, map-append, nil_from_length}
use Rattle.std.proofs.lemmas.List.Elements.{All-cons, All-head, All-nil, All-tail, All-weaker}
use Rattle.leaf_items.specs.Items.{ItemsValue, items_from}
use Rattle.leaf_items.specs.Kept.{AreLists, births}
use Rattle.leaf_items.specs.Lists.{ListValue, list_at, no_list, opened_lists}
use Rattle.leaf_items.specs.Openings.{AreDealt, ArePicked, PartsValue, moved, picked}
use Rattle.leaf_items.proofs.ListLaws.{births_set, counted}
use Rattle.leaf_items.proofs.MoveLaws.{length-moved}

-- a list that is not there yet has no items
none_past : (n first : ℕ) (leaf : List ℕ) (q : ℕ) → All (λ l. l < first) leaf → first ≤ q → items_from n leaf q ≡ []
none_past n first [] q placed past = refl
none_past n first (l ∷ leaf) q placed past =
    let low : l < first = All-head (λ (k : ℕ). k < first) l leaf placed in
    ap (λ (b : Bool). cond b (n ∷ items_from (n + 1) leaf q) (items_from (n + 1) leaf q)) (ne_eqb l q (λ is. omega (arith, is, low, past)))
    ∙ none_past (n + 1) first leaf q (All-tail (λ (k : ℕ). k < first) l leaf placed) past

shifted : (first a j : ℕ) → nat_eq (first + a) (first + j) ≡ nat_eq a j
shifted first a j = elim (cases_eq a j) [
  | inl is ↦ eq-eqb (first + a) (first + j) (ap (λ (k : ℕ). first + k) is) ∙ sym (eq-eqb a j is)
  | inr other ↦ ne_eqb (first + a) (first + j) (λ same. other (omega (arith, same))) ∙ sym (ne_eqb a j other)
]

new_cons : (b : Bool) (n q l v a j : ℕ) (aims M N I : List ℕ) → nat_eq v q ≡ nat_eq a j → nat_eq l q ≡ false
    → items_from (n + 1) M q ≡ picked j aims I → items_from (n + 1) N q ≡ picked j (a ∷ aims) I
    → items_from n (cond b (v ∷ M) (l ∷ N)) q ≡ picked j (a ∷ aims) (cond b (n ∷ I) I)
new_cons true n q l v a j aims M N I here other e f =
    ap (λ (t : Bool). cond t (n ∷ items_from (n + 1) M q) (items_from (n + 1) M q)) here ∙ ap (λ (r : List ℕ). cond (nat_eq a j) (n ∷ r) r) e
new_cons false n q l v a j aims M N I here other e f =
    ap (λ (t : Bool). cond t (n ∷ items_from (n + 1) N q) (items_from (n + 1) N q)) other ∙ f

-- a new list has the items that aim at it
pub moved_new : (first list n j : ℕ) (leaf aims : List ℕ) → All (λ l. l < first) leaf
    → items_from n (moved first list leaf aims) (first + j) ≡ picked j aims (items_from n leaf list)
moved_new first list n j [] [] placed = refl
moved_new first list n j [] (a ∷ aims) placed = refl
moved_new first list n j (l ∷ leaf) [] placed = none_past n first (l ∷ leaf) (first + j) placed (omega arith)
moved_new first list n j (l ∷ leaf) (a ∷ aims) placed =
    let low : l < first = All-head (λ (k : ℕ). k < first) l leaf placed in
    let rest : All (λ (k : ℕ). k < first) leaf = All-tail (λ (k : ℕ). k < first) l leaf placed in
    new_cons (nat_eq l list) n (first + j) l (first + a) a j aims (moved first list leaf aims) (moved first list leaf (a ∷ aims)) (items_from (n + 1) leaf list)
    (shifted first a j) (ne_eqb l (first + j) (λ is. omega (arith, is, low)))
    (moved_new first list (n + 1) j leaf aims rest) (moved_new first list (n + 1) j leaf (a ∷ aims) rest)

other_cons : (b : Bool) (n q l v : ℕ) (M N R : List ℕ) → nat_eq v q ≡ false → (b ≡ true → nat_eq l q ≡ false)
    → items_from (n + 1) M q ≡ R → items_from (n + 1) N q ≡ R → items_from n (cond b (v ∷ M) (l ∷ N)) q ≡ cond (nat_eq l q) (n ∷ R) R
other_cons true n q l v M N R here other e f =
    ap (λ (t : Bool). cond t (n ∷ items_from (n + 1) M q) (items_from (n + 1) M q)) here ∙ e ∙ sym (ap (λ (t : Bool). cond t (n ∷ R) R) (other refl))
other_cons false n q l v M N R here other e f = ap (λ (r : List ℕ). cond (nat_eq l q) (n ∷ r) r) f

-- another list keeps its items
pub moved_other : (first list n q : ℕ) (leaf aims : List ℕ) → q < first → q ≢ list → items_from n (moved first list leaf aims) q ≡ items_from n leaf q
moved_other first list n q [] aims low other = refl
moved_other first list n q (l ∷ leaf) [] low other = refl
moved_other first list n q (l ∷ leaf) (a ∷ aims) low other =
    other_cons (nat_eq l list) n q l (first + a) (moved first list leaf aims) (moved first list leaf (a ∷ aims)) (items_from (n + 1) leaf q)
    (ne_eqb (first + a) q (λ is. omega (arith, is, low)))
    (λ here. ne_eqb l q (λ is. other (sym is ∙ eqb-true l list here)))
    (moved_other first list (n + 1) q leaf aims low other) (moved_other first list (n + 1) q leaf (a ∷ aims) low other)

none_cons : (b : Bool) (n list l v k : ℕ) (M N I : List ℕ) → nat_eq v list ≡ false → nat_eq l list ≡ b
    → (k ≡ length I → items_from (n + 1) M list ≡ []) → (suc k ≡ length I → items_from (n + 1) N list ≡ [])
    → suc k ≡ length (cond b (n ∷ I) I) → items_from n (cond b (v ∷ M) (l ∷ N)) list ≡ []
none_cons true n list l v k M N I here is e f same =
    ap (λ (t : Bool). cond t (n ∷ items_from (n + 1) M list) (items_from (n + 1) M list)) here ∙ e (omega (arith, same))
none_cons false n list l v k M N I here is e f same =
    ap (λ (t : Bool). cond t (n ∷ items_from (n + 1) N list) (items_from (n + 1) N list)) is ∙ f same

-- the list has no items any more
pub moved_none : (first list n : ℕ) (leaf aims : List ℕ) → list < first → length aims ≡ length (items_from n leaf list)
    → items_from n (moved first list leaf aims) list ≡ []
moved_none first list n [] aims low same = refl
moved_none first list n (l ∷ leaf) [] low same = nil_from_length (items_from n (l ∷ leaf) list) (sym same)
moved_none first list n (l ∷ leaf) (a ∷ aims) low same =
    none_cons (nat_eq l list) n list l (first + a) (length aims) (moved first list leaf aims) (moved first list leaf (a ∷ aims)) (items_from (n + 1) leaf list)
    (ne_eqb (first + a) list (λ is. omega (arith, is, low))) refl
    (λ few. moved_none first list (n + 1) leaf aims low few) (λ few. moved_none first list (n + 1) leaf (a ∷ aims) low few) same

all_cons : (P : ℕ → Type 0) (b : Bool) (v l : ℕ) (M N : List ℕ) → P v → P l → All P M → All P N → All P (cond b (v ∷ M) (l ∷ N))
all_cons P true v l M N here there m n = All-cons P v M here m
all_cons P false v l M N here there m n = All-cons P l N there n

-- each item is in a list that there is then
pub moved_placed : (first list count : ℕ) (leaf aims : List ℕ) → All (λ l. l < first) leaf → All (λ a. a < count) aims
    → All (λ l. l < first + count) (moved first list leaf aims)
moved_placed first list count [] aims placed within = All-nil (λ (l : ℕ). l < first + count)
moved_placed first list count (l ∷ leaf) [] placed within =
    All-weaker (λ (k : ℕ). k < first) (λ (k : ℕ). k < first + count) (λ k low. omega (arith, low)) (l ∷ leaf) placed
moved_placed first list count (l ∷ leaf) (a ∷ aims) placed within =
    let low : l < first = All-head (λ (k : ℕ). k < first) l leaf placed in
    let aim_low : a < count = All-head (λ (k : ℕ). k < count) a aims within in
    let rest : All (λ (k : ℕ). k < first) leaf = All-tail (λ (k : ℕ). k < first) l leaf placed in
    all_cons (λ (k : ℕ). k < first + count) (nat_eq l list) (first + a) l (moved first list leaf aims) (moved first list leaf (a ∷ aims))
    (omega (arith, aim_low)) (omega (arith, low))
    (moved_placed first list count leaf aims rest (All-tail (λ (k : ℕ). k < count) a aims within))
    (moved_placed first list count leaf (a ∷ aims) rest within)

births_new : (born : ℕ) (parts : List (List ℕ)) → births (opened_lists born parts) ≡ replicate (length parts) born
births_new born [] = refl
births_new born (p ∷ parts) = ap (λ (s : List ℕ). born ∷ s) (births_new born parts)

-- a list without its items
abbrev pub emptied : ListValue → ListValue
emptied list = record list { items = [] }

pub births_opened : (lists : List ListValue) (list born : ℕ) (parts : List (List ℕ)) → list < length lists
    → births (set lists list (emptied (list_at lists list)) ++ opened_lists born parts) ≡ births lists ++ replicate (length parts) born
births_opened lists list born parts low =
    map-append (λ (v : ListValue). v.born) (set lists list (emptied (list_at lists list))) (opened_lists born parts)
    ∙ ap (λ (s : List ℕ). s ++ births (opened_lists born parts)) (births_set lists list (emptied (list_at lists list)) low refl)
    ∙ ap (λ (s : List ℕ). births lists ++ s) (births_new born parts)

module _ (leaf aims : List ℕ) (lists : List ListValue) (list : ℕ) (parts : List (List ℕ)) (low : list < length lists) where
  abbrev pub old : List ListValue
  old = set lists list (emptied (list_at lists list))

  abbrev pub new : List ListValue
  new = opened_lists (length leaf) parts

  known : (q : ℕ) → q < length lists → list_at (old ++ new) q ≡ list_at old q
  known q q_low = get_or_append_left old new no_list q (subst (λ (k : ℕ). q < k) (sym (length-set lists list (emptied (list_at lists list)))) q_low)

  here : (q : ℕ) → q < length lists → q ≡ list → list_at (old ++ new) q ≡ emptied (list_at lists list)
  here q q_low is = known q q_low ∙ ap (list_at old) is ∙ get_or-set_same lists list (emptied (list_at lists list)) no_list low

  there : (q : ℕ) → q < length lists → q ≢ list → list_at (old ++ new) q ≡ list_at lists q
  there q q_low other = known q q_low ∙ get_or-set_other lists list q (emptied (list_at lists list)) no_list other

  behind : (q : ℕ) → length lists ≤ q → q < length (old ++ new)
      → list_at (old ++ new) q ≡ record { born = length leaf; wanted = 0; items = get_or parts (q - length lists) [] }
  behind q past within =
      let same : length old ≡ length lists = length-set lists list (emptied (list_at lists list)) in
      let many : length new ≡ length parts = length-map parts (λ (items : List ℕ). record { born = length leaf; wanted = 0; items = items }) in
      let place : q - length lists < length parts = omega (arith, past, within, length-append old new, same, many) in
      get_or-append_right old new (length lists) q no_list same past
      ∙ get_or-map (λ (items : List ℕ). record { born = length leaf; wanted = 0; items = items }) parts (q - length lists) [] no_list place

  pub lists_opened : AreLists leaf [] lists → ArePicked (items_from 0 leaf list) aims parts → AreLists (moved (length lists) list leaf aims) [] (old ++ new)
  lists_opened are dealt =
      let same : length old ≡ length lists = length-set lists list (emptied (list_at lists list)) in
      let many : length new ≡ length parts = length-map parts (λ (items : List ℕ). record { born = length leaf; wanted = 0; items = items }) in
      let count : length (old ++ new) ≡ length lists + length parts = length-append old new ∙ omega (arith, same, many) in
      record {
        have = λ q within. elim (cases_lt q (length lists)) [
          | inl q_low ↦ elim (cases_eq q list) [
            | inl is ↦ ap (λ (v : ListValue). v.items) (here q q_low is) ∙ sym (moved_none (length lists) list 0 leaf aims low dealt.many)
                ∙ ap (items_from 0 (moved (length lists) list leaf aims)) (sym is)
            | inr other ↦ ap (λ (v : ListValue). v.items) (there q q_low other) ∙ are.have q q_low
                ∙ sym (moved_other (length lists) list 0 q leaf aims q_low other)
          ]
          | inr past ↦
              let place : q - length lists < length parts = omega (arith, past, within, count) in
              let at : length lists + (q - length lists) ≡ q = omega (arith, past) in
              ap (λ (v : ListValue). v.items) (behind q past within) ∙ dealt.each (q - length lists) place
              ∙ sym (moved_new (length lists) list 0 (q - length lists) leaf aims are.placed) ∙ ap (items_from 0 (moved (length lists) list leaf aims)) at
        ];
        want = λ q within. elim (cases_lt q (length lists)) [
          | inl q_low ↦ elim (cases_eq q list) [
            | inl is ↦ ap (λ (v : ListValue). v.wanted) (here q q_low is) ∙ are.want list low ∙ ap (λ (k : ℕ). counted k []) (sym is)
            | inr other ↦ ap (λ (v : ListValue). v.wanted) (there q q_low other) ∙ are.want q q_low
          ]
          | inr past ↦ ap (λ (v : ListValue). v.wanted) (behind q past within)
        ];
        placed = subst (λ (k : ℕ). All (λ l. l < k) (moved (length lists) list leaf aims)) (sym count)
            (moved_placed (length lists) list (length parts) leaf aims are.placed dealt.within);
        aimed = All-nil (λ (l : ℕ). l < length (old ++ new));
        early = λ q within. elim (cases_lt q (length lists)) [
          | inl q_low ↦ elim (cases_eq q list) [
            | inl is ↦ omega (arith, ap (λ (v : ListValue). v.born) (here q q_low is), are.early list low, length-moved (length lists) list leaf aims)
            | inr other ↦ omega (arith, ap (λ (v : ListValue). v.born) (there q q_low other), are.early q q_low, length-moved (length lists) list leaf aims)
          ]
          | inr past ↦ omega (arith, ap (λ (v : ListValue). v.born) (behind q past within), length-moved (length lists) list leaf aims)
        ];
      }

-- dealt parts by what is kept of them
pub picked_inside : (value : ItemsValue) (parts : PartsValue) (leaf : List ℕ) (list : ℕ) (aims : List ℕ) (items : List (List ℕ)) → leaf ≡ value.leaf
    → list ≡ parts.list → aims ≡ parts.aims → items ≡ parts.parts → AreDealt value parts → ArePicked (items_from 0 leaf list) aims items
picked_inside value parts leaf list aims items e f g h dealt =
    let P : List ℕ → Type 0 = λ x. ArePicked (items_from 0 x parts.list) parts.aims parts.parts in
    let Q : ℕ → Type 0 = λ x. ArePicked (items_from 0 leaf x) parts.aims parts.parts in
    let R : List ℕ → Type 0 = λ x. ArePicked (items_from 0 leaf list) x parts.parts in
    let S : List (List ℕ) → Type 0 = λ x. ArePicked (items_from 0 leaf list) aims x in
    subst S (sym h) (subst R (sym g) (subst Q (sym f) (subst P (sym e) dealt.picked)))

pub moved_same : (first first' list list' : ℕ) (leaf leaf' aims aims' : List ℕ) → first ≡ first' → list ≡ list' → leaf ≡ leaf' → aims ≡ aims'
    → moved first list leaf aims ≡ moved first' list' leaf' aims'
moved_same first first' list list' leaf leaf' aims aims' e f g h =
    ap (λ (n : ℕ). moved n list leaf aims) e ∙ ap (λ (n : ℕ). moved first' n leaf aims) f ∙ ap (λ (s : List ℕ). moved first' list' s aims) g
    ∙ ap (moved first' list' leaf') h

pub grown_same : (born born' : List ℕ) (n n' k k' : ℕ) → born ≡ born' → n ≡ n' → k ≡ k' → born ++ replicate n k ≡ born' ++ replicate n' k'
grown_same born born' n n' k k' e f g =
    ap (λ (s : List ℕ). s ++ replicate n k) e ∙ ap (λ (m : ℕ). born' ++ replicate m k) f ∙ ap (λ (m : ℕ). born' ++ replicate n' m) g
