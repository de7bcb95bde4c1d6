-- Nodes by their paths, and what becomes of them when a node is given children or a list.
use Rattle.std.proofs.Common.{◌≡◌, ◌≢◌, ◌⊎◌, ℕ, zero, suc, ◌+◌, ◌-◌, ◌<◌, ◌≤◌, inl, inr, Bool, true, false, cond, List, [], ◌∷◌, ◌++◌, length, take, Some, None, Option, ap, ◌∙◌, sym, refl, arith, nat_lt}
use Rattle.std.specs.Prelude.{option_and_then, All}
use Rattle.std.specs.Option.{option_map_or}
use Rattle.std.proofs.lemmas.Bool.{cases_eq, cases_lt, lt-ltb, le-ltb}
use Rattle.std.proofs.lemmas.List.{get_or_past}
use Rattle.std.proofs.lemmas.List.Elements.{All-nil, All-cons}
use Rattle.leaf_shape.specs.declared.node.Node.{Node}
use Rattle.leaf_shape.specs.Tables.{HasChildren, HasChildrenAt, IsTree, bare, list_at, missing, node, node_at}

-- ---- one step
pub some_is : {X : Type 0} (x y : X) → Some x ≡ Some y → x ≡ y
some_is x y e = cc

pub none_is : {X : Type 0} (x : X) → None ≡ Some x → ⊥
none_is x e = cc

pub node_step : (nodes : List Node) (i g first : ℕ) (path : List ℕ) → g < 8 → (node nodes i).below ≡ Some first
    → node_at nodes i (g ∷ path) ≡ node_at nodes (first + g) path
node_step nodes i g first path low is =
    ap (λ b. cond b (option_and_then (λ f. node_at nodes (f + g) path) (node nodes i).below) None) (lt-ltb g 8 low)
    ∙ ap (option_and_then (λ f. node_at nodes (f + g) path)) is

pub no_step : (nodes : List Node) (i g : ℕ) (path : List ℕ) → (node nodes i).below ≡ None → node_at nodes i (g ∷ path) ≡ None
no_step nodes i g path is = ap (λ o. cond (nat_lt g 8) (option_and_then (λ f. node_at nodes (f + g) path) o) None) is ∙ both (nat_lt g 8)
  where
    both : (b : Bool) → ◌≡◌ {A = Option ℕ} (cond b None None) None
    both true = refl
    both false = refl

past_octants : (nodes : List Node) (i g : ℕ) (path : List ℕ) → 8 ≤ g → node_at nodes i (g ∷ path) ≡ None
past_octants nodes i g path high = ap (λ b. cond b (option_and_then (λ f. node_at nodes (f + g) path) (node nodes i).below) None) (le-ltb g 8 high)

-- the first step of a path that leads to a node
pub record IsStep (nodes : List Node) (i g : ℕ) (path : List ℕ) (j : ℕ) : Type 0 where
  pub first : ℕ
  pub octant : g < 8
  pub below : (node nodes i).below ≡ Some first
  pub rest : node_at nodes (first + g) path ≡ Some j

pub step_from : (nodes : List Node) (i g : ℕ) (path : List ℕ) (j : ℕ) → node_at nodes i (g ∷ path) ≡ Some j → IsStep nodes i g path j
step_from nodes i g path j e = elim (cases_lt g 8) [
  | inl low ↦ of_below (node nodes i).below refl low
  | inr high ↦ absurd (none_is j (sym (past_octants nodes i g path high) ∙ e))
]
  where
    of_below : (o : Option ℕ) → (node nodes i).below ≡ o → g < 8 → IsStep nodes i g path j
    of_below None is low = absurd (none_is j (sym (no_step nodes i g path is) ∙ e))
    of_below (Some first) is low = record { first = first; octant = low; below = is; rest = sym (node_step nodes i g first path low is) ∙ e }

-- ---- longer paths
pub at_append : (nodes : List Node) (i : ℕ) (path rest : List ℕ) (j : ℕ) → node_at nodes i path ≡ Some j → node_at nodes i (path ++ rest) ≡ node_at nodes j rest
at_append nodes i [] rest j e = ap (λ k. node_at nodes k rest) (some_is i j e)
at_append nodes i (g ∷ path) rest j e =
    let s : IsStep nodes i g path j = step_from nodes i g path j e in
    node_step nodes i g s.first (path ++ rest) s.octant s.below ∙ at_append nodes (s.first + g) path rest j s.rest

-- a node on the way to another one
pub record IsOnTheWay (nodes : List Node) (i : ℕ) (path rest : List ℕ) (k : ℕ) : Type 0 where
  pub number : ℕ
  pub at : node_at nodes i path ≡ Some number
  pub on : node_at nodes number rest ≡ Some k

pub on_the_way : (nodes : List Node) (i : ℕ) (path rest : List ℕ) (k : ℕ) → node_at nodes i (path ++ rest) ≡ Some k → IsOnTheWay nodes i path rest k
on_the_way nodes i [] rest k e = record { number = i; at = refl; on = e }
on_the_way nodes i (g ∷ path) rest k e =
    let s : IsStep nodes i g (path ++ rest) k = step_from nodes i g (path ++ rest) k e in
    let w : IsOnTheWay nodes (s.first + g) path rest k = on_the_way nodes (s.first + g) path rest k s.rest in
    record { number = w.number; at = node_step nodes i g s.first path s.octant s.below ∙ w.at; on = w.on }

pub within : (nodes : List Node) (i : ℕ) (path : List ℕ) (j : ℕ) → IsTree nodes → i < length nodes → node_at nodes i path ≡ Some j → j < length nodes
within nodes i [] j tree low e = let same : i ≡ j = some_is i j e in omega arith
within nodes i (g ∷ path) j tree low e =
    let s : IsStep nodes i g path j = step_from nodes i g path j e in
    within nodes (s.first + g) path j tree (omega (arith, tree.eight i s.first s.below, s.octant)) s.rest

pub octants_below : (nodes : List Node) (i : ℕ) (path : List ℕ) (j : ℕ) → node_at nodes i path ≡ Some j → All (λ g. g < 8) path
octants_below nodes i [] j e = All-nil (λ g. g < 8)
octants_below nodes i (g ∷ path) j e =
    let s : IsStep nodes i g path j = step_from nodes i g path j e in
    All-cons (λ g. g < 8) g path s.octant (octants_below nodes (s.first + g) path j s.rest)

-- ---- missing nodes
pub missing_step : (nodes : List Node) (i g first : ℕ) (path : List ℕ) → (node nodes i).below ≡ Some first
    → missing nodes i (g ∷ path) ≡ missing nodes (first + g) path
missing_step nodes i g first path is = ap (λ o. option_map_or (λ f. missing nodes (f + g) path) o (length path + 1)) is

pub missing_all : (nodes : List Node) (i g : ℕ) (path : List ℕ) → (node nodes i).below ≡ None → missing nodes i (g ∷ path) ≡ length path + 1
missing_all nodes i g path is = ap (λ o. option_map_or (λ f. missing nodes (f + g) path) o (length path + 1)) is

pub few_missing : (nodes : List Node) (i : ℕ) (path : List ℕ) → missing nodes i path ≤ length path
few_missing nodes i [] = omega arith
few_missing nodes i (g ∷ path) = of_below (node nodes i).below refl (λ k. few_missing nodes k path)
  where
    of_below : (o : Option ℕ) → (node nodes i).below ≡ o → ((k : ℕ) → missing nodes k path ≤ length path) → missing nodes i (g ∷ path) ≤ length (g ∷ path)
    of_below None is rest = omega (arith, missing_all nodes i g path is)
    of_below (Some first) is rest = omega (arith, missing_step nodes i g first path is, rest (first + g))

-- of a path whose first octants lead to a node only the later ones can be missing
pub missing_behind : (nodes : List Node) (i steps : ℕ) (path : List ℕ) (j : ℕ)
    → node_at nodes i (take steps path) ≡ Some j → missing nodes i path ≤ length path - steps
missing_behind nodes i zero path j e = omega (arith, few_missing nodes i path)
missing_behind nodes i (suc steps) [] j e = omega arith
missing_behind nodes i (suc steps) (g ∷ path) j e =
    let s : IsStep nodes i g (take steps path) j = step_from nodes i g (take steps path) j e in
    omega (arith, missing_step nodes i g s.first path s.below, missing_behind nodes (s.first + g) steps path j s.rest)

-- ---- a node with children
-- a path to one of the new nodes
pub record IsMade (old : List Node) (n i : ℕ) (path : List ℕ) (j : ℕ) : Type 0 where
  pub way : List ℕ
  pub octant : ℕ
  pub is : path ≡ way ++ octant ∷ []
  pub at : node_at old i way ≡ Some n
  pub low : octant < 8
  pub number : j ≡ length old + octant

-- a node as before
pub record IsOld (old : List Node) (i : ℕ) (path : List ℕ) (j : ℕ) : Type 0 where
  pub at : node_at old i path ≡ Some j
  pub low : j < length old

module _ (old new : List Node) (n first : ℕ) (tree : IsTree old) (has : HasChildren old new n first) where
  below_of_same : (i j : ℕ) (nodes : List Node) → i ≡ j → (node nodes i).below ≡ (node nodes j).below
  below_of_same i j nodes same = ap (λ k. (node nodes k).below) same

  pub kept_below : (i f : ℕ) → i < length old → (node old i).below ≡ Some f → (node new i).below ≡ Some f
  kept_below i f low is = elim (cases_eq i n) [
    | inl same ↦ here same has.made
    | inr other ↦ ap (λ (m : Node). m.below) (has.others i other low) ∙ is
  ]
    where
      here : i ≡ n → ((node old n).below ≡ Some first) ⊎ ((node old n).below ≡ None) × (first ≡ length old) → (node new i).below ≡ Some f
      here same (inl had) = below_of_same i n new same ∙ has.below ∙ sym had ∙ sym (below_of_same i n old same) ∙ is
      here same (inr had) = absurd (none_is f (sym had.0 ∙ sym (below_of_same i n old same) ∙ is))

  pub kept_nodes : (i : ℕ) (path : List ℕ) (j : ℕ) → i < length old → node_at old i path ≡ Some j → node_at new i path ≡ Some j
  kept_nodes i [] j low e = e
  kept_nodes i (g ∷ path) j low e =
      let s : IsStep old i g path j = step_from old i g path j e in
      node_step new i g s.first path s.octant (kept_below i s.first low s.below)
      ∙ kept_nodes (s.first + g) path j (omega (arith, tree.eight i s.first s.below, s.octant)) s.rest

  -- a node that had no children and has some now is the one that was given them
  record IsGiven (i f : ℕ) : Type 0 where
    same : i ≡ n
    first_is : f ≡ first
    made : first ≡ length old

  given : (i f : ℕ) → i < length old → (node old i).below ≡ None → (node new i).below ≡ Some f → IsGiven i f
  given i f low none is = elim (cases_eq i n) [
    | inl same ↦ here same has.made
    | inr other ↦ absurd (none_is f (sym none ∙ sym (ap (λ (m : Node). m.below) (has.others i other low)) ∙ is))
  ]
    where
      here : i ≡ n → ((node old n).below ≡ Some first) ⊎ ((node old n).below ≡ None) × (first ≡ length old) → IsGiven i f
      here same (inl had) = absurd (none_is first (sym none ∙ below_of_same i n old same ∙ had))
      here same (inr had) = record { same = same; first_is = some_is f first (sym is ∙ below_of_same i n new same ∙ has.below); made = had.1 }

  -- a new node has no children
  fresh_below : (j : ℕ) → length old ≤ j → (node new j).below ≡ None
  fresh_below j past = ap (λ (m : Node). m.below) (has.fresh j past)

  new_end : (i g f : ℕ) (path : List ℕ) (j : ℕ) → IsGiven i f → g < 8 → node_at new (f + g) path ≡ Some j → IsMade old n i (g ∷ path) j
  new_end i g f [] j given low e = record {
    way = [];
    octant = g;
    is = refl;
    at = ap Some given.same;
    low = low;
    number = let is : f + g ≡ j = some_is (f + g) j e in omega (arith, given.first_is, given.made);
  }
  new_end i g f (h ∷ path) j given low e =
      let past : length old ≤ f + g = omega (arith, given.first_is, given.made) in
      absurd (none_is j (sym (no_step new (f + g) h path (fresh_below (f + g) past)) ∙ e))

  pub came : (i : ℕ) (path : List ℕ) (j : ℕ) → i < length old → node_at new i path ≡ Some j → IsOld old i path j ⊎ IsMade old n i path j
  came i [] j low e = inl record { at = e; low = let is : i ≡ j = some_is i j e in omega arith }
  came i (g ∷ path) j low e =
      let s : IsStep new i g path j = step_from new i g path j e in
      of_below s (node old i).below refl (λ k low e. came k path j low e)
    where
      further : (f : ℕ) → (node old i).below ≡ Some f → g < 8 → IsOld old (f + g) path j ⊎ IsMade old n (f + g) path j
          → IsOld old i (g ∷ path) j ⊎ IsMade old n i (g ∷ path) j
      further f is octant (inl o) = inl record { at = node_step old i g f path octant is ∙ o.at; low = o.low }
      further f is octant (inr m) = inr record {
        way = g ∷ m.way;
        octant = m.octant;
        is = ap (λ (q : List ℕ). g ∷ q) m.is;
        at = node_step old i g f m.way octant is ∙ m.at;
        low = m.low;
        number = m.number;
      }

      of_below : IsStep new i g path j → (o : Option ℕ) → (node old i).below ≡ o
          → ((k : ℕ) → k < length old → node_at new k path ≡ Some j → IsOld old k path j ⊎ IsMade old n k path j)
          → IsOld old i (g ∷ path) j ⊎ IsMade old n i (g ∷ path) j
      of_below s None none on = inr (new_end i g s.first path j (given i s.first low none s.below) s.octant s.rest)
      of_below s (Some f) is on =
          let same : f ≡ s.first = some_is f s.first (sym (kept_below i f low is) ∙ s.below) in
          let rest : node_at new (f + g) path ≡ Some j = ap (λ k. node_at new (k + g) path) same ∙ s.rest in
          further f is s.octant (on (f + g) (omega (arith, tree.eight i f is, s.octant)) rest)

  pub tree_with_children : IsTree new
  tree_with_children = record {
    some = omega (arith, tree.some, has.longer);
    eight = room;
    single = λ path other i e e'. one path other i (came 0 path i tree.some e) (came 0 other i tree.some e');
  }
    where
      in_old : (i f : ℕ) → i < length old → (node new i).below ≡ Some f → (o : Option ℕ) → (node old i).below ≡ o → f + 8 ≤ length new
      in_old i f low is None none = let g : IsGiven i f = given i f low none is in omega (arith, g.first_is, has.eight)
      in_old i f low is (Some k) had = let same : k ≡ f = some_is k f (sym (kept_below i k low had) ∙ is) in omega (arith, tree.eight i k had, has.longer)

      room : (i f : ℕ) → (node new i).below ≡ Some f → f + 8 ≤ length new
      room i f is = elim (cases_lt i (length old)) [
        | inl low ↦ in_old i f low is (node old i).below refl
        | inr past ↦ absurd (none_is f (sym (fresh_below i past) ∙ is))
      ]

      one : (path other : List ℕ) (i : ℕ) → IsOld old 0 path i ⊎ IsMade old n 0 path i → IsOld old 0 other i ⊎ IsMade old n 0 other i → path ≡ other
      one path other i (inl o) (inl p) = tree.single path other i o.at p.at
      one path other i (inl o) (inr m) = absurd (omega (arith, o.low, m.number))
      one path other i (inr m) (inl o) = absurd (omega (arith, o.low, m.number))
      one path other i (inr m) (inr k) =
          let octant : m.octant ≡ k.octant = omega (arith, m.number, k.number) in
          let way : m.way ≡ k.way = tree.single m.way k.way n m.at k.at in
          m.is ∙ ap (λ (q : List ℕ). q ++ m.octant ∷ []) way ∙ ap (λ g. k.way ++ g ∷ []) octant ∙ sym k.is

  list_stays : (i : ℕ) → i < length old → (node new i).list ≡ (node old i).list
  list_stays i low = elim (cases_eq i n) [
    | inl same ↦ ap (λ k. (node new k).list) same ∙ has.list ∙ sym (ap (λ k. (node old k).list) same)
    | inr other ↦ ap (λ (m : Node). m.list) (has.others i other low)
  ]

  pub lists_with_children : (path : List ℕ) → list_at new path ≡ list_at old path
  lists_with_children path = of_old (node_at old 0 path) refl
    where
      of_new : (o : Option ℕ) → node_at new 0 path ≡ o → node_at old 0 path ≡ None → option_and_then (λ i. (node new i).list) o ≡ None
      of_new None is none = refl
      of_new (Some j) is none = elim (came 0 path j tree.some is) [
        | inl o ↦ absurd (none_is j (sym none ∙ o.at))
        | inr m ↦ ap (λ (k : Node). k.list) (has.fresh j (omega (arith, m.number)))
      ]

      of_old : (o : Option ℕ) → node_at old 0 path ≡ o → list_at new path ≡ list_at old path
      of_old None none = of_new (node_at new 0 path) refl none ∙ sym (ap (option_and_then (λ i. (node old i).list)) none)
      of_old (Some j) is =
          ap (option_and_then (λ i. (node new i).list)) (kept_nodes 0 path j tree.some is) ∙ list_stays j (within old 0 path j tree tree.some is)
          ∙ sym (ap (option_and_then (λ i. (node old i).list)) is)

  -- a node with children had some, or is the one that was given them
  pub children_there : (path : List ℕ) → HasChildrenAt new path → HasChildrenAt old path ⊎ (node_at old 0 path ≡ Some n)
  children_there path h = elim (came 0 path h.number tree.some h.at) [
    | inl o ↦ of_old o (node old h.number).below refl
    | inr m ↦ absurd (none_is h.first (sym (fresh_below h.number (omega (arith, m.number))) ∙ h.below))
  ]
    where
      of_old : IsOld old 0 path h.number → (o : Option ℕ) → (node old h.number).below ≡ o → HasChildrenAt old path ⊎ (node_at old 0 path ≡ Some n)
      of_old p None none = inr (p.at ∙ ap Some (given h.number h.first p.low none h.below).same)
      of_old p (Some f) is = inl record { number = h.number; first = f; at = p.at; below = is }

  -- no more nodes are missing than before
  pub missing_falls : (i : ℕ) (path : List ℕ) → i < length old → missing new i path ≤ missing old i path
  missing_falls i [] low = omega arith
  missing_falls i (g ∷ path) low = of_below (node old i).below refl (λ k below. missing_falls k path below)
    where
      past_missing : (j : ℕ) (q : List ℕ) → length old ≤ j → missing new j q ≤ missing old j q
      past_missing j [] past = omega arith
      past_missing j (h ∷ q) past =
          let none : (node old j).below ≡ None = ap (λ (m : Node). m.below) (get_or_past old j bare past) in
          omega (arith, missing_all old j h q none, few_missing new j (h ∷ q))

      of_below : (o : Option ℕ) → (node old i).below ≡ o → ((k : ℕ) → k < length old → missing new k path ≤ missing old k path)
          → missing new i (g ∷ path) ≤ missing old i (g ∷ path)
      of_below None none rest = omega (arith, missing_all old i g path none, few_missing new i (g ∷ path))
      of_below (Some f) is rest = elim (cases_lt (f + g) (length old)) [
        | inl below ↦ omega (arith, missing_step old i g f path is, missing_step new i g f path (kept_below i f low is), rest (f + g) below)
        | inr past ↦ omega (arith, missing_step old i g f path is, missing_step new i g f path (kept_below i f low is), past_missing (f + g) path past)
      ]

-- ---- a node with a list
pub record HasList (old new : List Node) (i list : ℕ) : Type 0 where
  pub len : length new ≡ length old
  pub below : (j : ℕ) → (node new j).below ≡ (node old j).below
  pub noted : (node new i).list ≡ Some list
  pub others : (j : ℕ) → j ≢ i → (node new j).list ≡ (node old j).list

module _ (old new : List Node) (n list : ℕ) (has : HasList old new n list) where
  pub same_nodes : (i : ℕ) (path : List ℕ) → node_at new i path ≡ node_at old i path
  same_nodes i [] = refl
  same_nodes i (g ∷ path) = elim (cases_lt g 8) [
    | inl low ↦ of_below low (node old i).below refl (λ k. same_nodes k path)
    | inr high ↦ past_octants new i g path high ∙ sym (past_octants old i g path high)
  ]
    where
      of_below : g < 8 → (o : Option ℕ) → (node old i).below ≡ o → ((k : ℕ) → node_at new k path ≡ node_at old k path)
          → node_at new i (g ∷ path) ≡ node_at old i (g ∷ path)
      of_below low None none rest = no_step new i g path (has.below i ∙ none) ∙ sym (no_step old i g path none)
      of_below low (Some f) is rest = node_step new i g f path low (has.below i ∙ is) ∙ rest (f + g) ∙ sym (node_step old i g f path low is)

  pub tree_with_list : IsTree old → IsTree new
  tree_with_list tree = record {
    some = omega (arith, tree.some, has.len);
    eight = λ i f is. omega (arith, has.len, tree.eight i f (sym (has.below i) ∙ is));
    single = λ path other i e e'. tree.single path other i (sym (same_nodes 0 path) ∙ e) (sym (same_nodes 0 other) ∙ e');
  }

  pub list_here : (path : List ℕ) → node_at old 0 path ≡ Some n → list_at new path ≡ Some list
  list_here path at = ap (option_and_then (λ i. (node new i).list)) (same_nodes 0 path ∙ at) ∙ has.noted

  pub lists_elsewhere : (path other : List ℕ) → IsTree old → node_at old 0 path ≡ Some n → other ≢ path → list_at new other ≡ list_at old other
  lists_elsewhere path other tree at ne = of_node (node_at old 0 other) refl
    where
      of_node : (o : Option ℕ) → node_at old 0 other ≡ o → list_at new other ≡ list_at old other
      of_node None none = ap (option_and_then (λ i. (node new i).list)) (same_nodes 0 other ∙ none) ∙ sym (ap (option_and_then (λ i. (node old i).list)) none)
      of_node (Some j) is =
          ap (option_and_then (λ i. (node new i).list)) (same_nodes 0 other ∙ is)
          ∙ has.others j (λ (same : j ≡ n). ne (tree.single other path n (is ∙ ap Some same) at))
          ∙ sym (ap (option_and_then (λ i. (node old i).list)) is)
