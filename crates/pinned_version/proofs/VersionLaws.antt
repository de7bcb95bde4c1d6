-- The rows of versions: which nodes they are of, and what halving finds among them.
use Rattle.std.proofs.Common.{Option, Some, None, IfNone, ◌≡◌, ℕ, ◌+◌, ◌<◌, false, List, [], ◌∷◌, map, length, get_or, AllPairs, refl, sym, ap, ◌∙◌, subst, inl, inr, arith}
use Rattle.std.specs.Cmp.Lexicographic.{slice_cmp}
use Rattle.std.specs.List.{HoldsAt}
use Rattle.std.specs.List.Sorted.{IsNonDecreasingBy, IsPartitionPoint, IsSortedBy}
use Rattle.std.specs.Ordering.{nat_cmp, is_lt, ordering_index, ordering_reverse}
use Rattle.std.specs.declared.cmp.Ordering.{Ordering}
use Rattle.std.specs.declared.cmp.Ordering.TheVariants.{Less, Equal, Greater}
use Rattle.std.proofs.lemmas.Bool.{cases_lt}
use Rattle.std.proofs.lemmas.Cmp.{nat_list_cmp_total, tied_itself}
use Rattle.std.proofs.lemmas.List.{get_or-map, get_or_default, length-map}
use Rattle.std.proofs.lemmas.List.Sorted.{searchable_from_sorted}
use Rattle.std.proofs.lemmas.Map.Lookups.{exact_bytes}
use Rattle.cube_math.specs.declared.config.Config.{Config}
use Rattle.octree_model.specs.Octree.{octree}
use Rattle.octree_model.specs.Outlines.{outline}
use Rattle.octree_model.specs.declared.outline.OutlineNode.{OutlineNode}
use Rattle.record_model.specs.Records.{Record, published}
use Rattle.version_rows.specs.Versions.{ChainsValue}
use Rattle.version_rows.specs.Journals.{IsVersionOf, NodeFacts, facts_of_node, facts_of_row}
use Rattle.pinned_version.specs.Pinned.{AreInPathOrder, IsRowAt, PinnedValue, StandsBefore, version_of}
use Rattle.pinned_version.specs.Rows.{outline_node_of, row_of}
use Rattle.pinned_version.specs.declared.node_row.NodeRow.{NodeRow}
use Rattle.pinned_version.specs.declared.node_row.Role.TheVariants.{Leaf, Inner}
use Rattle.voxel_sampler.specs.Nears.{NearValue}
use Rattle.pinned_version.proofs.PathOrderLaws.{outline_in_order}

-- ---- the nodes of a record's version

-- the node of facts, as an outline has it
node_of : NodeFacts → OutlineNode
node_of f = record { path = f.path; cube = f.cube; inner = f.inner }

nodes_of_rows : (rows : List NodeRow) → map node_of (map facts_of_row (map row_of rows)) ≡ map outline_node_of rows
unfolding node_of
nodes_of_rows [] = refl
nodes_of_rows (r ∷ rows) = ap (λ (l : List OutlineNode). outline_node_of r ∷ l) (nodes_of_rows rows)

nodes_of_facts : (events : Record) (nodes : List OutlineNode) → map node_of (map (facts_of_node events) nodes) ≡ nodes
unfolding node_of
nodes_of_facts events [] = refl
nodes_of_facts events (n ∷ nodes) = ap (λ (l : List OutlineNode). n ∷ l) (nodes_of_facts events nodes)

pub version_outline : (config : Config) (events : Record) (v : PinnedValue) → IsVersionOf config events (version_of v)
    → map outline_node_of v.nodes ≡ outline (octree config.leaf config.cube (published events)) config.cube
version_outline config events v is = sym (nodes_of_rows v.nodes) ∙ ap (map node_of) is.nodes ∙ nodes_of_facts events _

-- rows stand in path order where their nodes do
rows_in_order : (rows : List NodeRow) → AllPairs (λ (a b : OutlineNode). StandsBefore a.path b.path) (map outline_node_of rows) → AreInPathOrder rows
rows_in_order rows all = λ i j d less within.
    let node : ℕ → OutlineNode = λ k. get_or (map outline_node_of rows) k (outline_node_of d) in
    let first : node i ≡ outline_node_of (get_or rows i d) = get_or-map outline_node_of rows i d (outline_node_of d) (omega arith) in
    let second : node j ≡ outline_node_of (get_or rows j d) = get_or-map outline_node_of rows j d (outline_node_of d) within in
    let pair : StandsBefore (node i).path (node j).path = all i j (outline_node_of d) less (omega (arith, length-map rows outline_node_of)) in
    subst (λ (n : OutlineNode). StandsBefore n.path (get_or rows j d).path) first (subst (λ (n : OutlineNode). StandsBefore (node i).path n.path) second pair)

pub version_in_order : (config : Config) (events : Record) (v : PinnedValue) → IsVersionOf config events (version_of v) → AreInPathOrder v.nodes
version_in_order config events v is =
    rows_in_order v.nodes (subst (AllPairs (λ (a b : OutlineNode). StandsBefore a.path b.path)) (sym (version_outline config events v is))
    (outline_in_order config.leaf config.cube (published events)))

-- ---- the row at a path

abbrev pub compared : List ℕ → NodeRow → Ordering
compared path row = slice_cmp nat_cmp row.path path

no_less : Less ≡ Equal → ⊥
no_less e = cc

no_greater : Greater ≡ Equal → ⊥
no_greater e = cc

-- a path does not stand before itself
not_before : (path : List ℕ) → StandsBefore path path → ⊥
not_before path before = no_less (sym before ∙ tied_itself nat_list_cmp_total path)

-- of a row that stands before another one the other is no less
no_less_after : (a b : List ℕ) → StandsBefore a b → is_lt (slice_cmp nat_cmp b a) ≡ false
no_less_after a b before = ap is_lt (nat_list_cmp_total.antisymm b a ∙ ap ordering_reverse before)

rows_sorted : (rows : List NodeRow) → AreInPathOrder rows → IsSortedBy (λ (a b : NodeRow). is_lt (slice_cmp nat_cmp a.path b.path)) rows
rows_sorted rows order = λ k d low within. no_less_after (get_or rows k d).path (get_or rows (k + 1) d).path (order k (k + 1) d (omega arith) within)

-- halving may look for a path among rows in path order
pub rows_rise : (rows : List NodeRow) (path : List ℕ) → AreInPathOrder rows
    → IsNonDecreasingBy (λ (row : NodeRow). ordering_index (compared path row)) rows
rows_rise rows path order = searchable_from_sorted nat_list_cmp_total (λ (row : NodeRow). row.path) rows path (rows_sorted rows order)

-- a row that compares as equal has the path
pub row_found : (rows : List NodeRow) (path : List ℕ) (at : ℕ) (row : NodeRow) → at < length rows → row ≡ get_or rows at row
    → HoldsAt (λ (y : NodeRow). compared path y ≡ Equal) rows at → IsRowAt rows path row
row_found rows path at row within read equal = record {
  there = (at, within, sym read);
  path_is = exact_bytes row.path path (subst (λ (y : NodeRow). compared path y ≡ Equal) (sym read) (equal row));
}

-- no row has a path whose place lies between two rows
pub row_missing : (rows : List NodeRow) (path : List ℕ) (at : ℕ)
    → IsPartitionPoint (λ (y : NodeRow). compared path y ≡ Less) (λ (y : NodeRow). compared path y ≡ Greater) rows at → (row : NodeRow)
    → IsRowAt rows path row → ⊥
row_missing rows path at parted row is =
    let k : ℕ = is.there.0 in
    let read : get_or rows k row ≡ row = is.there.2 in
    let equal : compared path row ≡ Equal = ap (λ (p : List ℕ). slice_cmp nat_cmp p path) is.path_is ∙ tied_itself nat_list_cmp_total path in
    elim (cases_lt k at) [
      | inl less ↦ no_less (sym (subst (λ (y : NodeRow). compared path y ≡ Less) read (parted.0 k row (omega arith) less)) ∙ equal)
      | inr not_less ↦ no_greater (sym (subst (λ (y : NodeRow). compared path y ≡ Greater) read (parted.1 k row (omega arith) is.there.1)) ∙ equal)
    ]

-- one row has a path
pub one_row : (rows : List NodeRow) (path : List ℕ) (a b : NodeRow) → AreInPathOrder rows → IsRowAt rows path a → IsRowAt rows path b → b ≡ a
one_row rows path a b order is_a is_b = elim (cases_lt is_a.there.0 is_b.there.0) [
  | inl less ↦ absurd (apart is_a.there.0 is_b.there.0 a b is_a.there.2 is_b.there.2 less is_b.there.1 (is_a.path_is) (is_b.path_is))
  | inr not_less ↦ elim (cases_lt is_b.there.0 is_a.there.0) [
    | inl less ↦ absurd (apart is_b.there.0 is_a.there.0 b a is_b.there.2 is_a.there.2 less is_a.there.1 (is_b.path_is) (is_a.path_is))
    | inr not_more ↦
        let same : is_b.there.0 ≡ is_a.there.0 = omega arith in
        sym is_b.there.2 ∙ ap (λ (k : ℕ). get_or rows k b) same ∙ within_any is_a.there.0 b a is_a.there.1 ∙ is_a.there.2
  ]
]
  where
    within_any : (k : ℕ) (d e : NodeRow) → k < length rows → get_or rows k d ≡ get_or rows k e
    within_any k d e less = get_or_default rows k d e less

    apart : (i j : ℕ) (x y : NodeRow) → get_or rows i x ≡ x → get_or rows j y ≡ y → i < j → j < length rows → x.path ≡ path → y.path ≡ path → ⊥
    apart i j x y at_i at_j less within e f =
        let here : get_or rows i y ≡ x = within_any i y x (omega arith) ∙ at_i in
        let before : StandsBefore (get_or rows i y).path (get_or rows j y).path = order i j y less within in
        not_before path (subst (λ (q : List ℕ). StandsBefore path q) (ap (λ (r : NodeRow). r.path) at_j ∙ f)
        (subst (λ (q : List ℕ). StandsBefore q (get_or rows j y).path) (ap (λ (r : NodeRow). r.path) here ∙ e) before))

-- ---- what halving finds

-- a row stands at a path, and no other one does
pub record IsOnlyRow (rows : List NodeRow) (path : List ℕ) (row : NodeRow) : Type 0 where
  pub found : IsRowAt rows path row
  pub only : (other : NodeRow) → IsRowAt rows path other → other ≡ row

pub found_at : (xs ys zs : List NodeRow) (path : List ℕ) (at : ℕ) (row : NodeRow) → xs ≡ ys → ys ≡ zs → AreInPathOrder ys → at < length xs
    → row ≡ get_or ys at row → HoldsAt (λ (y : NodeRow). compared path y ≡ Equal) xs at → IsOnlyRow zs path row
found_at xs ys zs path at row e f order within read equal =
    let here : IsRowAt ys path row = row_found ys path at row (omega (arith, ap length e)) read
    (subst (λ (l : List NodeRow). HoldsAt (λ (y : NodeRow). compared path y ≡ Equal) l at) e equal) in
    subst (λ (l : List NodeRow). IsOnlyRow l path row) f record { found = here; only = λ other is. one_row ys path row other order here is }

pub missing_at : (xs ys zs : List NodeRow) (path : List ℕ) (at : ℕ) → xs ≡ ys → ys ≡ zs → AreInPathOrder ys
    → (IsNonDecreasingBy (λ (y : NodeRow). ordering_index (compared path y)) xs
    → IsPartitionPoint (λ (y : NodeRow). compared path y ≡ Less) (λ (y : NodeRow). compared path y ≡ Greater) xs at)
    → (row : NodeRow) → IsRowAt zs path row → ⊥
missing_at xs ys zs path at e f order parts row is =
    let in_order : AreInPathOrder xs = subst AreInPathOrder (sym e) order in
    let there : IsRowAt xs path row = subst (λ (l : List NodeRow). IsRowAt l path row) (sym (e ∙ f)) is in
    row_missing xs path at (parts (rows_rise xs path in_order)) row there

-- ---- leaves are no inner nodes

pub leaf_is_not_inner : (a b : NodeRow) (chains : ChainsValue) (runs : List (List NearValue)) → a ≡ b → a.role ≡ Leaf chains → b.role ≡ Inner runs → ⊥
leaf_is_not_inner a b chains runs same leaf inner = apart (sym leaf ∙ ap (λ (r : NodeRow). r.role) same ∙ inner)
  where
    apart : Leaf chains ≡ Inner runs → ⊥
    apart e = cc

-- what holds anyway holds where there is none
pub if_none_anyway : {A : Type 0} (o : Option A) (P : Type 0) → P → IfNone o P
if_none_anyway None P holds = holds
if_none_anyway (Some x) P holds = tt
