-- At Commit: the row that an item was filed in is that of each leaf its point lies in, and so the owner covers the new version.
use Rattle.std.proofs.Common.{◌≡◌, ℕ, zero, suc, Bool, true, false, cond, List, [], ◌∷◌, map, refl, sym, ap, ◌∙◌, subst}
use Rattle.std.specs.Prelude.{Some, slice_get}
use Rattle.std.specs.List.{Contains}
use Rattle.std.proofs.lemmas.Option.{none-some, same_Some}
use Rattle.cube_math.specs.Points.{PointValue}
use Rattle.cube_math.specs.Cubes.{CubeValue, contains}
use Rattle.octree_model.specs.declared.outline.OutlineNode.{OutlineNode}
use Rattle.picture_model.specs.Cuts.{is_before}
use Rattle.list_machine.specs.Facts.{IsAt}
use Rattle.list_machine.specs.Machine.{State, IsSound}
use Rattle.camera_cut.proofs.OrderLaws.{Ordered}
use Rattle.octree_model.proofs.LeafLaws.{one_leaf}
use Rattle.sim_world.proofs.Members.{contains_from_in}
use Rattle.sim_world.proofs.RowLaws.{not_before, each_at, leaves_ordered}
use Rattle.sim_world.proofs.WhereLaws.{joined, commit_covers}
use Rattle.list_machine.specs.Moves.{guest_in, seat_joined}
use Rattle.octree_model.specs.Leaves.{leaves}
use Rattle.sim_world.specs.Publications.{row_now}
use Rattle.sim_world.specs.Stores.{IsIn, Covers}
use Rattle.sim_world.specs.Versions.{LeafRow, WorldVersion, leaf_node, list_for, list_or_0, published_items, row_for}
use Rattle.sim_world.specs.Whereabouts.{Knows, Where}

-- in path order a node stands once
stands_once : (ns : List OutlineNode) (i j : ℕ) (n : OutlineNode) → Ordered ns → IsAt ns i n → IsAt ns j n → i ≡ j
stands_once [] i j n order p q = absurd (none-some n p)
stands_once (m ∷ ns) zero zero n order p q = refl
stands_once (m ∷ ns) zero (suc j) n order p q =
    let e : is_before n.path n.path ≡ true =
    ap (λ (k : OutlineNode). is_before k.path n.path) (sym (same_Some m n p))
    ∙ each_at (λ (k : OutlineNode). is_before m.path k.path ≡ true) ns j n order.0 q in let no : false ≡ true = sym (not_before n.path) ∙ e in absurd (cc)
stands_once (m ∷ ns) (suc i) zero n order p q =
    let e : is_before n.path n.path ≡ true =
    ap (λ (k : OutlineNode). is_before k.path n.path) (sym (same_Some m n q))
    ∙ each_at (λ (k : OutlineNode). is_before m.path k.path ≡ true) ns i n order.0 p in let no : false ≡ true = sym (not_before n.path) ∙ e in absurd (cc)
stands_once (m ∷ ns) (suc i) (suc j) n order p q = ap suc (stands_once ns i j n order.1 p q)

-- the row that is found for a point
record HasRow (rows : List LeafRow) (p : PointValue) : Type 0 where
  row : LeafRow
  at : IsIn rows row
  lies : contains row.cube p ≡ true
  is : list_for rows p ≡ row.list

has_row : (rows : List LeafRow) (p : PointValue) (r : LeafRow) → IsIn rows r → contains r.cube p ≡ true → HasRow rows p
has_row [] p r at lies = absurd (none-some r at.1)
has_row (q ∷ qs) p r at lies = by (contains q.cube p) refl (λ more. has_row qs p r more lies) where
  by : (b : Bool) → contains q.cube p ≡ b → (IsIn qs r → HasRow qs p) → HasRow (q ∷ qs) p
  by true e more = record { row = q; at = (zero, refl); lies = e; is = ap (λ b. list_or_0 (cond b (Some q) (row_for p qs))) e }
  by false e more = behind at where
    behind : IsIn (q ∷ qs) r → HasRow (q ∷ qs) p
    behind (zero, here) = let no : false ≡ true = sym e ∙ (ap (λ (z : LeafRow). contains z.cube p) (same_Some q r here) ∙ lies) in absurd (cc)
    behind (suc k, here) =
        let t = more (k, here) in
        record { row = t.row; at = (suc t.at.0, t.at.1); lies = t.lies; is = ap (λ b. list_or_0 (cond b (Some q) (row_for p qs))) e ∙ t.is }

-- where the rows are the leaves of an octree, it is the row of each leaf that has the point
pub one_row : (leaf : ℕ) (c : CubeValue) (ps : List PointValue) (rows : List LeafRow) → map leaf_node rows ≡ leaves leaf c ps → Ordered (leaves leaf c ps)
    → (p : PointValue) (r : LeafRow) → IsIn rows r → contains r.cube p ≡ true → list_for rows p ≡ r.list
one_row leaf c ps rows are order p r at lies =
    let t = has_row rows p r at lies in
    let node : leaf_node t.row ≡ leaf_node r = one_leaf p leaf c ps (leaf_node t.row) (leaf_node r) (among t.row t.at) (among r at) t.lies lies in
    let place : t.at.0 ≡ at.0 =
    stands_once (leaves leaf c ps) t.at.0 at.0 (leaf_node r) order
    (subst (λ (n : OutlineNode). IsAt (leaves leaf c ps) t.at.0 n) node (node_at t.row t.at)) (node_at r at) in
    let same : t.row ≡ r = same_Some t.row r (sym t.at.1 ∙ (ap (slice_get rows) place ∙ at.1)) in
    t.is ∙ ap (λ (q : LeafRow). q.list) same where
      node_at : (q : LeafRow) (at : IsIn rows q) → IsAt (leaves leaf c ps) at.0 (leaf_node q)
      node_at q at = subst (λ (ns : List OutlineNode). IsAt ns at.0 (leaf_node q)) are (map_at rows at.0 q at.1) where
        map_at : (rs : List LeafRow) (k : ℕ) (q : LeafRow) → IsAt rs k q → IsAt (map leaf_node rs) k (leaf_node q)
        map_at [] k q p = absurd (none-some q p)
        map_at (r ∷ rs) zero q p = ap (λ (z : LeafRow). Some (leaf_node z)) (same_Some r q p)
        map_at (r ∷ rs) (suc k) q p = map_at rs k q p

      among : (q : LeafRow) → IsIn rows q → Contains (leaves leaf c ps) (leaf_node q)
      among q at = contains_from_in (leaves leaf c ps) (leaf_node q) (at.0, node_at q at)

-- Commit: each published item is where it should be, with nothing left to do, so the owner covers the new version
pub commit_covers_next : (s : State) (j leaf : ℕ) (c : CubeValue) (ps : List PointValue) (rows : List LeafRow) (v : WorldVersion) → IsSound (seat_joined s j)
    → map leaf_node rows ≡ leaves leaf c ps → v.leaves ≡ map (row_now (seat_joined s j)) rows
    → ((x : ℕ) (p : PointValue) → IsIn (published_items v) (x, p) → Where s.owner.facts (guest_in s j).facts (list_for rows p) [] [] [] x)
    → Covers v (seat_joined s j).owner.facts
commit_covers_next s j leaf c ps rows v sound are these all =
    commit_covers (seat_joined s j) rows v sound these (λ x p r item at lies.
    subst (λ (l : ℕ). Knows (seat_joined s j).owner.facts l x) (one_row leaf c ps rows are (leaves_ordered leaf c ps) p r at lies)
    (joined s.owner.facts (guest_in s j).facts (list_for rows p) x (all x p item)))
