-- At the decision of a publication: each item of the version is known in a leaf that stays, or in a list that is to be swept.
use Rattle.std.proofs.Common.{◌≡◌, ℕ, zero, suc, ◌⊎◌, inl, inr, true, false, not, List, [], ◌∷◌, map, refl, sym, ap, ◌∙◌, subst}
use Rattle.std.specs.Prelude.{Some, None, Option, filter}
use Rattle.std.specs.Option.{option_map_or}
use Rattle.std.proofs.lemmas.Option.{none-some, same_Some}
use Rattle.cube_math.specs.Points.{PointValue}
use Rattle.cube_math.specs.Batches.{BatchValue}
use Rattle.cube_math.specs.Cubes.{CubeValue, contains, cube_at}
use Rattle.octree_model.specs.declared.outline.OutlineNode.{OutlineNode}
use Rattle.list_machine.specs.declared.views.Fact.{Fact}
use Rattle.camera_cut.proofs.OrderLaws.{Ordered}
use Rattle.sim_world.proofs.Members.{in_from_contains, in_map, in_map_back, in_filter}
use Rattle.octree_model.proofs.LeafLaws.{some_leaf}
use Rattle.sim_world.proofs.CommitLaws.{one_row}
use Rattle.sim_world.proofs.RowLaws.{found_row, leaf_is, leaves_ordered, row_found, rows_are}
use Rattle.octree_model.specs.Leaves.{leaves}
use Rattle.sim_world.specs.Decisions.{published_with}
use Rattle.sim_world.specs.Jobs.{JobValue}
use Rattle.sim_world.specs.Publications.{is_listed, row_or_new, rows_for, next_rows, splits_due}
use Rattle.sim_world.specs.Stores.{IsIn, Covers, IsVersion}
use Rattle.sim_world.specs.Versions.{no_chains, LeafRow, WorldVersion, leaf_node, list_for, published_items, points_in, row_with}
use Rattle.sim_world.specs.Worlds.{World}
use Rattle.sim_world.specs.Whereabouts.{Knows, Where, known, unswept}

-- a row of the next leaves is an old one with its path, or no old one has its path
next_row : (rows : List LeafRow) (next : ℕ) (ns : List OutlineNode) (r : LeafRow) → IsIn (rows_for rows next ns) r
    → (row_with r.path rows ≡ Some r) ⊎ (row_with r.path rows ≡ None)
next_row rows next [] r at = absurd (none-some r at.1)
next_row rows next (n ∷ ns) r at = by (row_with n.path rows) refl at (next_row rows next ns r) (next_row rows (suc next) ns r) where
  abbreviation : LeafRow
  abbreviation = record { path = n.path; cube = n.cube; list = next; chains = no_chains }

  by : (o : Option LeafRow) → row_with n.path rows ≡ o → IsIn (row_or_new o next n (rows_for rows next ns) (rows_for rows (suc next) ns)) r
      → (IsIn (rows_for rows next ns) r → (row_with r.path rows ≡ Some r) ⊎ (row_with r.path rows ≡ None))
      → (IsIn (rows_for rows (suc next) ns) r → (row_with r.path rows ≡ Some r) ⊎ (row_with r.path rows ≡ None))
      → (row_with r.path rows ≡ Some r) ⊎ (row_with r.path rows ≡ None)
  by (Some q) is (zero, at) old new =
      let same : q ≡ r = same_Some q r at in
      let path : n.path ≡ r.path = sym (found_row n.path rows q is).1 ∙ ap (λ (z : LeafRow). z.path) same in
      inl (ap (λ z. row_with z rows) (sym path) ∙ (is ∙ ap (λ (z : LeafRow). Some z) same))
  by (Some q) is (suc k, at) old new = old (k, at)
  by None is (zero, at) old new = inr (ap (λ (z : LeafRow). row_with z.path rows) (sym (same_Some abbreviation r at)) ∙ is)
  by None is (suc k, at) old new = new (k, at)

module _ (leaf : ℕ) (c : CubeValue) (ps qs : List PointValue) (v : WorldVersion) (next : ℕ)
    (are : map leaf_node v.leaves ≡ leaves leaf c ps) (unique : (r : LeafRow) → IsIn v.leaves r → row_with r.path v.leaves ≡ Some r)
    (after : map leaf_node (rows_for v.leaves next (leaves leaf c qs)) ≡ leaves leaf c qs) (order : Ordered (leaves leaf c qs)) where
  abbrev rows : List LeafRow
  rows = rows_for v.leaves next (leaves leaf c qs)

  pub decided : (o g : List Fact) (late : List ℕ) (x : ℕ) (p : PointValue) → Covers v o → IsIn (published_items v) (x, p) → contains c p ≡ true
      → Where o g (list_for rows p) [] late (map (λ (r : LeafRow). r.list) (filter (λ r. not (is_listed rows r)) v.leaves)) x
  decided o g late x p covers item lies =
      let n = some_leaf p leaf c ps lies in
      let r = in_map_back leaf_node v.leaves n.0 (subst (λ (ns : List OutlineNode). IsIn ns n.0) (sym are) (in_from_contains (leaves leaf c ps) n.0 n.1)) in
      let inside : contains r.0.cube p ≡ true = ap (λ (m : OutlineNode). contains m.cube p) r.2 ∙ n.2 in
      let s = covers x p r.0 item r.1 inside in
      by r.0 r.1 inside (s.0, s.1, s.2) (row_with r.0.path rows) refl where
        by : (r : LeafRow) → IsIn v.leaves r → contains r.cube p ≡ true → Knows o r.list x → (q : Option LeafRow) → row_with r.path rows ≡ q
            → Where o g (list_for rows p) [] late (map (λ (r : LeafRow). r.list) (filter (λ r. not (is_listed rows r)) v.leaves)) x
        by r at inside knows None e =
            let split : not (is_listed rows r) ≡ true = ap (λ (z : Option LeafRow). not (option_map_or (λ (y : LeafRow). true) z false)) e in
            unswept r.list
            (in_map (λ (z : LeafRow). z.list) (filter (λ z. not (is_listed rows z)) v.leaves) r
            (in_filter (λ z. not (is_listed rows z)) v.leaves r at split)) (inl knows)
        by r at inside knows (Some q) e =
            let t = found_row r.path rows q e in
            let same : r ≡ q = kept q t.0 t.1 (next_row v.leaves next (leaves leaf c qs) q t.0) in
            let list : r.list ≡ list_for rows p = sym (one_row leaf c qs rows after order p r (subst (λ (z : LeafRow). IsIn rows z) (sym same) t.0) inside) in
            known (subst (λ (l : ℕ). Knows o l x) list knows) where
              kept : (q : LeafRow) → IsIn rows q → q.path ≡ r.path → (row_with q.path v.leaves ≡ Some q) ⊎ (row_with q.path v.leaves ≡ None) → r ≡ q
              kept q here path (inl was) = same_Some r q (sym (unique r at) ∙ (ap (λ z. row_with z v.leaves) (sym path) ∙ was))
              kept q here path (inr none) = absurd (none-some r (sym none ∙ (ap (λ z. row_with z v.leaves) path ∙ unique r at)))

-- ---- of a world

-- the leaves of a version of the octree, and of the next one
module _ (job : JobValue) (w : World) (b : BatchValue) (is : IsVersion job w.version) where
  old_cubes : (r : LeafRow) → IsIn w.version.leaves r → r.cube ≡ cube_at job.config.cube r.path
  old_cubes r here = (leaf_is job.config.leaf job.config.cube (points_in w.version) (leaf_node r)
      (subst (λ (ns : List OutlineNode). IsIn ns (leaf_node r)) is.nodes (in_map leaf_node w.version.leaves r here))).cube

  old_found : (r : LeafRow) → IsIn w.version.leaves r → row_with r.path w.version.leaves ≡ Some r
  old_found r here =
      row_found w.version.leaves here.0 r (subst Ordered (sym is.nodes) (leaves_ordered job.config.leaf job.config.cube (points_in w.version))) here.1

  pub next_are : map leaf_node (next_rows job w b) ≡ leaves job.config.leaf job.config.cube (published_with w b)
  next_are = rows_are job.config.cube w.version.leaves w.opened (leaves job.config.leaf job.config.cube (published_with w b)) old_cubes
      (leaf_is job.config.leaf job.config.cube (published_with w b))

  pub published_placed : (seat : List Fact) (late : List ℕ) (x : ℕ) (p : PointValue) → Covers w.version w.lists.owner.facts
      → IsIn (published_items w.version) (x, p)
      → contains job.config.cube p ≡ true → Where w.lists.owner.facts seat (list_for (next_rows job w b) p) [] late (splits_due job w b) x
  published_placed seat late x p covers item lies =
      decided job.config.leaf job.config.cube (points_in w.version) (published_with w b) w.version w.opened is.nodes old_found next_are
      (leaves_ordered job.config.leaf job.config.cube (published_with w b)) w.lists.owner.facts seat late x p covers item lies
