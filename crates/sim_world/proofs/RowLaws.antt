-- The leaves of versions: their paths differ, and the rows of the next version are the leaves of its octree.
use Rattle.std.proofs.Common.{◌≡◌, ◌==◌, ℕ, zero, suc, Bool, true, false, cond, not, ◌&&◌, ◌||◌, List, [], ◌∷◌, map, refl, sym, ap, ◌∙◌, subst, arith}
use Rattle.std.specs.Prelude.{Some, None, Option, nat_lt}
use Rattle.std.specs.List.{AllByRecursion}
use Rattle.std.proofs.lemmas.Option.{none-some, same_Some}
use Rattle.std.proofs.lemmas.Bool.Decides.{nat_tests}
use Rattle.std.proofs.lemmas.List.Elements.{All-contains}
use Rattle.cube_math.specs.Points.{PointValue}
use Rattle.cube_math.specs.Cubes.{CubeValue, cube_at}
use Rattle.octree_model.specs.Leaves.{leaves}
use Rattle.octree_model.specs.Octree.{octree}
use Rattle.octree_model.specs.Outlines.{outline}
use Rattle.octree_model.specs.declared.outline.OutlineNode.{OutlineNode}
use Rattle.octree_model.proofs.LeafLaws.{cubes_are}
use Rattle.picture_model.specs.Cuts.{is_before}
use Rattle.camera_cut.proofs.CutLaws.{outline_ordered}
use Rattle.camera_cut.proofs.OrderLaws.{Ordered, ordered-filter}
use Rattle.list_machine.specs.Facts.{IsAt}
use Rattle.list_machine.proofs.Lists.{at_filter}
use Rattle.sim_world.specs.Publications.{row_or_new, rows_for}
use Rattle.sim_world.specs.Stores.{IsIn}
use Rattle.sim_world.specs.Versions.{LeafRow, leaf_node, is_same_path, row_with}
use Rattle.sim_world.proofs.Members.{contains_from_in}

-- ---- paths

pub path_is : (gs hs : List ℕ) → is_same_path gs hs ≡ true → gs ≡ hs
path_is [] [] e = refl
path_is [] (h ∷ hs) e = absurd (cc)
path_is (g ∷ gs) [] e = absurd (cc)
path_is (g ∷ gs) (h ∷ hs) e = by (g == h) refl e (path_is gs hs) where
  by : (b : Bool) → (g == h) ≡ b → (b && is_same_path gs hs) ≡ true → (is_same_path gs hs ≡ true → gs ≡ hs) → g ∷ gs ≡ h ∷ hs
  by true is e more = let same : g ≡ h = grind (arith, nat_tests) in λ i. same i ∷ more e i
  by false is e more = absurd (cc)

own_path : (gs : List ℕ) → is_same_path gs gs ≡ true
own_path [] = refl
own_path (g ∷ gs) = let e : (g == g) ≡ true = grind (arith, nat_tests) in rw e (own_path gs)

-- no path stands before itself
pub not_before : (path : List ℕ) → is_before path path ≡ false
not_before [] = refl
not_before (g ∷ path) = by (nat_lt g g) (g == g) (grind (arith, nat_tests)) (grind (arith, nat_tests)) (not_before path) where
  by : (a b : Bool) → a ≡ false → b ≡ true → is_before path path ≡ false → (a || b && is_before path path) ≡ false
  by false true e e' less = less
  by true b e e' less = absurd (cc)
  by false false e e' less = refl

pub each_at : (P : OutlineNode → Type 0) (ns : List OutlineNode) (k : ℕ) (n : OutlineNode) → AllByRecursion P ns → IsAt ns k n → P n
each_at P [] k n all at = absurd (none-some n at)
each_at P (m ∷ ns) zero n all at = subst P (same_Some m n at) all.0
each_at P (m ∷ ns) (suc k) n all at = each_at P ns k n all.1 at

-- ---- leaves of an octree

pub leaves_ordered : (leaf : ℕ) (c : CubeValue) (ps : List PointValue) → Ordered (leaves leaf c ps)
leaves_ordered leaf c ps = ordered-filter (λ (n : OutlineNode). not n.inner) (outline (octree leaf c ps) c) (outline_ordered leaf c ps)

-- a leaf is no inner node, and has the cube of its path
pub record IsLeafOf (c : CubeValue) (n : OutlineNode) : Type 0 where
  pub outer : n.inner ≡ false
  pub cube : n.cube ≡ cube_at c n.path

pub leaf_is : (leaf : ℕ) (c : CubeValue) (ps : List PointValue) (n : OutlineNode) → IsIn (leaves leaf c ps) n → IsLeafOf c n
leaf_is leaf c ps n here =
    let t = at_filter (λ (m : OutlineNode). not m.inner) (outline (octree leaf c ps) c) here.0 n here.1 in
    record {
      outer = by n.inner t.2;
      cube = All-contains (λ (m : OutlineNode). m.cube ≡ cube_at c m.path) (outline (octree leaf c ps) c) n (cubes_are leaf c ps)
          (contains_from_in (outline (octree leaf c ps) c) n (t.0, t.1));
    } where
      by : (b : Bool) → not b ≡ true → b ≡ false
      by true e = absurd (cc)
      by false e = refl

-- ---- rows

map_at : (rs : List LeafRow) (k : ℕ) (q : LeafRow) → IsAt rs k q → IsAt (map leaf_node rs) k (leaf_node q)
map_at [] k q p = absurd (none-some q p)
map_at (r ∷ rs) zero q p = ap (λ (z : LeafRow). Some (leaf_node z)) (same_Some r q p)
map_at (r ∷ rs) (suc k) q p = map_at rs k q p

-- the row that is found has the path, and is one of the rows
pub found_row : (path : List ℕ) (rows : List LeafRow) (r : LeafRow) → row_with path rows ≡ Some r → IsIn rows r × (r.path ≡ path)
found_row path [] r e = absurd (none-some r e)
found_row path (q ∷ qs) r e = by (is_same_path q.path path) refl e (found_row path qs r) where
  by : (b : Bool) → is_same_path q.path path ≡ b → cond b (Some q) (row_with path qs) ≡ Some r
      → (row_with path qs ≡ Some r → IsIn qs r × (r.path ≡ path)) → IsIn (q ∷ qs) r × (r.path ≡ path)
  by true is e more = ((zero, e), ap (λ (z : LeafRow). z.path) (sym (same_Some q r e)) ∙ path_is q.path path is)
  by false is e more = let t = more e in ((suc t.0.0, t.0.1), t.1)

-- in path order each row is found by its path
pub row_found : (rows : List LeafRow) (k : ℕ) (r : LeafRow) → Ordered (map leaf_node rows) → IsAt rows k r → row_with r.path rows ≡ Some r
row_found [] k r order at = absurd (none-some r at)
row_found (q ∷ qs) zero r order at =
    let same : q ≡ r = same_Some q r at in
    let own : is_same_path q.path r.path ≡ true = ap (λ (z : LeafRow). is_same_path z.path r.path) same ∙ own_path r.path in
    rw own at
row_found (q ∷ qs) (suc k) r order at = by (is_same_path q.path r.path) refl (row_found qs k r order.1 at) where
  by : (b : Bool) → is_same_path q.path r.path ≡ b → row_with r.path qs ≡ Some r → cond b (Some q) (row_with r.path qs) ≡ Some r
  by true is more =
      let before : is_before q.path r.path ≡ true =
      each_at (λ (m : OutlineNode). is_before q.path m.path ≡ true) (map leaf_node qs) k (leaf_node r) order.0 (map_at qs k r at) in
      let no : false ≡ true = sym (not_before r.path) ∙ (ap (λ (p : List ℕ). is_before p r.path) (sym (path_is q.path r.path is)) ∙ before) in
      absurd (cc)
  by false is more = more

-- the rows for the leaves of an octree are these leaves, where the old rows have the cubes of their paths
pub rows_are : (c : CubeValue) (rows : List LeafRow) (next : ℕ) (ns : List OutlineNode) → ((r : LeafRow) → IsIn rows r → r.cube ≡ cube_at c r.path)
    → ((n : OutlineNode) → IsIn ns n → IsLeafOf c n) → map leaf_node (rows_for rows next ns) ≡ ns
rows_are c rows next [] cubes are = refl
rows_are c rows next (n ∷ ns) cubes are =
    by (row_with n.path rows) refl (rows_are c rows next ns cubes (λ m here. are m (suc here.0, here.1)))
    (rows_are c rows (suc next) ns cubes (λ m here. are m (suc here.0, here.1))) where
      leaf : IsLeafOf c n
      leaf = are n (zero, refl)

      by : (o : Option LeafRow) → row_with n.path rows ≡ o → map leaf_node (rows_for rows next ns) ≡ ns → map leaf_node (rows_for rows (suc next) ns) ≡ ns
          → map leaf_node (row_or_new o next n (rows_for rows next ns) (rows_for rows (suc next) ns)) ≡ n ∷ ns
      by (Some q) is old new =
          let t = found_row n.path rows q is in
          let cube : q.cube ≡ n.cube = cubes q t.0 ∙ (ap (cube_at c) t.1 ∙ sym leaf.cube) in
          let same : leaf_node q ≡ n = λ i. record { path = t.1 i; cube = cube i; inner = sym leaf.outer i } in
          λ i. same i ∷ old i
      by None is old new =
          let same : record { path = n.path; cube = n.cube; inner = false } ≡ n = λ i. record { path = n.path; cube = n.cube; inner = sym leaf.outer i } in
          λ i. same i ∷ new i
