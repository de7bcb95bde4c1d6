-- The leaf of a point, and the cubes of nodes.
use Rattle.std.proofs.Common.{◌≡◌, ℕ, zero, suc, ◌+◌, ◌-◌, ◌<◌, ◌≤◌, inl, inr, Bool, true, false, not, ◌&&◌, cond, List, [], ◌∷◌, ◌++◌, map, length, count_by, Contains, IsTrue, get_or, refl, ap, ◌∙◌, sym, subst, arith, nat_eq, nat_lt}
use Rattle.std.specs.List.{AllByRecursion}
use Rattle.std.proofs.lemmas.Bool.{cases_lt, le-leb, lt-leb, lt-ltb}
use Rattle.std.proofs.lemmas.List.{map-append, length-map}
use Rattle.std.proofs.lemmas.List.Elements.{All-from_recursion}
use Rattle.std.specs.List.{All}
use Rattle.std.proofs.lemmas.List.Sums.{sum_by-append, sum_by-cons}
use Rattle.cube_math.specs.Points.{PointValue}
use Rattle.cube_math.specs.Cubes.{CubeValue, contains, child, cube_at, octant}
use Rattle.cube_math.proofs.Halves.{child_has, octant_below}
use Rattle.cube_math.proofs.Ways.{cube_at-push}
use Rattle.octree_model.specs.Leaves.{leaves_of, leaves}
use Rattle.octree_model.specs.Numbers.{up_to}
use Rattle.octree_model.specs.Octree.{inside, octree_at, octree}
use Rattle.octree_model.specs.Outlines.{OutlineAt, children_outline, outline_at, outline}
use Rattle.octree_model.specs.Voxels.{voxels}
use Rattle.octree_model.specs.declared.outline.OutlineNode.{OutlineNode}
use Rattle.octree_model.specs.declared.tree.InnerNode.{InnerNode}
use Rattle.octree_model.specs.declared.tree.Tree.{Tree}
use Rattle.octree_model.specs.declared.tree.Tree.TheVariants.{Leaf, Inner}
use Rattle.octree_model.proofs.BagLaws.{over, over_same, over_one}
use Rattle.octree_model.proofs.NumberLaws.{length-up_to}
use Rattle.octree_model.proofs.OutlineLaws.{leaf_outline, inner_outline, outline_at-Leaf, outline_at-Inner, children_push}

-- ---- one leaf for a point
abbrev one_if : Bool → ℕ
one_if b = cond b 1 0

abbrev has_point : PointValue → OutlineNode → Bool
has_point p n = not n.inner && contains n.cube p

count_both : (f : OutlineNode → Bool) (xs ys : List OutlineNode) → count_by f (xs ++ ys) ≡ count_by f xs + count_by f ys
count_both f xs ys = sum_by-append (λ x. cond (f x) 1 0) xs ys

count_first : (f : OutlineNode → Bool) (n : OutlineNode) (ns : List OutlineNode) → count_by f (n ∷ ns) ≡ cond (f n) 1 0 + count_by f ns
count_first f n ns = omega (arith, sum_by-cons (λ x. cond (f x) 1 0) n ns)

-- as many leaves of a tree have a point as its cube: one, or none
abbrev IsParted : PointValue → Tree → CubeValue → Type 0
IsParted p t c = (path : List ℕ) → count_by (has_point p) (outline_at t path c) ≡ cond (contains c p) 1 0

leaf_parted : (p : PointValue) (ps : List PointValue) (c : CubeValue) → IsParted p (Leaf ps) c
leaf_parted p ps c path =
    ap (λ (f : OutlineAt). count_by (has_point p) (f path c)) (outline_at-Leaf ps) ∙ count_first (has_point p) record { path = path; cube = c; inner = false } [] ∙ alone (cond (contains c p) 1 0)
  where
    alone : (n : ℕ) → n + 0 ≡ n
    alone n = omega arith

below : (p : PointValue) (c : CubeValue) (T : ℕ → Tree) (n : ℕ) (path : List ℕ) → n ≤ 8 → ((g : ℕ) → g < 8 → IsParted p (T g) (child c g))
    → count_by (has_point p) (children_outline path c 0 (map outline_at (map T (up_to n)))) ≡ over (λ g. cond (contains (child c g) p) 1 0) n
below p c T zero path l each = refl
below p c T (suc n) path l each =
    let fs : List OutlineAt = map outline_at (map T (up_to n)) in
    let long : 0 + length fs ≡ n = omega (arith, length-map (map T (up_to n)) outline_at, length-map (up_to n) T, length-up_to n) in
    let parts : map outline_at (map T (up_to (suc n))) ≡ fs ++ outline_at (T n) ∷ [] =
    ap (map outline_at) (map-append T (up_to n) (n ∷ [])) ∙ map-append outline_at (map T (up_to n)) (T n ∷ []) in
    ap (λ (gs : List OutlineAt). count_by (has_point p) (children_outline path c 0 gs)) parts
    ∙ ap (count_by (has_point p)) (children_push path c 0 fs (outline_at (T n)) ∙ ap (λ k. children_outline path c 0 fs ++ outline_at (T n) (path ++ k ∷ []) (child c k)) long)
    ∙ count_both (has_point p) (children_outline path c 0 fs) (outline_at (T n) (path ++ n ∷ []) (child c n))
    ∙ (λ i. below p c T n path (omega arith) each i + each n (omega arith) (path ++ n ∷ []) i)

-- one child has a point of the cube
one_child : (p : PointValue) (c : CubeValue) (b : Bool) → 0 < c.bits → contains c p ≡ b → over (λ g. cond (contains (child c g) p) 1 0) 8 ≡ cond b 1 0
one_child p c true s e =
    let o : ℕ = octant c p in
    let small : nat_lt o 8 ≡ true = lt-ltb _ _ (octant_below c p s e) in
    over_same (λ g. cond (contains (child c g) p) 1 0) (λ g. 0 + cond (nat_eq o g) 1 0) 8
    (λ g l. ap (λ b. cond b 1 0) (child_has c p g s l ∙ ap (λ b. b && nat_eq o g) e) ∙ from_zero (cond (nat_eq o g) 1 0))
    ∙ over_one (λ g. 0) o 1 8 ∙ ap (λ b. 0 + one_if b) small
  where
    from_zero : (n : ℕ) → n ≡ 0 + n
    from_zero n = omega arith
one_child p c false s e = over_same (λ g. cond (contains (child c g) p) 1 0) (λ g. 0) 8 (λ g l. ap (λ b. cond b 1 0) (child_has c p g s l ∙ ap (λ b. b && nat_eq (octant c p) g) e))

inner_parted : (p : PointValue) (c : CubeValue) (n : InnerNode) (T : ℕ → Tree) → n.trees ≡ map T (up_to 8) → 0 < c.bits → ((g : ℕ) → g < 8 → IsParted p (T g) (child c g)) → IsParted p (Inner n) c
inner_parted p c n T trees s each path =
    let r : OutlineNode = record { path = path; cube = c; inner = true } in
    ap (λ (f : OutlineAt). count_by (has_point p) (f path c)) (outline_at-Inner n) ∙ count_first (has_point p) r (children_outline path c 0 (map outline_at n.trees))
    ∙ from_zero (count_by (has_point p) (children_outline path c 0 (map outline_at n.trees)))
    ∙ ap (λ (ts : List Tree). count_by (has_point p) (children_outline path c 0 (map outline_at ts))) trees
    ∙ below p c T 8 path (omega arith) each ∙ one_child p c (contains c p) s refl
  where
    from_zero : (n : ℕ) → 0 + n ≡ n
    from_zero n = omega arith

parted : (p : PointValue) (leaf depth : ℕ) (c : CubeValue) (ps : List PointValue) → depth ≤ c.bits → IsParted p (octree_at leaf depth c ps) c
unfolding octree_at
parted p leaf zero c ps d = leaf_parted p (inside c ps) c
parted p leaf (suc depth) c ps d =
    let q : List PointValue = inside c ps in
    elim (cases_lt leaf (length q)) [
      | inl more ↦
          let T : ℕ → Tree = λ g. octree_at leaf depth (child c g) q in
          let node : InnerNode = record { count = length q; voxels = voxels c q; trees = map T (up_to 8) } in
          rw (lt-leb _ _ more) (inner_parted p c node T refl (omega arith) (λ g l. parted p leaf depth (child c g) q (omega arith)))
      | inr few ↦ rw (le-leb _ _ few) (leaf_parted p q c)
    ]

pub so_many_leaves : (p : PointValue) (leaf : ℕ) (c : CubeValue) (ps : List PointValue) → count_by (λ (n : OutlineNode). contains n.cube p) (leaves leaf c ps) ≡ cond (contains c p) 1 0
so_many_leaves p leaf c ps = kept (outline (octree leaf c ps) c) ∙ parted p leaf (c.bits - 7) c ps (omega arith) []
  where
    one : (n : OutlineNode) (ns : List OutlineNode) (b : Bool) (k : ℕ) → count_by (λ (m : OutlineNode). contains m.cube p) (leaves_of ns) ≡ k
        → count_by (λ (m : OutlineNode). contains m.cube p) (cond (not b) (n ∷ leaves_of ns) (leaves_of ns)) ≡ cond (not b && contains n.cube p) 1 0 + k
    one n ns false k e = count_first (λ (m : OutlineNode). contains m.cube p) n (leaves_of ns) ∙ ap (λ j. cond (contains n.cube p) 1 0 + j) e
    one n ns true k e = omega (arith, e)

    kept : (ns : List OutlineNode) → count_by (λ (n : OutlineNode). contains n.cube p) (leaves_of ns) ≡ count_by (has_point p) ns
    kept [] = refl
    kept (n ∷ ns) = one n ns n.inner (count_by (has_point p) ns) (kept ns) ∙ sym (count_first (has_point p) n ns)

-- ---- members of a list of which one passes
-- an element that passes is counted
counted : {X : Type 0} (f : X → Bool) (xs : List X) (i : ℕ) (x : X) → i < length xs → get_or xs i x ≡ x → f x ≡ true → 0 < count_by f xs
counted f [] i x l at e = absurd (omega arith)
counted f (y ∷ ys) zero x l at e =
    let here : one_if (f y) ≡ 1 = ap (λ z. one_if (f z)) at ∙ ap one_if e in
    omega (arith, here, sum_by-cons (λ z. cond (f z) 1 0) y ys)
counted f (y ∷ ys) (suc i) x l at e = omega (arith, counted f ys i x (omega arith) at e, sum_by-cons (λ z. cond (f z) 1 0) y ys)

-- of a list in which one passes at most, elements that pass are the same
same_element : {X : Type 0} (f : X → Bool) (xs : List X) (i j : ℕ) (x y : X) → count_by f xs ≤ 1 → i < length xs → j < length xs → get_or xs i x ≡ x → get_or xs j y ≡ y → f x ≡ true → f y ≡ true → x ≡ y
same_element f [] i j x y few l m at at' e e' = absurd (omega arith)
same_element f (z ∷ zs) zero zero x y few l m at at' e e' = sym at ∙ at'
same_element f (z ∷ zs) zero (suc j) x y few l m at at' e e' =
    let here : one_if (f z) ≡ 1 = ap (λ w. one_if (f w)) at ∙ ap one_if e in
    absurd (omega (arith, few, here, sum_by-cons (λ w. cond (f w) 1 0) z zs, counted f zs j y (omega arith) at' e'))
same_element f (z ∷ zs) (suc i) zero x y few l m at at' e e' =
    let here : one_if (f z) ≡ 1 = ap (λ w. one_if (f w)) at' ∙ ap one_if e' in
    absurd (omega (arith, few, here, sum_by-cons (λ w. cond (f w) 1 0) z zs, counted f zs i x (omega arith) at e))
same_element f (z ∷ zs) (suc i) (suc j) x y few l m at at' e e' = same_element f zs i j x y (omega (arith, few, sum_by-cons (λ w. cond (f w) 1 0) z zs)) (omega arith) (omega arith) at at' e e'

-- where elements are counted, there is one
abbrev HasPassing : {X : Type 0} → (X → Bool) → List X → Type 0
HasPassing {X} f xs = (x : X) × Contains xs x × (f x ≡ true)

some_element : {X : Type 0} (f : X → Bool) (xs : List X) → 0 < count_by f xs → HasPassing f xs
some_element f [] l = absurd (omega arith)
some_element {X} f (x ∷ xs) l = one (f x) refl (λ more. some_element f xs more)
  where
    one : (b : Bool) → f x ≡ b → (0 < count_by f xs → HasPassing f xs) → HasPassing f (x ∷ xs)
    one true e more = (x, (0, omega arith, refl), e)
    one false e more =
        let none : one_if (f x) ≡ 0 = ap one_if e in
        let rest : HasPassing f xs = more (omega (arith, l, none, sum_by-cons (λ w. cond (f w) 1 0) x xs)) in
        let low : rest.1.0 < length xs = rest.1.1 in
        (rest.0, (suc rest.1.0, omega arith, rest.1.2), rest.2)

pub one_leaf : (p : PointValue) (leaf : ℕ) (c : CubeValue) (ps : List PointValue) (n m : OutlineNode) → Contains (leaves leaf c ps) n → Contains (leaves leaf c ps) m
    → IsTrue (contains n.cube p) → IsTrue (contains m.cube p) → n ≡ m
one_leaf p leaf c ps n m here there e e' =
    same_element (λ (k : OutlineNode). contains k.cube p) (leaves leaf c ps) here.0 there.0 n m (omega (arith, so_many_leaves p leaf c ps, at_most (contains c p))) here.1 there.1 here.2 there.2 e e'
  where
    at_most : (b : Bool) → cond b 1 0 ≤ 1
    at_most true = omega arith
    at_most false = omega arith

pub some_leaf : (p : PointValue) (leaf : ℕ) (c : CubeValue) (ps : List PointValue) → IsTrue (contains c p) → (n : OutlineNode) × Contains (leaves leaf c ps) n × IsTrue (contains n.cube p)
some_leaf p leaf c ps e =
    let one : one_if (contains c p) ≡ 1 = ap one_if e in
    some_element (λ (k : OutlineNode). contains k.cube p) (leaves leaf c ps) (omega (arith, one, so_many_leaves p leaf c ps))

-- ---- the cubes of nodes
-- each node of a tree has the cube of its path
abbrev ArePlaced : CubeValue → List OutlineNode → Type 0
ArePlaced root ns = AllByRecursion (λ (n : OutlineNode). n.cube ≡ cube_at root n.path) ns

abbrev IsPlaced : OutlineAt → Type 0
IsPlaced f = (root : CubeValue) (path : List ℕ) (c : CubeValue) → c ≡ cube_at root path → ArePlaced root (f path c)

placed_both : (root : CubeValue) (xs ys : List OutlineNode) → ArePlaced root xs → ArePlaced root ys → ArePlaced root (xs ++ ys)
placed_both root [] ys h k = k
placed_both root (x ∷ xs) ys h k = (h.0, placed_both root xs ys h.1 k)

children_placed : (fs : List OutlineAt) → AllByRecursion IsPlaced fs → (root : CubeValue) (path : List ℕ) (c : CubeValue) (g : ℕ) → c ≡ cube_at root path → ArePlaced root (children_outline path c g fs)
children_placed [] h root path c g at = tt
children_placed (f ∷ fs) h root path c g at =
    placed_both root (f (path ++ g ∷ []) (child c g)) (children_outline path c (g + 1) fs)
    (h.0 root (path ++ g ∷ []) (child c g) (ap (λ k. child k g) at ∙ sym (cube_at-push root path g))) (children_placed fs h.1 root path c (g + 1) at)

trees_placed : (T : ℕ → Tree) (gs : List ℕ) → ((g : ℕ) → IsPlaced (outline_at (T g))) → AllByRecursion IsPlaced (map outline_at (map T gs))
trees_placed T [] h = tt
trees_placed T (g ∷ gs) h = (h g, trees_placed T gs h)

leaf_placed : IsPlaced leaf_outline
leaf_placed root path c at = (at, tt)

inner_placed : (fs : List OutlineAt) → AllByRecursion IsPlaced fs → IsPlaced (inner_outline fs)
inner_placed fs h root path c at = (at, children_placed fs h root path c 0 at)

placed : (leaf depth : ℕ) (c : CubeValue) (ps : List PointValue) → IsPlaced (outline_at (octree_at leaf depth c ps))
unfolding octree_at
placed leaf zero c ps = subst IsPlaced (sym (outline_at-Leaf (inside c ps))) leaf_placed
placed leaf (suc depth) c ps =
    let q : List PointValue = inside c ps in
    elim (cases_lt leaf (length q)) [
      | inl more ↦
          let T : ℕ → Tree = λ g. octree_at leaf depth (child c g) q in
          let node : InnerNode = record { count = length q; voxels = voxels c q; trees = map T (up_to 8) } in
          rw (lt-leb _ _ more) (subst IsPlaced (sym (outline_at-Inner node)) (inner_placed (map outline_at node.trees) (trees_placed T (up_to 8) (λ g. placed leaf depth (child c g) q))))
      | inr few ↦ rw (le-leb _ _ few) (subst IsPlaced (sym (outline_at-Leaf q)) leaf_placed)
    ]

pub cubes_are : (leaf : ℕ) (c : CubeValue) (ps : List PointValue) → All (λ (n : OutlineNode). n.cube ≡ cube_at c n.path) (outline (octree leaf c ps) c)
cubes_are leaf c ps = All-from_recursion (λ (n : OutlineNode). n.cube ≡ cube_at c n.path) (outline (octree leaf c ps) c) (placed leaf (c.bits - 7) c ps c [] c refl)
