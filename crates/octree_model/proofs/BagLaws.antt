-- The points of the leaves of an octree.
use Rattle.std.proofs.Common.{◌≡◌, ℕ, zero, suc, ◌+◌, ◌<◌, ◌≤◌, inl, inr, Bool, true, false, ◌&&◌, List, [], ◌∷◌, ◌++◌, map, length, ap, ◌∙◌, sym, refl, arith, IsTrue, nat_eq, nat_lt, cond, count_by, append_assoc}
use Rattle.std.specs.List.{All}
use Rattle.std.proofs.lemmas.List.{map-append, append-nil}
use Rattle.std.proofs.lemmas.List.Sums.{sum_by-append}
use Rattle.std.proofs.lemmas.Bool.Decides.{nat_tests}
use Rattle.std.proofs.lemmas.List.Elements.{All-tail, filter_passes}
use Rattle.std.proofs.lemmas.Bool.{cases_lt, lt-ltb, le-ltb, le-leb, lt-leb}
use Rattle.cube_math.specs.Points.{PointValue}
use Rattle.cube_math.specs.Cubes.{CubeValue, contains, child, octant}
use Rattle.cube_math.proofs.Halves.{child_has, octant_below}
use Rattle.octree_model.specs.Bags.{joined, leaf_points, tree_points, node_points}
use Rattle.octree_model.specs.Numbers.{up_to}
use Rattle.octree_model.specs.Octree.{inside, octree_at}
use Rattle.octree_model.specs.declared.tree.Tree.TheOpen.{Tree-F}
use Rattle.octree_model.specs.declared.tree.Tree.TheFolds.{fold-roll-Tree, fold-roll-InnerNode}
use Rattle.octree_model.specs.declared.tree.Tree.TheVariants.{Leaf, Inner, rolls-Leaf, rolls-Inner}
use Rattle.octree_model.specs.declared.tree.InnerNode.{InnerNode}

pub leaf_points-Leaf : (ps : List PointValue) → leaf_points (Leaf ps) ≡ ps
leaf_points-Leaf ps = ap leaf_points (sym (rolls-Leaf ps)) ∙ fold-roll-Tree (List PointValue) (List PointValue) tree_points node_points (Tree-F.Leaf ps)

pub leaf_points-Inner : (n : InnerNode) → leaf_points (Inner n) ≡ joined (map leaf_points n.trees)
leaf_points-Inner n = ap leaf_points (sym (rolls-Inner n)) ∙ fold-roll-Tree (List PointValue) (List PointValue) tree_points node_points (Tree-F.Inner n)
    ∙ fold-roll-InnerNode (List PointValue) (List PointValue) tree_points node_points record { count = n.count; voxels = n.voxels; trees = n.trees }

count_append : (t : PointValue → Bool) (xs ys : List PointValue) → count_by t (xs ++ ys) ≡ count_by t xs + count_by t ys
count_append t xs ys = sum_by-append (λ x. cond (t x) 1 0) xs ys

count_cons : (t : PointValue → Bool) (x : PointValue) (xs : List PointValue) → count_by t (x ∷ xs) ≡ count_by t xs + cond (t x) 1 0
count_cons t x xs = omega (arith, count_append t (x ∷ []) xs)

joined_append : (xs ys : List (List PointValue)) → joined (xs ++ ys) ≡ joined xs ++ joined ys
joined_append [] ys = refl
joined_append (x ∷ xs) ys = ap (λ (l : List PointValue). x ++ l) (joined_append xs ys) ∙ sym (append_assoc x (joined xs) (joined ys))

-- the sum of F at the numbers below n
abbrev pub over : (ℕ → ℕ) → ℕ → ℕ
over F zero = 0
over F (suc n) = over F n + F n

pub over_same : (F G : ℕ → ℕ) (n : ℕ) → ((k : ℕ) → k < n → F k ≡ G k) → over F n ≡ over G n
over_same F G zero h = refl
over_same F G (suc n) h =
    let rest : over F n ≡ over G n = over_same F G n (λ k l. h k (omega arith)) in
    let last : F n ≡ G n = h n (omega arith) in
    omega arith

-- one more at one number
pub over_one : (F : ℕ → ℕ) (o x n : ℕ) → over (λ k. F k + cond (nat_eq o k) x 0) n ≡ over F n + cond (nat_lt o n) x 0
over_one F o x zero = rw (le-ltb o 0 (omega arith)) refl
over_one F o x (suc n) =
    let before : over (λ k. F k + cond (nat_eq o k) x 0) n ≡ over F n + cond (nat_lt o n) x 0 = over_one F o x n in
    grind (arith, nat_tests)

one_more_count : (t : PointValue → Bool) (p : PointValue) (l : List PointValue) (b o : Bool) → b ≡ o → count_by t (cond b (p ∷ l) l) ≡ count_by t l + cond o (cond (t p) 1 0) 0
one_more_count t p l true true e = count_cons t p l
one_more_count t p l false false e = omega arith
one_more_count t p l true false e = cc
one_more_count t p l false true e = cc

-- each point lies in one child
spread_count : (t : PointValue → Bool) (c : CubeValue) (q : List PointValue) → 0 < c.bits → All (λ p. IsTrue (contains c p)) q → over (λ k. count_by t (inside (child c k) q)) 8 ≡ count_by t q
spread_count t c [] s h = refl
spread_count t c (p ∷ q) s h =
    let F : ℕ → ℕ = λ k. count_by t (inside (child c k) q) in
    let F' : ℕ → ℕ = λ k. count_by t (inside (child c k) (p ∷ q)) in
    let o : ℕ = octant c p in
    let x : ℕ = cond (t p) 1 0 in
    let has : contains c p ≡ true = h 0 p (omega arith) in
    let small : nat_lt o 8 ≡ true = lt-ltb _ _ (octant_below c p s has) in
    let step : (k : ℕ) → k < 8 → F' k ≡ F k + cond (nat_eq o k) x 0 = λ k l.
    let e : contains (child c k) p ≡ nat_eq o k = child_has c p k s l ∙ ap (λ b. b && nat_eq o k) has in
    one_more_count t p (inside (child c k) q) (contains (child c k) p) (nat_eq o k) e in
    over_same F' (λ k. F k + cond (nat_eq o k) x 0) 8 step ∙ over_one F o x 8
    ∙ ap (λ b. over F 8 + cond b x 0) small ∙ ap (λ n. n + x) (spread_count t c q s (All-tail (λ p'. IsTrue (contains c p')) p q h)) ∙ sym (count_cons t p q)

joined_count : (t : PointValue → Bool) (G : ℕ → List PointValue) (n : ℕ) → count_by t (joined (map G (up_to n))) ≡ over (λ k. count_by t (G k)) n
joined_count t G zero = refl
joined_count t G (suc n) =
    ap (λ l. count_by t (joined l)) (map-append G (up_to n) (n ∷ [])) ∙ ap (count_by t) (joined_append (map G (up_to n)) (G n ∷ []))
    ∙ count_append t (joined (map G (up_to n))) (G n ++ []) ∙ ap (λ l. count_by t (joined (map G (up_to n))) + count_by t l) (append-nil (G n))
    ∙ ap (λ m. m + count_by t (G n)) (joined_count t G n)

-- the leaves have the points of the cube
pub same_points : (t : PointValue → Bool) (leaf depth : ℕ) (c : CubeValue) (ps : List PointValue) → depth ≤ c.bits → count_by t (leaf_points (octree_at leaf depth c ps)) ≡ count_by t (inside c ps)
unfolding octree_at
same_points t leaf zero c ps l = ap (count_by t) (leaf_points-Leaf (inside c ps))
same_points t leaf (suc depth) c ps l =
    let q : List PointValue = inside c ps in
    elim (cases_lt leaf (length q)) [
      | inl more ↦ rw (lt-leb _ _ more) (
          ap (count_by t) (leaf_points-Inner _) ∙ joined_count t (λ g. leaf_points (octree_at leaf depth (child c g) q)) 8
          ∙ over_same (λ g. count_by t (leaf_points (octree_at leaf depth (child c g) q))) (λ g. count_by t (inside (child c g) q)) 8 (λ k b. same_points t leaf depth (child c k) q (omega arith))
          ∙ spread_count t c q (omega arith) (filter_passes (contains c) ps))
      | inr few ↦ rw (le-leb _ _ few) (ap (count_by t) (leaf_points-Leaf q))
    ]
