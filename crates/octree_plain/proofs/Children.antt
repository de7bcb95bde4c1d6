-- The loop over the children of a node.
use Rattle.std.proofs.Common.{◌≡◌, ℕ, suc, ◌-◌, ◌+◌, ◌<◌, ◌≤◌, inl, inr, List, [], ◌∷◌, ◌++◌, map, drop, length, get_or, ap, ◌∙◌, sym, arith, IsTrue, add-one}
use Rattle.std.specs.List.{All}
use Rattle.std.proofs.lemmas.List.{drop_all, drop_more, map-append, length-map, length-drop}
use Rattle.std.proofs.lemmas.Bool.{cases_lt}
use Rattle.cube_math.specs.Points.{PointValue}
use Rattle.cube_math.specs.Cubes.{CubeValue, contains, child}
use Rattle.octree_model.specs.Numbers.{up_to}
use Rattle.octree_model.specs.Octree.{inside, octree, octree_at}
use Rattle.octree_model.specs.Voxels.{VoxelValue, voxels}
use Rattle.octree_model.specs.declared.tree.Tree.{Tree, Inner}
use Rattle.octree_model.proofs.NumberLaws.{at_up_to}
use Rattle.octree_model.proofs.OctreeLaws.{inner_by_count}

pub head_of_drop : {X : Type 0} (L : List X) (g : ℕ) (x : X) (xs : List X) → x ∷ xs ≡ drop g L → (g < length L) × (x ≡ get_or L g x) × (xs ≡ drop (g + 1) L)
head_of_drop L g x xs e =
    elim (cases_lt g (length L)) [
      | inl below ↦ let f : x ∷ xs ≡ get_or L g x ∷ drop (g + 1) L = e ∙ drop_more L g x below in (below, cc, cc)
      | inr above ↦ let f : x ∷ xs ≡ [] = e ∙ drop_all g L above in cc
    ]

-- the list that comes next is that of child g
pub record NextChild {V : Type 0} (items : V → List PointValue) (c : CubeValue) (q : List PointValue) (g : ℕ) (v : V) (vs : List V) : Type 0 where
  pub below : g < 8
  pub is : items v ≡ inside (child c g) q
  pub left : map items vs ≡ drop (g + 1) (map (λ g. inside (child c g) q) (up_to 8))

pub next_child : {V : Type 0} (items : V → List PointValue) (c : CubeValue) (q : List PointValue) (g : ℕ) (rest : List V) (v : V) (vs : List V)
    → map items rest ≡ drop g (map (λ g. inside (child c g) q) (up_to 8)) → rest ≡ v ∷ vs → NextChild items c q g v vs
next_child items c q g rest v vs e s =
    let L : List (List PointValue) = map (λ g. inside (child c g) q) (up_to 8) in
    let f : items v ∷ map items vs ≡ drop g L = ap (map items) (sym s) ∙ e in
    let h : (g < length L) × (items v ≡ get_or L g (items v)) × (map items vs ≡ drop (g + 1) L) = head_of_drop L g (items v) (map items vs) f in
    record { below = h.0; is = h.1 ∙ at_up_to (λ g. inside (child c g) q) 8 g (items v) h.0; left = h.2 }

-- no list is left only behind the last child
pub no_child : {V : Type 0} (items : V → List PointValue) (c : CubeValue) (q : List PointValue) (g : ℕ) (rest : List V)
    → map items rest ≡ drop g (map (λ g. inside (child c g) q) (up_to 8)) → length rest ≡ 0 → 8 ≤ g
no_child items c q g rest e z =
    let L : List (List PointValue) = map (λ g. inside (child c g) q) (up_to 8) in
    omega (arith, ap length e, length-map rest items, length-drop g L)

-- one tree more
pub one_tree : (F : ℕ → Tree) (g : ℕ) (ts ts' : List Tree) (t : Tree) → ts ≡ map F (up_to g) → ts' ≡ ts ++ t ∷ [] → t ≡ F g → ts' ≡ map F (up_to (g + 1))
one_tree F g ts ts' t before pushed is =
    rw add-one (pushed ∙ ap (λ (l : List Tree). l ++ t ∷ []) before ∙ ap (λ x. map F (up_to g) ++ x ∷ []) is ∙ sym (map-append F (up_to g) (g ∷ [])))

-- the node that the loop leaves
pub grown_node : (leaf : ℕ) (c : CubeValue) (ps : List PointValue) (n g : ℕ) (vs : List VoxelValue) (ts : List Tree) → All (λ p. IsTrue (contains c p)) ps
    → leaf < length ps → 7 < c.bits → n ≡ length ps → vs ≡ voxels c ps → g ≡ 8 → ts ≡ map (λ g. octree leaf (child c g) ps) (up_to g)
    → Inner record { count = n; voxels = vs; trees = ts } ≡ octree leaf c ps
grown_node leaf c ps n g vs ts h l low counted coloured end grown =
    let deep : suc (c.bits - 1 - 7) ≡ c.bits - 7 = omega arith in
    rw (counted, coloured, grown, end) (inner_by_count leaf (c.bits - 1 - 7) c ps h l ∙ ap (λ d. octree_at leaf d c ps) deep)
