-- A node that is made of points, or grows by the points of a batch.
use Rattle.std.proofs.Common.{◌≡◌, ℕ, ◌+◌, ◌<◌, ◌^◌, List, [], ◌∷◌, ◌++◌, map, drop, length, Some, ap, ◌∙◌, sym, refl, arith, IsTrue, add-one, slice_get, append_assoc, subst}
use Rattle.std.specs.Prelude.{remove}
use Rattle.std.specs.List.{All}
use Rattle.std.proofs.lemmas.List.{drop_more, drop_all, map-append, length-map, append-nil, length-append}
use Rattle.std.proofs.lemmas.List.Elements.{All-append, filter_passes, filter-append}
use Rattle.cube_math.specs.Points.{PointValue}
use Rattle.cube_math.specs.Cubes.{CubeValue, contains, child}
use Rattle.octree_model.specs.Numbers.{up_to}
use Rattle.octree_model.specs.Octree.{inside}
use Rattle.octree_model.proofs.NumberLaws.{at_up_to, length-up_to}
use Rattle.octree_model.proofs.ShapeLaws.{few_inside}
use Rattle.voxel_sampler.specs.Nears.{NearValue, nears}
use Rattle.batch_levels.specs.declared.level.Level.{Level}
use Rattle.batch_levels.specs.declared.level.Level.TheVariants.{Leaf, Inner}
use Rattle.batch_levels.specs.declared.level.InnerLevel.{InnerLevel}
use Rattle.batch_levels.specs.Growing.{HasRoom}
use Rattle.batch_levels.specs.Levels.{level_of}
use Rattle.batch_levels.proofs.LevelLaws.{node_of, leaf_of, IsInnerOf, inner_of, inner_of_points, is_inner, inside_both, level_both, level_same}

-- one node more
pub one_more : (F : ℕ → Level) (g : ℕ) (ls ls' : List Level) (l : Level) → ls ≡ map F (up_to g) → ls' ≡ ls ++ l ∷ [] → l ≡ F g → ls' ≡ map F (up_to (g + 1))
one_more F g ls ls' l before pushed is =
    rw add-one (pushed ∙ ap (λ (ks : List Level). ks ++ l ∷ []) before ∙ ap (λ x. map F (up_to g) ++ x ∷ []) is ∙ sym (map-append F (up_to g) (g ∷ [])))

-- an inner node by its parts
pub inner_made : (leaf : ℕ) (c : CubeValue) (ps : List PointValue) (n g : ℕ) (runs : List NearValue) (ls : List Level) → All (λ p. IsTrue (contains c p)) ps → leaf < length ps → 7 < c.bits
    → n ≡ length ps → runs ≡ nears c ps → g ≡ 8 → ls ≡ map (λ k. level_of leaf (child c k) ps) (up_to g)
    → Inner record { count = n; runs = runs; levels = ls } ≡ level_of leaf c ps
inner_made leaf c ps n g runs ls h more high counted keyed end made =
    let all : ls ≡ map (λ k. level_of leaf (child c k) ps) (up_to 8) = made ∙ ap (λ k. map (λ k. level_of leaf (child c k) ps) (up_to k)) end in
    (λ i. Inner record { count = counted i; runs = keyed i; levels = all i }) ∙ inner_of_points leaf c ps h more high

-- ---- a leaf
pub leaf_before : (leaf : ℕ) (c : CubeValue) (before kept : List PointValue) (level : Level) → level ≡ level_of leaf c before → level ≡ Leaf kept → kept ≡ inside c before
leaf_before leaf c before kept level is leaf_is = (leaf_of leaf c before kept (sym leaf_is ∙ is)).points

pub all_contained : (c : CubeValue) (before kept points all : List PointValue) → kept ≡ inside c before → All (λ p. IsTrue (contains c p)) points → all ≡ kept ++ points → All (λ p. IsTrue (contains c p)) all
all_contained c before kept points all is h both =
    let P : PointValue → Type 0 = λ p. IsTrue (contains c p) in
    subst (λ (xs : List PointValue). All P xs) (sym both) (All-append P kept points (subst (λ (xs : List PointValue). All P xs) (sym is) (filter_passes (contains c) before)) h)

pub all_few : (c : CubeValue) (before kept points all : List PointValue) → kept ≡ inside c before → all ≡ kept ++ points → length before + length points < 2 ^ 32 → length all < 2 ^ 32
all_few c before kept points all is both few = omega (arith, ap length both, length-append kept points, ap length is, few_inside c before)

pub grown_leaf : (leaf : ℕ) (c : CubeValue) (before kept points all : List PointValue) (after : Level) → kept ≡ inside c before → all ≡ kept ++ points → after ≡ level_of leaf c all → after ≡ level_of leaf c (before ++ points)
grown_leaf leaf c before kept points all after is both made =
    made ∙ ap (level_of leaf c) (both ∙ ap (λ (xs : List PointValue). xs ++ points) is) ∙ level_both leaf c before points

-- ---- an inner node
pub inner_before : (leaf : ℕ) (c : CubeValue) (before : List PointValue) (n : InnerLevel) (level : Level) → level ≡ level_of leaf c before → level ≡ Inner n → IsInnerOf leaf c before n
inner_before leaf c before n level is inner_is = inner_of leaf c before n (sym inner_is ∙ is)

-- the nodes below it before a batch, and after the batch's points
abbrev pub old_below : ℕ → CubeValue → List PointValue → List Level
old_below leaf c before = map (λ g. level_of leaf (child c g) (inside c before)) (up_to 8)

abbrev pub new_below : ℕ → CubeValue → List PointValue → List PointValue → ℕ → List Level
new_below leaf c before points g = map (λ g. level_of leaf (child c g) (inside c before ++ points)) (up_to g)

eight_below : (leaf : ℕ) (c : CubeValue) (before : List PointValue) → length (old_below leaf c before) ≡ 8
eight_below leaf c before = length-map (up_to 8) (λ g. level_of leaf (child c g) (inside c before)) ∙ length-up_to 8

-- the next one stands in front
pub in_front : (leaf : ℕ) (c : CubeValue) (before : List PointValue) (g : ℕ) (done levels : List Level) → g < 8 → levels ≡ drop g (old_below leaf c before) ++ done
    → levels ≡ level_of leaf (child c g) (inside c before) ∷ (drop (g + 1) (old_below leaf c before) ++ done)
in_front leaf c before g done levels low half =
    let d : Level = Leaf [] in
    half ∙ ap (λ (ls : List Level). ls ++ done) (drop_more (old_below leaf c before) g d (omega (arith, eight_below leaf c before)))
    ∙ ap (λ l. l ∷ (drop (g + 1) (old_below leaf c before) ++ done)) (at_up_to (λ k. level_of leaf (child c k) (inside c before)) 8 g d low)

pub front_there : (x : Level) (xs levels : List Level) → levels ≡ x ∷ xs → 0 < length levels
front_there x xs levels e = omega (arith, ap length e)

some_first : (x y : Level) (xs : List Level) → slice_get (x ∷ xs) 0 ≡ Some y → y ≡ x
some_first x y xs e = let f : Some x ≡ Some y = e in cc

pub front_is : (x y : Level) (xs levels : List Level) → levels ≡ x ∷ xs → slice_get levels 0 ≡ Some y → y ≡ x
front_is x y xs levels e at = some_first x y xs (ap (λ (ls : List Level). slice_get ls 0) (sym e) ∙ at)

pub front_gone : (x : Level) (xs levels rest : List Level) → levels ≡ x ∷ xs → rest ≡ remove levels 0 → rest ≡ xs
front_gone x xs levels rest e gone = gone ∙ ap (λ (ls : List Level). remove ls 0) e

-- a node below has room for its part of the points
pub child_room : (leaf : ℕ) (c c' : CubeValue) (before points part : List PointValue) (g : ℕ) (below : Level) → c' ≡ child c g → below ≡ level_of leaf (child c g) (inside c before) → part ≡ inside (child c g) points
    → length before + length points < 2 ^ 32 → HasRoom leaf c' below (length part)
child_room leaf c c' before points part g below smaller is within few = record {
  points = inside c before;
  is = is ∙ ap (λ k. level_of leaf k (inside c before)) (sym smaller);
  few = omega (arith, few_inside c before, few_inside (child c g) points, ap length within);
}

-- one node below has grown
pub one_grown : (leaf : ℕ) (c c' : CubeValue) (before points part : List PointValue) (g : ℕ) (after : Level) (rest pushed : List Level) → c' ≡ child c g → part ≡ inside (child c g) points
    → rest ≡ drop (g + 1) (old_below leaf c before) ++ new_below leaf c before points g → pushed ≡ rest ++ after ∷ [] → after ≡ level_of leaf c' (inside c before ++ part)
    → pushed ≡ drop (g + 1) (old_below leaf c before) ++ new_below leaf c before points (g + 1)
one_grown leaf c c' before points part g after rest pushed smaller within half push grown =
    let F : ℕ → Level = λ k. level_of leaf (child c k) (inside c before ++ points) in
    let here : after ≡ F g =
    grown ∙ (λ i. level_of leaf (smaller i) (inside c before ++ within i))
    ∙ level_same leaf (child c g) (inside c before ++ inside (child c g) points) (inside c before ++ points)
    (inside_part (child c g) (inside c before) points) in
    push ∙ ap (λ (ls : List Level). ls ++ after ∷ []) half
    ∙ append_assoc (drop (g + 1) (old_below leaf c before)) (new_below leaf c before points g) (after ∷ [])
    ∙ ap (λ (ls : List Level). drop (g + 1) (old_below leaf c before) ++ ls) (one_more F g (map F (up_to g)) (map F (up_to g) ++ after ∷ []) after refl refl here)
  where
    inside_part : (k : CubeValue) (ps qs : List PointValue) → inside k (ps ++ inside k qs) ≡ inside k (ps ++ qs)
    inside_part k ps qs = inside_both k ps (inside k qs) (filter_passes (contains k) qs) ∙ sym (filter-append (contains k) ps qs)

-- all of them have grown
pub grown_inner : (leaf : ℕ) (c : CubeValue) (before points : List PointValue) (n : InnerLevel) (g m : ℕ) (runs : List NearValue) (ls : List Level) → IsInnerOf leaf c before n → All (λ p. IsTrue (contains c p)) points
    → m ≡ n.count + length points → runs ≡ nears c (inside c before ++ points) → g ≡ 8
    → ls ≡ drop g (old_below leaf c before) ++ new_below leaf c before points g
    → Inner record { count = m; runs = runs; levels = ls } ≡ level_of leaf c (before ++ points)
grown_inner leaf c before points n g m runs ls inner h counted keyed end half =
    let q : List PointValue = inside c before ++ points in
    let all : ls ≡ new_below leaf c before points 8 =
    half ∙ (λ i. drop (end i) (old_below leaf c before) ++ new_below leaf c before points (end i))
    ∙ ap (λ (ks : List Level). ks ++ new_below leaf c before points 8) (drop_all 8 (old_below leaf c before) (omega (arith, eight_below leaf c before))) in
    let many : m ≡ length q = omega (arith, counted, ap (λ (k : InnerLevel). k.count) inner.is, length-append (inside c before) points) in
    let whole : inside c (before ++ points) ≡ q = inside_both c before points h in
    (λ i. Inner record { count = many i; runs = keyed i; levels = all i })
    ∙ ap (λ (xs : List PointValue). Inner (node_of leaf c xs)) (sym whole)
    ∙ sym (is_inner leaf c (before ++ points) (omega (arith, ap length whole, length-append (inside c before) points, inner.more)) inner.splits)

-- before the first of them
pub half_begins : (leaf : ℕ) (c : CubeValue) (before points : List PointValue) (n : InnerLevel) → IsInnerOf leaf c before n → n.levels ≡ drop 0 (old_below leaf c before) ++ new_below leaf c before points 0
half_begins leaf c before points n inner = ap (λ (k : InnerLevel). k.levels) inner.is ∙ sym (append-nil (old_below leaf c before))
