-- Lists opened one after the other for the paths that are ready.
use Rattle.std.proofs.Common.{◌≡◌, ℕ, zero, suc, ◌+◌, ◌-◌, ◌<◌, ◌≤◌, ◌⊎◌, inl, inr, List, [], ◌∷◌, ◌++◌, length, take, drop, Some, ap, ◌∙◌, sym, refl, arith, subst, get_or, add-one}
use Rattle.std.specs.Prelude.{All}
use Rattle.std.proofs.lemmas.Bool.{cases_lt}
use Rattle.std.proofs.lemmas.List.{get_or-map, get_or-take, length-take-le, take_more, get_or_append_left, get_or_push, length_push, length-map, map_push, take-append-drop}
use Rattle.std.proofs.lemmas.List.Elements.{All-get_or}
use Rattle.std.proofs.lemmas.List.Sums.{sum_by-drop_more}
use Rattle.cube_math.specs.Cubes.{CubeValue, cube_at}
use Rattle.leaf_shape.specs.declared.node.Node.{Node}
use Rattle.leaf_shape.specs.declared.opening.Opening.{Opening}
use Rattle.leaf_shape.specs.declared.place.Place.{Place}
use Rattle.leaf_shape.specs.Kept.{ArePlaced, IsPlaced}
use Rattle.leaf_shape.specs.Openings.{AreShared, blocks, paths_of}
use Rattle.leaf_shape.specs.Shapes.{path_of}
use Rattle.leaf_shape.specs.Tables.{IsOpened, missing, node_at}
use Rattle.leaf_shape.proofs.ListLaws.{before_or_last, listed_once_opened, path_before, path_last}
use Rattle.leaf_shape.proofs.NodeLaws.{IsOnTheWay, missing_behind, octants_below, on_the_way}

-- a node stands at a path
pub record HasNode (nodes : List Node) (path : List ℕ) : Type 0 where
  pub number : ℕ
  pub at : node_at nodes 0 path ≡ Some number

-- ---- one list more
module _ (cube : CubeValue) (old new : List Node) (paths : List (List ℕ)) (places : List Place) (path : List ℕ) (place : Place) (i : ℕ)
    (placed : ArePlaced cube old paths places) (opened : IsOpened old new path (length paths) i) (fits : length path + 7 ≤ cube.bits)
    (cube_is : place.cube ≡ cube_at cube path) (number : place.node ≡ i) where
  pub placed_more : ArePlaced cube new (paths ++ path ∷ []) (places ++ place ∷ [])
  placed_more = record {
    listed = listed_once_opened paths path old new i placed.listed opened;
    len = length_push places place ∙ ap (λ n. n + 1) placed.len ∙ sym (length_push paths path);
    some = omega (arith, length_push paths path);
    root = path_before paths path 0 placed.some ∙ placed.root;
    each = λ list q low at. each list q at (before_or_last paths path list low);
  }
    where
      each : (list : ℕ) (q : Place) → q ≡ get_or (places ++ place ∷ []) list q
          → (list < length paths) ⊎ (list ≡ length paths) → IsPlaced cube new (path_of (paths ++ path ∷ []) list) q
      each list q at (inl low) =
          let was : IsPlaced cube old (path_of paths list) q =
          placed.each list q low (at ∙ get_or_append_left places (place ∷ []) q list (omega (arith, low, placed.len))) in
          let P : List ℕ → Type 0 = λ r. IsPlaced cube new r q in
          subst P (sym (path_before paths path list low)) record { is = was.is; at = opened.kept (path_of paths list) q.node was.at; in_cube = was.in_cube }
      each list q at (inr last) =
          let is : q ≡ place = at ∙ get_or_push places place q list (placed.len ∙ sym last) in
          let P : List ℕ → Type 0 = λ r. IsPlaced cube new r q in
          subst P (sym (ap (path_of (paths ++ path ∷ [])) last ∙ path_last paths path)) record {
            is = ap (λ (r : Place). r.cube) is ∙ cube_is;
            at = opened.here ∙ ap Some (sym (ap (λ (r : Place). r.node) is ∙ number));
            in_cube = record { octants = octants_below new 0 path i opened.here; fits = fits };
          }

-- ---- the paths before
-- the path before the next opening is that of the last one
pub before_next : (ready : List Opening) (k : ℕ) (o : Opening) → k < length ready → o ≡ get_or ready k o → path_of ([] ∷ paths_of ready) (k + 1) ≡ o.path
before_next ready k o low at = rw add-one (get_or-map (λ (q : Opening). q.path) ready k o [] low ∙ ap (λ (q : Opening). q.path) (sym at))

-- a node stands at the octants that a path shares with one at which a node stands
shared_node : (nodes : List Node) (path other : List ℕ) (steps : ℕ) → HasNode nodes other → take steps other ≡ take steps path → HasNode nodes (take steps path)
shared_node nodes path other steps has same =
    let w : IsOnTheWay nodes 0 (take steps other) (drop steps other) has.number =
    on_the_way nodes 0 (take steps other) (drop steps other) has.number (ap (node_at nodes 0) (take-append-drop steps other) ∙ has.at) in
    record { number = w.number; at = ap (node_at nodes 0) (sym same) ∙ w.at }

-- an opening takes no more nodes than were counted for it
pub room_for : (nodes : List Node) (ready : List Opening) (k : ℕ) (o : Opening) → AreShared ready → k < length ready
    → o ≡ get_or ready k o → HasNode nodes (path_of ([] ∷ paths_of ready) k)
    → missing nodes 0 o.path + blocks (drop (k + 1) ready) ≤ blocks (drop k ready)
room_for nodes ready k o shared low at before =
    let has : HasNode nodes (take o.shared o.path) = shared_node nodes o.path (path_of ([] ∷ paths_of ready) k) o.shared before (shared k o low at) in
    let one : (λ (q : Opening). length q.path - q.shared) (get_or ready k o) ≡ length o.path - o.shared =
    ap (λ (q : Opening). length q.path - q.shared) (sym at) in
    omega (arith, missing_behind nodes 0 o.shared o.path has.number has.at, one, sum_by-drop_more (λ (q : Opening). length q.path - q.shared) ready k o low)

pub fits_at : (cube : CubeValue) (ready : List Opening) (k : ℕ) (o : Opening)
    → All (λ (q : Opening). length q.path + 7 ≤ cube.bits) ready → k < length ready → o ≡ get_or ready k o
    → length o.path + 7 ≤ cube.bits
fits_at cube ready k o fit low at =
    let P : Opening → Type 0 = λ q. length q.path + 7 ≤ cube.bits in
    subst P (sym at) (All-get_or P ready k o low fit)

-- ---- openings one after the other
pub shared_more : (ready : List Opening) (o : Opening) → AreShared ready
    → take o.shared (path_of ([] ∷ paths_of ready) (length ready)) ≡ take o.shared o.path
    → AreShared (ready ++ o ∷ [])
shared_more ready o shared same k q low at = of_place (cases_lt k (length ready))
  where
    paths_are : [] ∷ paths_of (ready ++ o ∷ []) ≡ ([] ∷ paths_of ready) ++ o.path ∷ []
    paths_are = ap (λ (ps : List (List ℕ)). [] ∷ ps) (map_push (λ (r : Opening). r.path) ready o)

    before_is : (j : ℕ) → j ≤ length ready → path_of ([] ∷ paths_of (ready ++ o ∷ [])) j ≡ path_of ([] ∷ paths_of ready) j
    before_is j le = ap (λ (ps : List (List ℕ)). path_of ps j) paths_are
        ∙ path_before ([] ∷ paths_of ready) o.path j (omega (arith, le, length-map ready (λ (r : Opening). r.path)))

    of_place : (k < length ready) ⊎ (length ready ≤ k) → take q.shared (path_of ([] ∷ paths_of (ready ++ o ∷ [])) k) ≡ take q.shared q.path
    of_place (inl inside) =
        ap (take q.shared) (before_is k (omega (arith, inside))) ∙ shared k q inside (at ∙ get_or_append_left ready (o ∷ []) q k inside)
    of_place (inr past) =
        let last : k ≡ length ready = omega (arith, past, low, length_push ready o) in
        let is : q ≡ o = at ∙ get_or_push ready o q k (sym last) in
        let n : q.shared ≡ o.shared = ap (λ (r : Opening). r.shared) is in
        let path : q.path ≡ o.path = ap (λ (r : Opening). r.path) is in
        (λ i. take (n i) (path_of ([] ∷ paths_of (ready ++ o ∷ [])) (last i)))
        ∙ ap (take o.shared) (before_is (length ready) (omega arith)) ∙ same ∙ sym (λ i. take (n i) (path i))

pub none_shared : AreShared []
none_shared k o low at = absurd (omega arith)

-- of the paths so far the last one is the one before the next
pub before_of_taken : (paths : List (List ℕ)) (i : ℕ) → path_of ([] ∷ take i paths) i ≡ path_of ([] ∷ paths) i
before_of_taken paths zero = refl
before_of_taken paths (suc i) = get_or-take (suc i) paths i [] (omega arith)

-- one opening more, of the next path
pub opening_more : (paths : List (List ℕ)) (ready : List Opening) (i : ℕ) (o : Opening) → AreShared ready → paths_of ready ≡ take i paths → i < length paths
    → take o.shared (path_of ([] ∷ paths) i) ≡ take o.shared o.path → AreShared (ready ++ o ∷ [])
opening_more paths ready i o shared so_far low same = shared_more ready o shared (ap (take o.shared) before ∙ same)
  where
    number : length ready ≡ i
    number = sym (length-map ready (λ (q : Opening). q.path)) ∙ ap length so_far ∙ length-take-le i paths (omega arith)

    before : path_of ([] ∷ paths_of ready) (length ready) ≡ path_of ([] ∷ paths) i
    before = ap (λ (ps : List (List ℕ)). path_of ([] ∷ ps) (length ready)) so_far ∙ ap (path_of ([] ∷ take i paths)) number ∙ before_of_taken paths i

pub paths_more : (paths : List (List ℕ)) (ready : List Opening) (i : ℕ) (o : Opening) → paths_of ready ≡ take i paths
    → i < length paths → o.path ≡ get_or paths i []
    → paths_of (ready ++ o ∷ []) ≡ take (i + 1) paths
paths_more paths ready i o so_far low at =
    map_push (λ (q : Opening). q.path) ready o ∙ ap (λ (ps : List (List ℕ)). ps ++ o.path ∷ []) so_far
    ∙ ap (λ (q : List ℕ). take i paths ++ q ∷ []) at ∙ sym (take_more paths i [] low)

pub path_after : (paths : List (List ℕ)) (i : ℕ) → path_of ([] ∷ paths) (i + 1) ≡ path_of paths i
path_after paths i = rw add-one refl

-- paths fit where their openings are to
pub fit_from_paths : (cube : CubeValue) (paths : List (List ℕ)) (ready : List Opening) → paths_of ready ≡ paths
    → All (λ (path : List ℕ). length path + 7 ≤ cube.bits) paths
    → All (λ (o : Opening). length o.path + 7 ≤ cube.bits) ready
fit_from_paths cube paths ready same fit = λ k d low.
    let at : path_of paths k ≡ (get_or ready k d).path = ap (λ (ps : List (List ℕ)). path_of ps k) (sym same)
    ∙ get_or-map (λ (o : Opening). o.path) ready k d [] low in
    let long : length paths ≡ length ready = ap length (sym same) ∙ length-map ready (λ (o : Opening). o.path) in
    omega (arith, ap length at, fit k [] (omega (arith, low, long)))

-- the same nodes, paths and places
pub placed_same : (cube : CubeValue) (nodes nodes' : List Node) (paths paths' : List (List ℕ))
    (places places' : List Place) → nodes' ≡ nodes → paths' ≡ paths → places' ≡ places
    → ArePlaced cube nodes paths places → ArePlaced cube nodes' paths' places'
placed_same cube nodes nodes' paths paths' places places' n p q placed =
    let N : List Node → Type 0 = λ ns. ArePlaced cube ns paths' places' in
    let P : List (List ℕ) → Type 0 = λ ps. ArePlaced cube nodes ps places' in
    let Q : List Place → Type 0 = λ qs. ArePlaced cube nodes paths qs in
    subst N (sym n) (subst P (sym p) (subst Q (sym q) placed))
