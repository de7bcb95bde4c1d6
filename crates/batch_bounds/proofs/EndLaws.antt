-- Where the pieces of clouds end.
use Rattle.std.proofs.Common.{◌≡◌, ℕ, zero, suc, ◌+◌, ◌*◌, ◌/◌, ◌<◌, ◌≤◌, min, List, [], ◌∷◌, ◌++◌, map, length, take, drop, get_or, ap, ◌∙◌, sym, refl, arith, append_assoc, Global}
use Rattle.std.specs.Prelude.{Vec}
use Rattle.std.specs.Int.{div_ceil}
use Rattle.std.proofs.lemmas.Grind.{div_ceil_times}
use Rattle.std.proofs.lemmas.Nat.{div-add-mod'}
use Rattle.std.proofs.Math.Nat.{mul-le-mul_left}
use Rattle.std.proofs.lemmas.List.{length-map, append-nil, length-append, length-take, map-append, take_all}
use Rattle.std.proofs.Math.Seq.{drop-cons, take-add}
use Rattle.cube_math.specs.Points.{PointValue}
use Rattle.octree_model.specs.Bags.{joined}
use Rattle.octree_model.specs.Numbers.{up_to}
use Rattle.octree_model.proofs.NumberLaws.{length-up_to}
use Rattle.batch_bounds.specs.Batches.{pieces, batches, ends_from}
use Rattle.batch_bounds.specs.Stops.{IsCut}

ends-append : (n : ℕ) (xs ys : List (List PointValue)) → ends_from n (xs ++ ys) ≡ ends_from n xs ++ ends_from (n + length (joined xs)) ys
ends-append n [] ys = let same : n ≡ n + 0 = omega arith in ap (λ k. ends_from k ys) same
ends-append n (x ∷ xs) ys =
    let more : n + length x + length (joined xs) ≡ n + length (x ++ joined xs) = omega (arith, length-append x (joined xs)) in
    ap (λ (l : List ℕ). (n + length x) ∷ l) (ends-append (n + length x) xs ys ∙ ap (λ k. ends_from (n + length x) xs ++ ends_from k ys) more)

joined-append : (xs ys : List (List PointValue)) → joined (xs ++ ys) ≡ joined xs ++ joined ys
joined-append [] ys = refl
joined-append (x ∷ xs) ys = ap (λ (l : List PointValue). x ++ l) (joined-append xs ys) ∙ sym (append_assoc x (joined xs) (joined ys))

-- a piece of a cloud
abbrev piece : ℕ → List PointValue → ℕ → List PointValue
piece size cloud k = take size (drop (k * size) cloud)

-- the first pieces together
first_pieces : (size m : ℕ) (cloud : List PointValue) → joined (map (piece size cloud) (up_to m)) ≡ take (m * size) cloud
first_pieces size zero cloud = let none : 0 ≡ 0 * size = omega arith in ap (λ k. take k cloud) none
first_pieces size (suc m) cloud =
    let more : m * size + size ≡ suc m * size = omega arith in
    ap joined (map-append (piece size cloud) (up_to m) (m ∷ [])) ∙ joined-append (map (piece size cloud) (up_to m)) (piece size cloud m ∷ [])
    ∙ (λ i. first_pieces size m cloud i ++ append-nil (piece size cloud m) i) ∙ sym (take-add (m * size) size cloud) ∙ ap (λ k. take k cloud) more

-- the pieces are the cloud
pieces_whole : (size : ℕ) (cloud : List PointValue) → 0 < size → joined (pieces size cloud) ≡ cloud
pieces_whole size cloud some = first_pieces size (div_ceil (length cloud) size) cloud ∙ take_all _ cloud (div_ceil_times (length cloud) size some).0

-- where the first pieces end
first_ends : (n size m : ℕ) (cloud : List PointValue) → ends_from n (map (piece size cloud) (up_to m)) ≡ map (λ k. n + min ((k + 1) * size) (length cloud)) (up_to m)
first_ends n size zero cloud = refl
first_ends n size (suc m) cloud =
    let before : length (joined (map (piece size cloud) (up_to m))) ≡ min (m * size) (length cloud) = ap length (first_pieces size m cloud) ∙ length-take (m * size) cloud in
    let whole : length (joined (map (piece size cloud) (up_to (suc m)))) ≡ min (suc m * size) (length cloud) = ap length (first_pieces size (suc m) cloud) ∙ length-take (suc m * size) cloud in
    let parts : length (joined (map (piece size cloud) (up_to (suc m)))) ≡ length (joined (map (piece size cloud) (up_to m))) + length (piece size cloud m) =
    ap (λ (l : List (List PointValue)). length (joined l)) (map-append (piece size cloud) (up_to m) (m ∷ [])) ∙ ap length (joined-append (map (piece size cloud) (up_to m)) (piece size cloud m ∷ []))
    ∙ length-append (joined (map (piece size cloud) (up_to m))) (piece size cloud m ++ []) ∙ ap (λ (l : List PointValue). length (joined (map (piece size cloud) (up_to m))) + length l) (append-nil (piece size cloud m)) in
    let next : (m + 1) * size ≡ suc m * size = omega arith in
    let last : n + length (joined (map (piece size cloud) (up_to m))) + length (piece size cloud m) ≡ n + min ((m + 1) * size) (length cloud) = omega (arith, parts, whole, ap (λ k. min k (length cloud)) next) in
    ap (ends_from n) (map-append (piece size cloud) (up_to m) (m ∷ []))
    ∙ ends-append n (map (piece size cloud) (up_to m)) (piece size cloud m ∷ [])
    ∙ (λ i. first_ends n size m cloud i ++ last i ∷ [])
    ∙ sym (map-append (λ k. n + min ((k + 1) * size) (length cloud)) (up_to m) (m ∷ []))

-- the ends of a cloud's batches, and of those behind it
pub cloud_ends : (n size : ℕ) (cloud : List PointValue) (clouds : List (List PointValue)) → 0 < size
    → ends_from n (batches size (cloud ∷ clouds)) ≡ map (λ k. n + min ((k + 1) * size) (length cloud)) (up_to (div_ceil (length cloud) size)) ++ ends_from (n + length cloud) (batches size clouds)
cloud_ends n size cloud clouds some =
    ends-append n (pieces size cloud) (batches size clouds)
    ∙ (λ i. first_ends n size (div_ceil (length cloud) size) cloud i ++ ends_from (n + length (pieces_whole size cloud some i)) (batches size clouds))

-- all batches together are all clouds
pub batches_whole : (size : ℕ) (clouds : List (List PointValue)) → 0 < size → joined (batches size clouds) ≡ joined clouds
batches_whole size [] some = refl
batches_whole size (cloud ∷ clouds) some = joined-append (pieces size cloud) (batches size clouds) ∙ (λ i. pieces_whole size cloud some i ++ batches_whole size clouds some i)

-- a cloud has no more pieces than points
few_pieces : (n size : ℕ) → 0 < size → div_ceil n size ≤ n
few_pieces n size some =
    let more : n / size * 1 ≤ n / size * size = mul-le-mul_left (n / size) some in
    omega (arith, div-add-mod' n size)

-- so there are no more batches than points
pub few_batches : (size : ℕ) (clouds : List (List PointValue)) → 0 < size → length (batches size clouds) ≤ length (joined clouds)
few_batches size [] some = omega arith
few_batches size (cloud ∷ clouds) some =
    let here : length (pieces size cloud) ≡ div_ceil (length cloud) size = length-map (up_to (div_ceil (length cloud) size)) (piece size cloud) ∙ length-up_to (div_ceil (length cloud) size) in
    omega (arith, here, few_pieces (length cloud) size some, few_batches size clouds some, length-append (pieces size cloud) (batches size clouds), length-append cloud (joined clouds))

-- points and ends, as they are made of clouds
pub cut_of_clouds : (size : ℕ) (points : List PointValue) (ends : List ℕ) (clouds : List (List PointValue)) → 0 < size → points ≡ joined clouds → ends ≡ ends_from 0 (batches size clouds)
    → IsCut points ends (batches size clouds)
cut_of_clouds size points ends clouds some joined_is ends_are = record { joined_is = joined_is ∙ sym (batches_whole size clouds some); ends_are = ends_are }

-- the clouds from a place on
pub next_cloud : (clouds : List (Vec PointValue Global)) (i : ℕ) (cloud : Vec PointValue Global) → i < length clouds → cloud ≡ get_or clouds i cloud → drop i clouds ≡ cloud ∷ drop (i + 1) clouds
next_cloud clouds i cloud l is =
    let after : suc i ≡ i + 1 = omega arith in
    drop-cons clouds i cloud l ∙ ap (λ (c : Vec PointValue Global). c ∷ drop (suc i) clouds) (sym is) ∙ ap (λ (k : ℕ). cloud ∷ drop k clouds) after
