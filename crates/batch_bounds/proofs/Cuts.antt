-- Points that are cut into batches: where each batch lies among them.
use Rattle.std.proofs.Common.{◌≡◌, ℕ, zero, suc, ◌+◌, ◌<◌, ◌≤◌, List, [], ◌∷◌, ◌++◌, length, take, drop, get_or, ap, ◌∙◌, sym, refl, arith, append_assoc}
use Rattle.std.proofs.lemmas.List.{length-append, get_or_append_left, get_or-append-add, append-nil}
use Rattle.std.proofs.Math.Seq.{take-append_seam}
use Rattle.cube_math.specs.Points.{PointValue}
use Rattle.octree_model.specs.Bags.{joined}
use Rattle.batch_bounds.specs.Batches.{ends_from}
use Rattle.batch_bounds.specs.Stops.{IsCut}

-- a batch
abbrev pub batch_at : List (List PointValue) → ℕ → List PointValue
batch_at bs k = get_or bs k []

-- how many points the first k batches have
abbrev pub end_of : List (List PointValue) → ℕ → ℕ
end_of bs k = length (joined (take k bs))

pub length-ends : (n : ℕ) (bs : List (List PointValue)) → length (ends_from n bs) ≡ length bs
length-ends n [] = refl
length-ends n (b ∷ bs) = ap suc (length-ends (n + length b) bs)

ends_at_suc : (n : ℕ) (bs : List (List PointValue)) (k : ℕ) → k < length bs → get_or (ends_from n bs) k 0 ≡ n + end_of bs (suc k)
ends_at_suc n [] k l = absurd (omega arith)
ends_at_suc n (b ∷ bs) zero l = omega (arith, length-append b (joined []))
ends_at_suc n (b ∷ bs) (suc k) l =
    let rest : get_or (ends_from (n + length b) bs) k 0 ≡ n + length b + end_of bs (suc k) = ends_at_suc (n + length b) bs k (omega arith) in
    omega (arith, rest, length-append b (joined (take (suc k) bs)))

pub ends_at : (n : ℕ) (bs : List (List PointValue)) (k : ℕ) → k < length bs → get_or (ends_from n bs) k 0 ≡ n + end_of bs (k + 1)
ends_at n bs k l = ends_at_suc n bs k l ∙ (let next : suc k ≡ k + 1 = omega arith in ap (λ j. n + end_of bs j) next)

pub ends-take : (n k : ℕ) (bs : List (List PointValue)) → take k (ends_from n bs) ≡ ends_from n (take k bs)
ends-take n zero bs = refl
ends-take n (suc k) [] = refl
ends-take n (suc k) (b ∷ bs) = ap (λ (l : List ℕ). (n + length b) ∷ l) (ends-take (n + length b) k bs)

-- the first k batches and one more
joined_suc : (bs : List (List PointValue)) (k : ℕ) → k < length bs → joined (take (suc k) bs) ≡ joined (take k bs) ++ batch_at bs k
joined_suc [] k l = absurd (omega arith)
joined_suc (b ∷ bs) zero l = append-nil b
joined_suc (b ∷ bs) (suc k) l = ap (λ (ps : List PointValue). b ++ ps) (joined_suc bs k (omega arith)) ∙ sym (append_assoc b (joined (take k bs)) (batch_at bs k))

pub joined_more : (bs : List (List PointValue)) (k : ℕ) → k < length bs → joined (take (k + 1) bs) ≡ joined (take k bs) ++ batch_at bs k
joined_more bs k l = (let next : k + 1 ≡ suc k = omega arith in ap (λ j. joined (take j bs)) next) ∙ joined_suc bs k l

pub end_more : (bs : List (List PointValue)) (k : ℕ) → k < length bs → end_of bs (k + 1) ≡ end_of bs k + length (batch_at bs k)
end_more bs k l = ap length (joined_more bs k l) ∙ length-append (joined (take k bs)) (batch_at bs k)

-- all begin with the first k batches
pub joined_split : (bs : List (List PointValue)) (k : ℕ) → joined bs ≡ joined (take k bs) ++ joined (drop k bs)
joined_split bs zero = refl
joined_split [] (suc k) = refl
joined_split (b ∷ bs) (suc k) = ap (λ (ps : List PointValue). b ++ ps) (joined_split bs k) ∙ sym (append_assoc b (joined (take k bs)) (joined (drop k bs)))

pub take-take : {X : Type 0} (j k : ℕ) (xs : List X) → j ≤ k → take j (take k xs) ≡ take j xs
take-take zero k xs l = refl
take-take (suc j) zero xs l = absurd (omega arith)
take-take (suc j) (suc k) [] l = refl
take-take (suc j) (suc k) (x ∷ xs) l = ap (λ (l : List _). x ∷ l) (take-take j k xs (omega arith))

-- the points of the first k batches are the first ones
pub first_points : (bs : List (List PointValue)) (k : ℕ) → take (end_of bs k) (joined bs) ≡ joined (take k bs)
first_points bs k = ap (take (end_of bs k)) (joined_split bs k) ∙ take-append_seam (joined (take k bs)) (joined (drop k bs))

-- what stands at a place of a batch stands there among all points
pub point_in : (bs : List (List PointValue)) (k j : ℕ) (d : PointValue) → k < length bs → j < length (batch_at bs k) → get_or (joined bs) (end_of bs k + j) d ≡ get_or (batch_at bs k) j d
point_in bs k j d l m =
    let next : joined bs ≡ joined (take (k + 1) bs) ++ joined (drop (k + 1) bs) = joined_split bs (k + 1) in
    let within : end_of bs k + j < length (joined (take (k + 1) bs)) = omega (arith, end_more bs k l) in
    ap (λ (ps : List PointValue). get_or ps (end_of bs k + j) d) next ∙ get_or_append_left (joined (take (k + 1) bs)) (joined (drop (k + 1) bs)) d (end_of bs k + j) within
    ∙ ap (λ (ps : List PointValue). get_or ps (end_of bs k + j) d) (joined_more bs k l) ∙ get_or-append-add (joined (take k bs)) (batch_at bs k) j d

-- later batches end no earlier
pub ends_rise : (bs : List (List PointValue)) (j k : ℕ) → j ≤ k → end_of bs j ≤ end_of bs k
ends_rise bs j k l =
    let prefix : joined (take k bs) ≡ joined (take j (take k bs)) ++ joined (drop j (take k bs)) = joined_split (take k bs) j in
    let same : joined (take j (take k bs)) ≡ joined (take j bs) = ap joined (take-take j k bs l) in
    omega (arith, ap length prefix, ap length same, length-append (joined (take j (take k bs))) (joined (drop j (take k bs))))

pub ends_within : (bs : List (List PointValue)) (k : ℕ) → end_of bs k ≤ length (joined bs)
ends_within bs k = omega (arith, ap length (joined_split bs k), length-append (joined (take k bs)) (joined (drop k bs)))

-- without batches there are no points
pub no_batches : (points : List PointValue) (ends : List ℕ) (bs : List (List PointValue)) → IsCut points ends bs → length ends ≡ 0 → points ≡ []
no_batches points ends [] cut none = cut.joined_is
no_batches points ends (b ∷ bs) cut none = absurd (omega (arith, ap length cut.ends_are, length-ends 0 (b ∷ bs)))
