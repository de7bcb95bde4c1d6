-- Counts of lists with the same points in another order.
use Rattle.std.proofs.Common.{◌≡◌, ℕ, zero, suc, ◌+◌, ◌≤◌, inl, inr, Bool, true, false, ◌&&◌, not, cond, List, [], ◌∷◌, ◌++◌, map, length, filter, ap, ◌∙◌, sym, refl, arith, IsTrue, count_by}
use Rattle.std.specs.List.{All}
use Rattle.std.proofs.lemmas.Bool.{cases_lt}
use Rattle.std.proofs.lemmas.List.Elements.{All-nil, All-cons}
use Rattle.std.proofs.lemmas.List.Sums.{sum_by-append}
use Rattle.cube_math.specs.Points.{PointValue}
use Rattle.cube_math.specs.Cubes.{CubeValue, contains, child}
use Rattle.octree_model.specs.Bags.{IsSameBag}
use Rattle.octree_model.specs.Numbers.{up_to}
use Rattle.octree_model.specs.Octree.{inside}
use Rattle.leaf_counts.specs.declared.counts.Counts.{Leaf, Inner}
use Rattle.leaf_counts.proofs.CountLaws.{counts_of, is_leaf, is_inner, child_inside, map_same}

count_append : (t : PointValue → Bool) (xs ys : List PointValue) → count_by t (xs ++ ys) ≡ count_by t xs + count_by t ys
count_append t xs ys = sum_by-append (λ x. cond (t x) 1 0) xs ys

count_first : (t : PointValue → Bool) (p : PointValue) (ps : List PointValue) → count_by t (p ∷ ps) ≡ cond (t p) 1 0 + count_by t ps
count_first t p ps = omega (arith, count_append t (p ∷ []) ps)

-- of those that pass one test, as many pass another as pass both
count_kept : (t keep : PointValue → Bool) (ps : List PointValue) → count_by t (filter keep ps) ≡ count_by (λ p. keep p && t p) ps
count_kept t keep [] = refl
count_kept t keep (p ∷ ps) = one (keep p) refl (count_kept t keep ps)
  where
    one : (b : Bool) → keep p ≡ b → count_by t (filter keep ps) ≡ count_by (λ q. keep q && t q) ps → count_by t (cond b (p ∷ filter keep ps) (filter keep ps)) ≡ count_by (λ q. keep q && t q) (p ∷ ps)
    one true e rest =
        count_first t p (filter keep ps) ∙ ap (λ n. cond (t p) 1 0 + n) rest ∙ ap (λ b. cond (b && t p) 1 0 + count_by (λ q. keep q && t q) ps) (sym e) ∙ sym (count_first (λ q. keep q && t q) p ps)
    one false e rest =
        let F : Bool → ℕ = λ b. cond (b && t p) 1 0 in
        let none : F (keep p) ≡ 0 = ap F e in
        let whole : count_by (λ q. keep q && t q) ps ≡ count_by (λ q. keep q && t q) (p ∷ ps) = omega (arith, none, count_first (λ q. keep q && t q) p ps) in
        rest ∙ whole

same_kept : (keep : PointValue → Bool) (ps qs : List PointValue) → IsSameBag ps qs → IsSameBag (filter keep ps) (filter keep qs)
same_kept keep ps qs same test = count_kept test keep ps ∙ same (λ p. keep p && test p) ∙ sym (count_kept test keep qs)

count_all : (ps : List PointValue) → count_by (λ p. true) ps ≡ length ps
count_all [] = refl
count_all (p ∷ ps) = omega (arith, count_first (λ q. true) p ps, count_all ps)

pub as_many : (ps qs : List PointValue) → IsSameBag ps qs → length ps ≡ length qs
as_many ps qs same = sym (count_all ps) ∙ same (λ p. true) ∙ count_all qs

-- more points, the same on both sides
pub same_with : (ps qs rs : List PointValue) → IsSameBag ps qs → IsSameBag (ps ++ rs) (qs ++ rs)
same_with ps qs rs same test = count_append test ps rs ∙ ap (λ n. n + count_by test rs) (same test) ∙ sym (count_append test qs rs)

-- what is the bag of a cube's points lies in the cube
none_kept : (t : PointValue → Bool) (ps : List PointValue) → count_by (λ p. not (t p)) (filter t ps) ≡ 0
none_kept t [] = refl
none_kept t (p ∷ ps) = one (t p) refl (none_kept t ps)
  where
    one : (b : Bool) → t p ≡ b → count_by (λ q. not (t q)) (filter t ps) ≡ 0 → count_by (λ q. not (t q)) (cond b (p ∷ filter t ps) (filter t ps)) ≡ 0
    one true e rest =
        let F : Bool → ℕ = λ b. cond (not b) 1 0 in
        let none : F (t p) ≡ 0 = ap F e in
        let whole : count_by (λ q. not (t q)) (p ∷ filter t ps) ≡ 0 = omega (arith, none, rest, count_first (λ q. not (t q)) p (filter t ps)) in
        whole
    one false e rest = rest

all_where_none : (t : PointValue → Bool) (ps : List PointValue) → count_by (λ p. not (t p)) ps ≡ 0 → All (λ p. IsTrue (t p)) ps
all_where_none t [] e = All-nil (λ p. IsTrue (t p))
all_where_none t (p ∷ ps) e = one (t p) refl (all_where_none t ps (omega (arith, e, count_first (λ q. not (t q)) p ps)))
  where
    one : (b : Bool) → t p ≡ b → All (λ q. IsTrue (t q)) ps → All (λ q. IsTrue (t q)) (p ∷ ps)
    one true h rest = All-cons (λ q. IsTrue (t q)) p ps h rest
    one false h rest =
        let F : Bool → ℕ = λ b. cond (not b) 1 0 in
        let here : F (t p) ≡ 1 = ap F h in
        absurd (omega (arith, e, here, count_first (λ q. not (t q)) p ps))

pub bag_inside : (c : CubeValue) (ps qs : List PointValue) → IsSameBag ps (inside c qs) → All (λ p. IsTrue (contains c p)) ps
bag_inside c ps qs same = all_where_none (contains c) ps (same (λ p. not (contains c p)) ∙ none_kept (contains c) qs)

-- the same bag in a cube has the same counts there
same_counts_at : (depth leaf : ℕ) (c : CubeValue) (ps qs : List PointValue) → c.bits ≤ depth → IsSameBag (inside c ps) (inside c qs) → counts_of leaf c ps ≡ counts_of leaf c qs
same_counts_at zero leaf c ps qs d same = is_leaf leaf c ps (inr (omega arith)) ∙ ap Leaf (as_many (inside c ps) (inside c qs) same) ∙ sym (is_leaf leaf c qs (inr (omega arith)))
same_counts_at (suc depth) leaf c ps qs d same =
    let long : length (inside c ps) ≡ length (inside c qs) = as_many (inside c ps) (inside c qs) same in
    elim (cases_lt leaf (length (inside c ps))) [
      | inl more ↦ elim (cases_lt 7 c.bits) [
        | inl high ↦
            let below : map (λ g. counts_of leaf (child c g) ps) (up_to 8) ≡ map (λ g. counts_of leaf (child c g) qs) (up_to 8) =
            map_same (λ g. counts_of leaf (child c g) ps) (λ g. counts_of leaf (child c g) qs) 8 (λ g low.
            same_counts_at depth leaf (child c g) ps qs (omega arith) (λ test.
            ap (count_by test) (sym (child_inside c g ps (omega arith) low)) ∙ same_kept (contains (child c g)) (inside c ps) (inside c qs) same test ∙ ap (count_by test) (child_inside c g qs (omega arith) low))) in
            is_inner leaf c ps more high ∙ (λ i. Inner (long i) (below i)) ∙ sym (is_inner leaf c qs (omega arith) high)
        | inr low ↦ is_leaf leaf c ps (inr low) ∙ ap Leaf long ∙ sym (is_leaf leaf c qs (inr low))
      ]
      | inr few ↦ is_leaf leaf c ps (inl few) ∙ ap Leaf long ∙ sym (is_leaf leaf c qs (inl (omega arith)))
    ]

pub same_counts : (leaf : ℕ) (c : CubeValue) (ps qs : List PointValue) → IsSameBag (inside c ps) (inside c qs) → counts_of leaf c ps ≡ counts_of leaf c qs
same_counts leaf c ps qs same = same_counts_at c.bits leaf c ps qs (omega arith) same
