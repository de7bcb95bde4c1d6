-- One point more of a seed.
use Rattle.std.proofs.Common.{◌≡◌, ◌∙◌, ℕ, suc, ◌+◌, ◌*◌, ◌++◌, ◌∷◌, [], List, ap, sym, refl, arith}
use Rattle.cube_math.specs.Points.{PointValue}
use Rattle.synthetic_cloud.specs.Generated.{next, state_at, point_of, point_at, generated}

-- the state behind one that stands at a place
after : (seed k m s : ℕ) → s ≡ state_at seed k → m ≡ suc k → next s ≡ state_at seed m
after seed k m s is place = ap next is ∙ sym (ap (state_at seed) place)

-- three states more
pub record AreNext (seed i s a b c : ℕ) : Type 0 where
  pub third : c ≡ state_at seed (3 * (i + 1))
  pub point : point_of a b c ≡ point_at seed i

pub next_three : (seed i s a b c : ℕ) → s ≡ state_at seed (3 * i) → a ≡ next s → b ≡ next a → c ≡ next b → AreNext seed i s a b c
next_three seed i s a b c is first second third =
    let at_a : a ≡ state_at seed (3 * i + 1) = first ∙ after seed (3 * i) (3 * i + 1) s is (omega arith) in
    let at_b : b ≡ state_at seed (3 * i + 2) = second ∙ after seed (3 * i + 1) (3 * i + 2) a at_a (omega arith) in
    let at_c : c ≡ state_at seed (3 * i + 3) = third ∙ after seed (3 * i + 2) (3 * i + 3) b at_b (omega arith) in
    let more : 3 * i + 3 ≡ 3 * (i + 1) = omega arith in
    record { third = at_c ∙ ap (state_at seed) more; point = λ j. point_of (at_a j) (at_b j) (at_c j) }

pub none_generated : (seed : ℕ) → generated seed 0 ≡ []
unfolding generated
none_generated seed = refl

-- one point more
pub one_more : (seed i : ℕ) (points : List PointValue) (p : PointValue) → points ≡ generated seed i → p ≡ point_at seed i → points ++ p ∷ [] ≡ generated seed (i + 1)
unfolding generated
one_more seed i points p are is =
    let more : suc i ≡ i + 1 = omega arith in
    (λ j. are j ++ is j ∷ []) ∙ ap (generated seed) more
