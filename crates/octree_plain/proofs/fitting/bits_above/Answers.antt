use Rattle.std.proofs.Common.{ℕ, ◌*◌, ◌≤◌, ◌<◌, ◌^◌, inl, inr, arith}
use Rattle.std.proofs.lemmas.Bool.{cases_lt}
use Rattle.std.proofs.Math.Nat.{pow-le-pow_right}
use Rattle.octree_plain.proofs.fitting.bits_above.Goals as goal

six_or_more : (span log : ℕ) → 128 ≤ span → span < 2 * 2 ^ log → 6 ≤ log
six_or_more span log h l = elim (cases_lt log 6) [
  | inl below ↦
      let few : log ≤ 5 = omega arith in
      let two : 0 < 2 = omega arith in
      let small : 2 ^ log ≤ 2 ^ 5 = pow-le-pow_right two few in
      omega arith
  | inr above ↦ above
]

pub returns-else-span-lt128-clause-low : goal.returns-else-span-lt128-clause-low
returns-else-span-lt128-clause-low c = omega (arith, six_or_more c.args.span c.ilog2.result c.if-span-lt128.false c.ilog2.ensures.next_power_gt)
