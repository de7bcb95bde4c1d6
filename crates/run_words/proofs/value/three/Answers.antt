use Rattle.std.proofs.Common.{◌≡◌, w32, to_z, of_z, rules}
use Rattle.std.specs.Prelude.{pos, ◌-ℤ◌, ◌-◌, ◌^◌}
use Rattle.run_words.specs.Numbers.{whole, pieces}
use Rattle.run_words.proofs.Lists.{numbers_count, three_mapped}
use Rattle.run_words.proofs.value.three.Goals as goal

pub returns : goal.returns
returns c =
    let n0 : to_z w32 (of_z w32 c.whole_at.result) ≡ c.whole_at.result = search rules in
    let n1 : to_z w32 (of_z w32 c.whole_at-2.result) ≡ c.whole_at-2.result = search rules in
    let n2 : to_z w32 (of_z w32 c.whole_at-3.result) ≡ c.whole_at-3.result = search rules in
    rw (n0, n1, n2, c.whole_at.ensures, c.whole_at-2.ensures, c.whole_at-3.ensures)
    (three_mapped whole (pieces c.args.text.now) (numbers_count 3 (pos 0 -ℤ pos (2 ^ 31)) (pos (2 ^ 31 - 1)) c.args.text.now c.requires))
