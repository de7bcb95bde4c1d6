use Rattle.std.proofs.Common.{◌≡◌, w32, to_z, of_z, rules, lit<, refl}
use Rattle.std.specs.Prelude.{pos, ◌-ℤ◌}
use Rattle.run_words.specs.Numbers.{whole, pieces}
use Rattle.run_words.proofs.Lists.{numbers_count, nine_mapped, coordinate_at}
use Rattle.run_words.proofs.value.nine.Goals as goal

pub whole_at-requires : goal.whole_at-requires
whole_at-requires c = coordinate_at 9 (pos 0 -ℤ pos 1024) (pos 1024) c.args.text.now 0 c.requires (lit< tt) refl refl refl

pub whole_at-requires-2 : goal.whole_at-requires-2
whole_at-requires-2 c = coordinate_at 9 (pos 0 -ℤ pos 1024) (pos 1024) c.args.text.now 1 c.requires (lit< tt) refl refl refl

pub whole_at-requires-3 : goal.whole_at-requires-3
whole_at-requires-3 c = coordinate_at 9 (pos 0 -ℤ pos 1024) (pos 1024) c.args.text.now 2 c.requires (lit< tt) refl refl refl

pub whole_at-requires-4 : goal.whole_at-requires-4
whole_at-requires-4 c = coordinate_at 9 (pos 0 -ℤ pos 1024) (pos 1024) c.args.text.now 3 c.requires (lit< tt) refl refl refl

pub whole_at-requires-5 : goal.whole_at-requires-5
whole_at-requires-5 c = coordinate_at 9 (pos 0 -ℤ pos 1024) (pos 1024) c.args.text.now 4 c.requires (lit< tt) refl refl refl

pub whole_at-requires-6 : goal.whole_at-requires-6
whole_at-requires-6 c = coordinate_at 9 (pos 0 -ℤ pos 1024) (pos 1024) c.args.text.now 5 c.requires (lit< tt) refl refl refl

pub whole_at-requires-7 : goal.whole_at-requires-7
whole_at-requires-7 c = coordinate_at 9 (pos 0 -ℤ pos 1024) (pos 1024) c.args.text.now 6 c.requires (lit< tt) refl refl refl

pub whole_at-requires-8 : goal.whole_at-requires-8
whole_at-requires-8 c = coordinate_at 9 (pos 0 -ℤ pos 1024) (pos 1024) c.args.text.now 7 c.requires (lit< tt) refl refl refl

pub whole_at-requires-9 : goal.whole_at-requires-9
whole_at-requires-9 c = coordinate_at 9 (pos 0 -ℤ pos 1024) (pos 1024) c.args.text.now 8 c.requires (lit< tt) refl refl refl

pub returns : goal.returns
returns c =
    let n0 : to_z w32 (of_z w32 c.whole_at.result) ≡ c.whole_at.result = search rules in
    let n1 : to_z w32 (of_z w32 c.whole_at-2.result) ≡ c.whole_at-2.result = search rules in
    let n2 : to_z w32 (of_z w32 c.whole_at-3.result) ≡ c.whole_at-3.result = search rules in
    let n3 : to_z w32 (of_z w32 c.whole_at-4.result) ≡ c.whole_at-4.result = search rules in
    let n4 : to_z w32 (of_z w32 c.whole_at-5.result) ≡ c.whole_at-5.result = search rules in
    let n5 : to_z w32 (of_z w32 c.whole_at-6.result) ≡ c.whole_at-6.result = search rules in
    let n6 : to_z w32 (of_z w32 c.whole_at-7.result) ≡ c.whole_at-7.result = search rules in
    let n7 : to_z w32 (of_z w32 c.whole_at-8.result) ≡ c.whole_at-8.result = search rules in
    let n8 : to_z w32 (of_z w32 c.whole_at-9.result) ≡ c.whole_at-9.result = search rules in
    rw (n0, n1, n2, n3, n4, n5, n6, n7, n8, c.whole_at.ensures, c.whole_at-2.ensures, c.whole_at-3.ensures, c.whole_at-4.ensures, c.whole_at-5.ensures, c.whole_at-6.ensures, c.whole_at-7.ensures, c.whole_at-8.ensures, c.whole_at-9.ensures)
    (nine_mapped whole (pieces c.args.text.now) (numbers_count 9 (pos 0 -ℤ pos 1024) (pos 1024) c.args.text.now c.requires))
