use Rattle.std.proofs.Common.{◌≡◌, ◌^◌, min, take, true}
use Rattle.std.specs.Char.{is_ascii_digit}
use Rattle.std.specs.List.{list_all}
use Rattle.xyz_points.specs.Numbers.{number_after}
use Rattle.xyz_points.proofs.numbers.digits_after.Given as goal

abbrev pub invariant-loop-k : goal.invariant-loop-k
invariant-loop-k l = record {
  run : list_all is_ascii_digit (take l.k l.text) ≡ true;
  value : l.value ≡ min (number_after l.before (take l.k l.text)) (2 ^ 32);
}
