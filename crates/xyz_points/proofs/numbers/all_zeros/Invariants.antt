use Rattle.std.proofs.Common.{◌≡◌, ◌==◌, take, true}
use Rattle.std.specs.Char.{is_ascii_digit}
use Rattle.std.specs.List.{list_all}
use Rattle.xyz_points.proofs.numbers.all_zeros.Given as goal

abbrev pub invariant-loop-b : goal.invariant-loop-b
invariant-loop-b l = record {
  digits : list_all is_ascii_digit (take l.b-index l.text) ≡ true;
  zeros : l.zeros ≡ list_all (λ b. b == 48) (take l.b-index l.text);
}
