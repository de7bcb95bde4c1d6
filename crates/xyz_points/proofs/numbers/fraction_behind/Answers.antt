use Rattle.std.proofs.Common.{◌≤◌, ◌+◌, ◌++◌, ◌∙◌, sym, refl, ap, arith, take, drop, length}
use Rattle.std.specs.Char.{is_ascii_digit}
use Rattle.std.specs.List.{prefix_len}
use Rattle.std.proofs.lemmas.List.{drop_all, take_rest}
use Rattle.std.proofs.lemmas.List.Sums.{prefix_len-le-length}
use Rattle.xyz_points.proofs.DecimalLaws.{no_decimal, no_fraction, point_behind}
use Rattle.xyz_points.proofs.numbers.fraction_behind.Goals as goal

pub bounds-text-whole : goal.bounds-text-whole
bounds-text-whole c = let most : prefix_len is_ascii_digit c.args.text.now ≤ length c.args.text.now = prefix_len-le-length is_ascii_digit c.args.text.now in omega arith

pub returns-then-whole-text-clause-digits : goal.returns-then-whole-text-clause-digits
returns-then-whole-text-clause-digits c =
    let at = no_fraction c.args.text.now (sym c.requires ∙ c.if-whole-text.true) in
    rw (at, drop_all (length c.args.text.now + 1) c.args.text.now (omega arith), c.if-whole-text.true) refl

pub returns-then-whole-text-clause-fraction : goal.returns-then-whole-text-clause-fraction
returns-then-whole-text-clause-fraction c =
    let at = no_fraction c.args.text.now (sym c.requires ∙ c.if-whole-text.true) in
    drop_all _ c.args.text.now (omega (arith, at))

pub returns-then-text-whole-eq46-clause-digits : goal.returns-then-text-whole-eq46-clause-digits
returns-then-text-whole-eq46-clause-digits c =
    let most : prefix_len is_ascii_digit c.args.text.now ≤ length c.args.text.now = prefix_len-le-length is_ascii_digit c.args.text.now in
    let at = point_behind c.args.text.now c.args.whole c.requires (omega arith) c.if-text-whole-eq46.true in
    rw take_rest (ap (λ n. take n c.args.text.now ++ drop (n + 1) c.args.text.now) at)

pub returns-then-text-whole-eq46-clause-fraction : goal.returns-then-text-whole-eq46-clause-fraction
returns-then-text-whole-eq46-clause-fraction c =
    let most : prefix_len is_ascii_digit c.args.text.now ≤ length c.args.text.now = prefix_len-le-length is_ascii_digit c.args.text.now in
    let at = point_behind c.args.text.now c.args.whole c.requires (omega arith) c.if-text-whole-eq46.true in
    rw take_rest (ap (λ n. drop (n + 1) c.args.text.now) at)

pub returns-else-text-whole-eq46-clause-none : goal.returns-else-text-whole-eq46-clause-none
returns-else-text-whole-eq46-clause-none c =
    let most : prefix_len is_ascii_digit c.args.text.now ≤ length c.args.text.now = prefix_len-le-length is_ascii_digit c.args.text.now in
    no_decimal c.args.text.now c.args.whole c.requires (omega arith) c.if-text-whole-eq46.false
