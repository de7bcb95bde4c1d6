use Rattle.std.proofs.Common.{All, length, ap, sym, ◌∙◌, subst, arith}
use Rattle.std.specs.List.{range_with_len}
use Rattle.std.proofs.lemmas.List.FromFn.{length-map-range_with_len}
use Rattle.batch_front.specs.Passes.{IsHome, new_pass}
use Rattle.worked_turns.proofs.Home.{new_home}
use Rattle.worked_turns.proofs.crowds.log_of_crowd.Goals as goal

pub take_turns_at_once-requires-after_bounds : goal.take_turns_at_once-requires-after_bounds
take_turns_at_once-requires-after_bounds g c κs within =
    subst (All (IsHome c.in_ok-front.front)) (sym c.in_ok-front.ensures.passes) (new_home c.in_ok-front.front (range_with_len 0 c.args.passes))

pub close-requires-clause-all : goal.close-requires-clause-all
close-requires-clause-all g c =
    let given = ap length c.in_ok-front.ensures.passes ∙ length-map-range_with_len (new_pass c.in_ok-front.front) 0 c.args.passes in
    let same = c.in_ok-back.ensures.all in
    omega (arith, c.in_ok-back.back.ok, c.in_ok-front.given.ok, c.in_ok-front.ensures.front.1)
