use Rattle.std.proofs.Common.{ap, ◌∙◌}
use Rattle.batch_front.proofs.front.Front.gather_all.Goals as goal

pub loop-pass-init : goal.loop-pass-init
loop-pass-init g c = record {
  can = tt;
  ends = tt;
  table = ap (λ v. v.front.table) c.all.view_is ∙ ap (λ v. v.front.table) c.tell.ensures.news;
  gathers = (c.all.inside.seat.me.0.told, λ k. (c.all.invariant.view_is k, c.all.invariant.taken_is k));
}
