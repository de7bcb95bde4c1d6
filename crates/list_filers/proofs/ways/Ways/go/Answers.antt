use Rattle.std.proofs.Common.{◌≡◌, ◌+◌, ◌≤◌, ◌/◌, refl, sym, subst, ap, arith}
use Rattle.list_machine.specs.declared.views.Unfiled.TheVariants.{Place}
use Rattle.list_machine.proofs.Lists.{at_same}
use Rattle.list_filers.specs.Cursors.{next_rank}
use Rattle.list_filers.specs.Ways.{WaysValue}
use Rattle.list_filers.specs.declared.cursors.Cursor.{Cursor}
use Rattle.list_filers.proofs.Going.{IsGoing, sets_out, goes_on}
use Rattle.list_filers.proofs.ways.Ways.go.Goals as goal

pub loop-chunk-init : goal.loop-chunk-init
loop-chunk-init g c =
    let w = c.args.self.now in
    let d = c.requires.cursor in
    let is = at_same w.cursors c.args.at d.0 c.cursor-cursor.result d.1 c.cursor-cursor.ensures in (
      refl,
      sets_out w c.args.at c.args.place c.cursor-cursor.result c.cursor-cursor.ensures (subst (λ a. w.guest.claim ≡ Place a.list c.args.place) is d.2) (subst (λ a. next_rank a.reached ≤ c.args.place / 256 + 1) is d.3),
      refl,
      omega arith,
    )

pub loop-chunk-preserved : goal.loop-chunk-preserved
loop-chunk-preserved g c =
    let w = c.args.self.now in
    let u = c.loop-chunk.self in
    let m = c.advance-cursor.ensures.moved in
    let more : c.advance-cursor.new.self.walked ≡ u.walked + 1 = ap (λ x. x.walked) m.2 in
    let same = c.loop-chunk.invariant.2 in
    let le = c.loop-chunk.invariant.3 in
    let tick = c.advance-cursor.ensures.steps in (
      refl,
      subst (λ (t : WaysValue × Cursor). IsGoing w t.0 c.args.at t.1 c.args.place) (λ k. (sym m.2 k, sym m.1 k)) (goes_on w u c.args.at c.args.place m.0 c.loop-chunk.cursor c.loop-chunk.invariant.1 c.in_default.ensures),
      omega arith,
      omega arith,
    )
