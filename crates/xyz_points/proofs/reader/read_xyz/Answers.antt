use Rattle.std.proofs.Common.{◌∙◌, ◌+◌, Some, sym, ap, arith}
use Rattle.xyz_points.specs.Lines.{lines_of}
use Rattle.xyz_points.proofs.ReadingLaws.{at_point, at_start, behind_points, lines_reading}
use Rattle.xyz_points.proofs.reader.read_xyz.Goals as goal

pub loop-text-init : goal.loop-text-init
loop-text-init c = record {
  counted = omega arith;
  told = ap (λ ps. behind_points ps (lines_reading c.args.decimals 1 (lines_of c.args.bytes.now))) c.in-Ok.ensures.items ∙ at_start c.args.decimals c.args.bytes.now;
}

pub loop-text-preserved-in-Ok-push : goal.loop-text-preserved-in-Ok-push
loop-text-preserved-in-Ok-push c = record {
  counted = omega (arith, c.in-Some.ensures.shorter, c.loop-text.invariant.counted);
  told = ap (λ ps. behind_points ps (lines_reading c.args.decimals (c.loop-text.line + 1 + 1) (lines_of c.in-Some.behind.now))) c.in-Ok-push.ensures.items
      ∙ at_point c.args.decimals (c.loop-text.line + 1) c.loop-text.points.items c.in_ok-read.field-0 c.loop-text.rest.now c.in-Some.text.now c.in-Some.behind.now
      c.in-Some.ensures.some (sym c.in-Some-read_line.ensures ∙ ap Some c.in_ok-read.was)
      ∙ c.loop-text.invariant.told;
}
