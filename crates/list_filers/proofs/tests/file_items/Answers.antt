use Rattle.std.proofs.Common.{◌<◌, ◌+◌, ap, ◌∙◌, arith, cond, nat_eq}
use Rattle.std.proofs.lemmas.Bool.Decides.{nat_tests}
use Rattle.list_machine.specs.Grants.{granted_in}
use Rattle.list_filers.proofs.Worked.{used_more}
use Rattle.list_filers.proofs.tests.file_items.Goals as goal

pub loop-item-preserved : goal.loop-item-preserved
loop-item-preserved g c =
    let old = c.loop-item.filer.filing.left in
    let here = c.loop-item.invariant.1 c.args.list in
    let enough = c.requires.granted in
    let more = c.loop-item-test.true in
    let some : 0 < granted_in c.args.list old = grind (arith, nat_tests) in (
      ap (λ f. f.name) c.file.ensures.answered ∙ c.loop-item.invariant.0,
      λ h. ap (λ f. granted_in h f.left + cond (nat_eq h c.args.list) (c.loop-item.item + 1) 0) c.file.ensures.answered ∙ used_more h c.args.list c.loop-item.item old some ∙ c.loop-item.invariant.1 h,
    )
