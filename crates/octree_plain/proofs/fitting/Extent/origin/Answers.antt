use Rattle.std.proofs.Common.{◌∙◌, rules, w32}
use Rattle.std.proofs.lemmas.Int.{to_z-of_z}
use Rattle.std.proofs.lemmas.Nat.{pow_pos}
use Rattle.octree_plain.proofs.FittingLaws.{origin_is}
use Rattle.octree_plain.proofs.fitting.Extent.origin.Goals as goal

pub returns : goal.returns
returns c =
    to_z-of_z w32 c.min.result (search rules)
    ∙ origin_is c.args.self.least c.min.result c.args.bits c.requires.high (pow_pos c.args.bits) (search rules) c.min.ensures.value
