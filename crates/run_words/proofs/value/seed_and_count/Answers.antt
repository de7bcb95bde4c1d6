use Rattle.std.proofs.Common.{refl}
use Rattle.std.specs.Prelude.{pos, ◌-◌, ◌^◌}
use Rattle.run_words.specs.Numbers.{piece}
use Rattle.run_words.proofs.Lists.{wider, both}
use Rattle.run_words.proofs.value.seed_and_count.Goals as goal

pub natural-requires : goal.natural-requires
natural-requires c = rw c.piece-2.ensures (wider (pos 1) (pos 10000000) (pos 0) (pos (2 ^ 31 - 1)) (piece c.args.text.now 1) refl refl refl (both _ _ c.requires).1)
