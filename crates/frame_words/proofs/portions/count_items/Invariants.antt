use Rattle.std.proofs.Common.{◌≡◌, length, take}
use Rattle.frame_words.specs.Parts.{all_items}
use Rattle.frame_words.proofs.portions.count_items.Given as goal

abbrev pub invariant-loop-part : goal.invariant-loop-part
invariant-loop-part l = l.count ≡ length (all_items (take l.part-index l.parts))
