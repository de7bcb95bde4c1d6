use Rattle.std.proofs.Common.{◌+◌, ◌++◌, List, ℕ, map, arith, ap, ◌∙◌, refl}
use Rattle.octree_plain.proofs.Words.{all_words, next_places}
use Rattle.octree_plain.proofs.cell_set.push_marked_cells.Goals as goal

pub loop-k-preserved : goal.loop-k-preserved
loop-k-preserved c = next_places c.args.words.now c.args.first c.loop-k.k _ c.args.cells.now.items c.loop-k.cells.items c.push_set_bits.new.places.items refl c.loop-k.invariant c.in_ok-push_set_bits.ensures

pub returns : goal.returns
returns c = c.loop-k.invariant ∙ ap (λ (ks : List ℕ). c.args.cells.now.items ++ map (λ z. c.args.first + z) ks) (all_words c.args.words.now c.loop-k.k (omega arith))
