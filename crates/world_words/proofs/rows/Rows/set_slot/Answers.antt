use Rattle.std.proofs.Common.{◌+◌, ◌*◌, ◌<◌, length, ap, sym, subst, ◌∙◌, arith}
use Rattle.list_machine.specs.Words.{decode}
use Rattle.list_machine.specs.State.{put_slot}
use Rattle.world_words.specs.WordRows.{WordRows, list_count, made_count, words_in}
use Rattle.world_words.specs.WordsKept.{rows_of}
use Rattle.world_words.proofs.RowLaws.{words-slot}
use Rattle.world_words.proofs.rows.Rows.set_slot.Goals as goal

pub returns : goal.returns
returns c =
    let r : WordRows = rows_of c.self.inside in
    let is : WordRows = c.args.self.now in
    let chunk : c.args.chunk < length c.self.inside.nexts.items = subst (λ (q : WordRows). c.args.chunk < made_count q) (sym c.self.view_is) c.requires.chunk in
    let within : 256 * c.args.chunk + c.args.slot < length c.self.inside.slots.items = omega (arith, chunk, c.requires.slot, c.self.invariant.slots) in
    record {
      lists = ap list_count c.self.view_is;
      chunks = ap made_count c.self.view_is;
      words = words-slot r c.args.chunk c.args.slot c.args.word c.requires.slot within ∙ ap (λ (q : WordRows). put_slot (words_in q) c.args.chunk c.args.slot (decode c.args.word)) c.self.view_is;
    }
