use Rattle.std.proofs.Common.{◌≡◌, ℕ, suc, ◌++◌, List, replicate, length, ap, ◌∙◌, arith}
use Rattle.std.proofs.lemmas.List.{length-append}
use Rattle.world_words.specs.WordRows.{WordRows, list_count, made_count, words_in}
use Rattle.world_words.specs.WordsKept.{rows_of}
use Rattle.world_words.proofs.RowLaws.{words-longer}
use Rattle.world_words.proofs.rows.Rows.make_chunk.Goals as goal

pub returns-clause-ok : goal.returns-clause-ok
returns-clause-ok c =
    let r : WordRows = rows_of c.self.inside in
    let nexts : c.push.new.self.items ≡ r.nexts ++ replicate 1 0 = c.in-Ok.ensures.items ∙ ap (λ (ns : List ℕ). ns ++ replicate 1 0) c.in_ok-reserve.ensures.items in
    let one : length (r.nexts ++ replicate 1 0) ≡ suc (length r.nexts) = omega (arith, length-append r.nexts (replicate 1 0)) in
    record {
      lists = ap list_count c.self.view_is;
      chunks = ap length nexts ∙ one ∙ ap (λ (q : WordRows). suc (made_count q)) c.self.view_is;
      words = (λ i. words_in (let q : WordRows = record r { nexts = nexts i; slots = c.in_ok-append_zeros.ensures.ok i } in q)) ∙ words-longer r 1 256 ∙ ap words_in c.self.view_is;
    }
