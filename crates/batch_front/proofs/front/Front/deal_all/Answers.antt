use Rattle.std.proofs.Common.{◌≡◌, ◌+◌, ◌∷◌, [], ◌++◌, ℕ, arith, sym, ◌∙◌}
use Rattle.std.proofs.lemmas.List.FromFn.{map-range_with_len_more}
use Rattle.batch_front.specs.Passes.{new_pass}
use Rattle.batch_front.proofs.front.Front.deal_all.Goals as goal

pub loop-number-preserved : goal.loop-number-preserved
loop-number-preserved g c =
    let number : ℕ = c.loop-number.number in let i = c.loop-number.invariant in let front = c.args.self.now in
    let here : 0 + number ≡ number = omega arith in record {
      count = i.count;
      table = c.deal.ensures.table ∙ i.table;
      cards = c.deal.ensures.cards;
      given = c.in_ok-push.ensures.items ∙ ((λ k. i.given k ++ c.deal.ensures.pass k ∷ []) ∙ sym (map-range_with_len_more (new_pass front) 0 number number here));
    }
