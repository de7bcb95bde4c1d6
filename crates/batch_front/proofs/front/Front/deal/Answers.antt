use Rattle.std.proofs.Common.{◌≡◌, ◌+◌, ◌-◌, ℕ, suc, arith, ap, sym, ◌∙◌, subst}
use Rattle.std.specs.List.{range_with_len}
use Rattle.batch_front.specs.Turns.{IsDealing}
use Rattle.batch_front.proofs.Telling.{deals_next, dealt_next}
use Rattle.batch_front.proofs.front.Front.deal.Goals as goal

pub split_seat-requires : goal.split_seat-requires
split_seat-requires g c =
    let s = c.self.inside.desk.shared in let n = c.self.invariant.0.words in let lt = c.requires.number in
    let number = c.args.number in let passes = c.args.self.now.passes in let site = c.args.self.now.site in
    let left : passes - number ≡ suc (passes - (number + 1)) = omega arith in
    let cards = subst (λ (k : ℕ). IsDealing site (range_with_len number k) c.args.dealer.now.me) left c.requires.cards in (
      c.requires.table ∙ sym (ap (λ f. f.table) c.self.view_is),
      (omega (arith, n)),
      deals_next g.V.Chronicle.record g.V.Chronicle.site (g.V.Chronicle.site s.key.value.value) s.key.passes c.args.dealer.now.id c.args.dealer.now.me site number (passes - (number + 1)) cards,
    )

pub returns-clause-cards : goal.returns-clause-cards
returns-clause-cards g c =
    let lt = c.requires.number in
    let number = c.args.number in let passes = c.args.self.now.passes in let site = c.args.self.now.site in
    let left : passes - number ≡ suc (passes - (number + 1)) = omega arith in
    let cards = subst (λ (k : ℕ). IsDealing site (range_with_len number k) c.args.dealer.now.me) left c.requires.cards in
    dealt_next c.args.dealer.now.me c.split_seat.new.seat.me site number (passes - (number + 1)) cards c.split_seat.ensures.2
