use Rattle.std.proofs.Common.{◌≡◌, ◌∙◌, sym, true, inl, inr}
use Rattle.item_moves.proofs.FoundLaws.{aimed}
use Rattle.item_moves.proofs.SweepAllLaws.{no_one}
use Rattle.item_moves.proofs.coming_back.place_answer.Goals as goal

pub place_once-requires-clause-alone : goal.place_once-requires-clause-alone
place_once-requires-clause-alone g c l o e =
    let is : (g.A.Aims.covers c.args.aims.now c.args.answer.now.list c.args.answer.now.item ≡ true) ×
    (c.in-Some.list ≡ g.A.Aims.leaf c.args.aims.now c.args.answer.now.item) = aimed _ _ _ _ c.aim.ensures c.in-Some.is in
    elim (c.requires.aimed.home l c.args.answer.now.item (c.requires.aimed.admitted c.args.answer.now.list c.args.answer.now.item is.0) o e) [
      | inl own ↦ own ∙ sym is.1
      | inr other ↦ absurd (no_one l other.0)
    ]
