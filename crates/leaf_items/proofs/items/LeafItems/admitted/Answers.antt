use Rattle.std.proofs.Common.{◌≤◌, ap, arith, length, List, ℕ, subst}
use Rattle.std.specs.Prelude.{All}
use Rattle.leaf_items.specs.Items.{ItemsValue}
use Rattle.leaf_items.proofs.ListLaws.{births_early}
use Rattle.leaf_items.proofs.items.LeafItems.admitted.Goals as goal

pub returns-clause-early : goal.returns-clause-early
returns-clause-early c =
    let P : List ℕ → Type 0 = λ born. All (λ (b : ℕ). b ≤ length c.self.inside.leaf.items) born in
    let early : P c.args.self.now.born =
    subst P (ap (λ (v : ItemsValue). v.born) c.self.view_is)
    (births_early c.self.inside.leaf.items c.self.inside.ready.items c.self.inside.lists.items c.self.invariant.lists) in
    λ k d low. omega (arith, early k d low, c.len.ensures, c.self.inside.leaf.ok.0)
