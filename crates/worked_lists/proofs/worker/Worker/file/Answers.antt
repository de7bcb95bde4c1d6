use Rattle.std.proofs.Common.{◌≡◌, ℕ, ◌-◌, ◌<◌, List, length, set, get_or, sym, subst, ap, ◌∙◌}
use Rattle.std.proofs.lemmas.Grind.{get_or_default_zero}
use Rattle.list_machine.specs.declared.views.Grant.{Grant}
use Rattle.list_words.specs.Filing.{Filing}
use Rattle.worked_lists.specs.Workers.{AreLeft}
use Rattle.worked_lists.proofs.Left.{left_after}
use Rattle.worked_lists.proofs.worker.Worker.file.Goals as goal

pub invariant_of-self-2 : goal.invariant_of-self-2
invariant_of-self-2 g c =
    let left : List ℕ = c.self.inside.left.items in
    let h : ℕ = c.in-Some.list in
    let seen : c.deref.result.now ≡ left = c.deref.ensures.value in
    let chosen = c.in-Some.ensures.some in
    let low : h < length left = subst (λ (xs : List ℕ). h < length xs) seen chosen.0 in
    let some : 0 < get_or left h 0 = subst (λ (xs : List ℕ). 0 < get_or xs h 0) seen chosen.1 in
    let value : c.index_mut.result.now ≡ get_or left h 0 = c.index_mut.ensures.value ∙ get_or_default_zero left h c.index_mut.result.now low in
    let used = ap (λ (f : Filing). f.left) c.file.ensures.answered in
    subst {A = ℕ × List Grant} (λ z. AreLeft (set left h (z.0 - 1)) z.1) (λ i. (sym value i, sym used i))
    (left_after left c.self.inside.filer.filing.left c.self.invariant h low some)
