-- Answers that a guest's knowledge bears out.
use Rattle.std.proofs.Common.{ℕ, List, [], ◌∷◌, ◌++◌, subst}
use Rattle.list_machine.specs.declared.views.Fact.TheVariants.{Item, Closed, Empty}
use Rattle.list_machine.specs.declared.views.Guest.{Guest}
use Rattle.list_machine.proofs.Lists.{at_more}
use Rattle.list_words.specs.Filing.{answer}
use Rattle.list_words.specs.declared.leaf_lists.Answer.{Answer}
use Rattle.list_words.specs.declared.leaf_lists.Filed.{Filed}
use Rattle.list_words.specs.declared.leaf_lists.Filed.TheVariants.{At, Late}
use Rattle.list_words.specs.declared.leaf_lists.Seen.TheVariants.{Shut, Moved}
use Rattle.list_filers.specs.Ways.{IsShown}
use Rattle.list_filers.specs.Filers.{AreShown}
use Rattle.list_filers.proofs.Walking.{Grows, chunk_stays}

pub shown_still : (v u : Guest) (l x : ℕ) (filed : Filed) → Grows v.facts u.facts → IsShown v l x filed → IsShown u l x filed
shown_still v u l x (At c k) more s = (more (Item l c k x) s.0, (s.1.0, chunk_stays v u l s.1.0 c more s.1.1))
shown_still v u l x (Late Shut) more s = more (Closed l) s
shown_still v u l x (Late (Moved c k)) more s = (more (Empty l c k) s.0, (s.1.0, chunk_stays v u l s.1.0 c more s.1.1))

pub more_shown : (v u : Guest) (answers : List Answer) (l x : ℕ) (filed : Filed) → Grows v.facts u.facts → AreShown v answers → IsShown u l x filed → AreShown u (answers ++ answer l x filed ∷ [])
more_shown v u answers l x filed more old new i a p = at_more answers (answer l x filed) i a (IsShown u a.list a.item a.filed) p
    (λ q. shown_still v u a.list a.item a.filed more (old i a q))
    (λ _ e. subst (λ (b : Answer). IsShown u b.list b.item b.filed) e new)
