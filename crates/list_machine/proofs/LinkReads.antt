-- A read of a link keeps the rule.
use Rattle.std.proofs.Common.{◌≡◌, ℕ, ◌≤◌, ⊎_elim, true, List, ◌∷◌, length, set, sym, refl, ◌∙◌, subst, arith}
use mathlib.Core.Logic.{dite}
use native.Mathlib.Decide.{ℕ_discrete}
use Rattle.list_machine.specs.Words.{link_to}
use Rattle.list_machine.specs.State.{Words, link_at}
use Rattle.list_machine.specs.Facts.{IsAt, LeadsTo, list_of, Reached}
use Rattle.list_machine.specs.Rule.{IsStanding, IsSeat, OfLeaf, IsStated, Sound}
use Rattle.list_machine.specs.Steps.{guest_with, KnowsList, KnowsLink}
use Rattle.list_machine.specs.declared.views.LinkWord.{LinkWord}
use Rattle.list_machine.specs.declared.views.LinkWord.TheVariants.{OfList, OfChunk}
use Rattle.list_machine.specs.declared.views.Fact.TheVariants.{Link}
use Rattle.list_machine.specs.declared.views.Leaf.{Leaf}
use Rattle.list_machine.specs.declared.views.Owner.{Owner}
use Rattle.list_machine.specs.declared.views.Guest.{Guest}
use Rattle.list_machine.proofs.Lists.{at_below, some_at}
use Rattle.list_machine.proofs.Stages.{as_standing}
use Rattle.list_machine.proofs.Frames.{stands_if}
use Rattle.list_machine.proofs.Guests.{guest_learns, guest_counted, more_facts}

-- a link of one rank names one chunk
pub one_chunk : (r c d : ℕ) → link_to r c ≡ link_to r d → c ≡ d
one_chunk r c d e = omega arith

module _ (w : Words) (o : Owner) (guests : List Guest) (s : Sound w o guests) (j l : ℕ) (v : Guest) (at : IsAt guests j v) (out : v.out ≡ true) where
  abbrev leaves : List Leaf
  leaves = o.book.leaves

  mine : IsSeat w leaves v
  mine = s.known.seats j v at

  -- a seat reaches what it knows
  pub reaches : KnowsList v l → OfLeaf leaves l (λ a. Reached v.birth a.stage)
  reaches knows = ⊎_elim (λ g. mine.grants l g) (λ t. ⊎_elim (λ c. let z = mine.claim l c.0 c.1 in (z.0, z.1, z.2.reached)) (λ f. let z = mine.facts f.0 f.1 f.2 in subst (λ (h : ℕ). OfLeaf leaves h (λ a. Reached v.birth a.stage)) f.3 (z.0, z.1, z.2.reached)) t) knows

  pub leads : (from : LinkWord) (r : ℕ) → KnowsLink v l from r → OfLeaf leaves l (λ a. Reached v.birth a.stage × LeadsTo a.claimed from r × (r ≤ length a.claimed))
  leads OfList r t = let z = reaches t.0 in let e = t.1 in (z.0, z.1, (z.2, e, omega arith))
  leads (OfChunk b) r t = let e = t.1 in let z = mine.facts t.2.0 (Link l t.2.1 t.0 b) t.2.2 in (z.0, z.1, (z.2.reached, (t.0, e, z.2.within.1), (let lt = at_below z.0.claimed t.0 b z.2.within.1 in omega arith)))

  pub standing_of : (a : Leaf) → IsAt leaves l a → Reached v.birth a.stage → IsStanding (w.claim l) (w.first l) w.next w.slot a
  standing_of a leaf reached = as_standing (w.claim l) (w.first l) w.next w.slot a a.stage (stands_if o.book.cleared v.birth a.stage (s.shape.order.begun l a leaf) (s.counted.born j v at out).0 reached) (s.shape.lists.lists l a leaf).now

  module _ (from : LinkWord) (r c : ℕ) (knows : KnowsLink v l from r) (found : link_at w l from ≡ link_to r c) where
    pub stated : OfLeaf leaves l (IsStated w v.birth (Link l from r c))
    stated = let z = leads from r knows in let y = standing_of z.0 z.1 z.2.0 in (
      z.0,
      z.1,
      record {
        reached = z.2.0;
        holds = found;
        within = (
          z.2.1,
          dite (ℕ_discrete r (length z.0.claimed))
              (λ e. let n : link_at w l from ≡ 0 = y.ended from (subst (LeadsTo z.0.claimed from) e z.2.1) in absurd (omega arith))
              (λ ne. let few = z.2.2 in let d = some_at z.0.claimed r (omega arith) in subst (IsAt z.0.claimed r) (sym (one_chunk r c d.0 (sym found ∙ y.linked from r d.0 z.2.1 d.1))) d.1),
        );
      },
    )

    pub reads : Sound w o (set guests j (guest_with v v.claim (Link l from r c ∷ v.facts)))
    reads = record {
      shape = s.shape;
      known = guest_learns w leaves o.facts guests j v v.claim (Link l from r c ∷ v.facts) s.known at out (λ h g e. e)
          (more_facts {F = λ f. OfLeaf leaves (list_of f) (IsStated w v.birth f)} (Link l from r c) v.facts stated mine.facts);
      counted = guest_counted _ _ o.out guests j v (guest_with v v.claim (Link l from r c ∷ v.facts)) s.counted at refl refl;
    }
