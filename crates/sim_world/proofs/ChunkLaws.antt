-- Free chunks: the least one is in no chain.
use Rattle.std.proofs.Common.{◌≡◌, ℕ, zero, suc, ◌<◌, Bool, true, false, not, ◌||◌, List, [], ◌∷◌, length, refl, sym, ap, ◌∙◌, subst, arith}
use Rattle.std.specs.Prelude.{slice_index}
use Rattle.std.proofs.lemmas.Option.{none-some, same_Some}
use Rattle.octree_model.specs.Numbers.{up_to, has}
use Rattle.list_machine.specs.Facts.{IsAt, claimed_chain, owned_chain, HasChunk}
use Rattle.list_machine.specs.Rule.{IsFree}
use Rattle.list_machine.specs.Machine.{State}
use Rattle.list_machine.specs.declared.views.Leaf.{Leaf}
use Rattle.list_machine.proofs.Lists.{at_filter, some_at, index_is}
use Rattle.sim_world.proofs.Members.{has_from_in, at_up_to}
use Rattle.sim_world.specs.Chunks.{least_free, free_chunks, is_in_chain}

or_left : (a b : Bool) → a ≡ true → (a || b) ≡ true
or_left true b e = refl
or_left false b e = absurd (cc)

or_right : (a b : Bool) → b ≡ true → (a || b) ≡ true
or_right true b e = refl
or_right false b e = e

-- a chunk of a chain is found there
in_chain : (leaves : List Leaf) (l : ℕ) (a : Leaf) (c : ℕ) → IsAt leaves l a → HasChunk a c → is_in_chain leaves c ≡ true
in_chain [] l a c at there = absurd (none-some a at)
in_chain (e ∷ es) zero a c at there =
    or_left (has c e.claimed || has c e.owned) (is_in_chain es c)
    (subst (λ (z : Leaf). (has c z.claimed || has c z.owned) ≡ true) (sym (same_Some e a at)) (by there)) where
      by : HasChunk a c → (has c a.claimed || has c a.owned) ≡ true
      by (claimed_chain, r, here) = or_left (has c a.claimed) (has c a.owned) (has_from_in c a.claimed (r, here))
      by (owned_chain, r, here) = or_right (has c a.claimed) (has c a.owned) (has_from_in c a.owned (r, here))
in_chain (e ∷ es) (suc l) a c at there = or_right (has c e.claimed || has c e.owned) (is_in_chain es c) (in_chain es l a c at there)

-- the least free chunk
pub least_is_free : (chunks : ℕ) (s : State) → 0 < length (free_chunks chunks s)
    → IsFree s.owner.book.leaves (least_free chunks s) × (least_free chunks s < chunks)
least_is_free chunks s some =
    let d = some_at (free_chunks chunks s) 0 some in
    let is : slice_index (free_chunks chunks s) 0 ≡ d.0 = index_is (free_chunks chunks s) 0 d.0 d.1 in
    let t = at_filter (λ c. not (is_in_chain s.owner.book.leaves c)) (up_to chunks) 0 d.0 d.1 in
    let low = at_up_to chunks t.0 d.0 t.1 in
    let lt : d.0 < chunks = let a = low.0 in let b = low.1 in omega arith in
    subst (λ (c : ℕ). IsFree s.owner.book.leaves c × (c < chunks)) (sym is)
    ((λ l a at there. let no : not true ≡ true = ap not (sym (in_chain s.owner.book.leaves l a d.0 at there)) ∙ t.2 in absurd (cc)), lt)
