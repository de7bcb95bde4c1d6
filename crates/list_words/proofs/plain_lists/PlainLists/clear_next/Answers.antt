use Rattle.std.proofs.Common.{◌≡◌, ℕ, ◌+◌, ◌-◌, ◌<◌, ◌≤◌, ◌⊎◌, inl, inr, Bool, true, false, List, ◌++◌, length, set, get_or, Some, add-one, ap, sym, subst, ◌∙◌, arith, cond}
use Rattle.std.specs.List.{Contains, slice_get, sum_by}
use Rattle.std.specs.FinSet as set_of
use Rattle.std.proofs.lemmas.Grind.{get_or_default_zero}
use Rattle.std.proofs.lemmas.Option.{slice_get-get_or, slice_get_within}
use Rattle.std.proofs.lemmas.List.Sums.{get_or-le-sum_by}
use Rattle.chunk_pool.specs.Numbers.{IsFree}
use Rattle.chunk_pool.proofs.GiveLaws.{given_free, given_size, given_twice}
use Rattle.list_words.specs.Store.{Unreached, is_shut}
use Rattle.list_words.specs.PlainRows.{PlainList, emptied_list, no_list}
use Rattle.list_words.specs.Plain.{Plain, all_chunks, chunk_at, chunk_count, held_chunks, list_in, next_cleared, next_list}
use Rattle.list_words.specs.PlainKept.{AreHomed, AreSummed, home_of, plain_of}
use Rattle.list_words.specs.declared.leaf_lists.Phase.TheVariants.{Shut}
use Rattle.list_words.proofs.ChunkLaws.{SamePlace, homed-emptied, one_place, summed-emptied}
use Rattle.list_words.proofs.PlainLaws.{count-le, ordered-set, shut_within}
use Rattle.list_words.proofs.SeatLaws.{ordered-cleared}
use Rattle.list_words.proofs.StoreLaws.{cleared_view, list_is, shut-le}
use Rattle.list_words.proofs.plain_lists.PlainLists.clear_next.Goals as goal

pub index_mut-row-requires : goal.index_mut-row-requires
index_mut-row-requires c =
    let l : ℕ = c.index-list.result.now in
    let some : c.self.inside.cleared < length c.self.inside.order.items = subst (λ (p : Plain). p.cleared < length p.order) (sym c.self.view_is) c.requires.some in
    let l_is : l ≡ get_or c.self.inside.order.items c.self.inside.cleared 0 = c.index-list.ensures ∙ get_or_default_zero c.self.inside.order.items c.self.inside.cleared l some in
    let phase : (list_in c.self.inside.rows.items l).phase ≡ Shut = c.self.invariant.ordered.shut c.self.inside.cleared l (slice_get-get_or c.self.inside.order.items c.self.inside.cleared 0 some ∙ ap Some (sym l_is)) in
    let low : l < length c.self.inside.rows.items = shut_within c.self.inside.rows.items l phase in
    omega (arith, c.self.inside.rows.ok.0)

pub give_all-requires-clause-below : goal.give_all-requires-clause-below
give_all-requires-clause-below c =
    let l : ℕ = c.index-list.result.now in
    let some : c.self.inside.cleared < length c.self.inside.order.items = subst (λ (p : Plain). p.cleared < length p.order) (sym c.self.view_is) c.requires.some in
    let l_is : l ≡ get_or c.self.inside.order.items c.self.inside.cleared 0 = c.index-list.ensures ∙ get_or_default_zero c.self.inside.order.items c.self.inside.cleared l some in
    let phase : (list_in c.self.inside.rows.items l).phase ≡ Shut = c.self.invariant.ordered.shut c.self.inside.cleared l (slice_get-get_or c.self.inside.order.items c.self.inside.cleared 0 some ∙ ap Some (sym l_is)) in
    let low : l < length c.self.inside.rows.items = shut_within c.self.inside.rows.items l phase in
    let is : c.index_mut-row.result.now ≡ list_in c.self.inside.rows.items l = list_is c.self.inside.rows.items l c.index_mut-row.result.now low c.index_mut-row.ensures.value in
    let claimed : c.claimed.result.now ≡ (list_in c.self.inside.rows.items l).claimed = c.claimed.ensures ∙ ap (λ (q : PlainList). q.claimed) is in
    let claimed_at : (i k : ℕ) → slice_get c.claimed.result.now i ≡ Some k → chunk_at c.self.inside.rows.items false l i ≡ Some k = λ i k at. ap (λ (xs : List ℕ). slice_get xs i) (sym claimed) ∙ at in
    λ i k at. let small : k < length c.self.inside.homes.items = slice_get_within c.self.inside.homes.items k (home_of l false i) (c.self.invariant.homed.home false l i k (claimed_at i k at)) in omega (arith, c.self.invariant.homed.size)

pub give_all-requires-clause-taken : goal.give_all-requires-clause-taken
give_all-requires-clause-taken c =
    let l : ℕ = c.index-list.result.now in
    let some : c.self.inside.cleared < length c.self.inside.order.items = subst (λ (p : Plain). p.cleared < length p.order) (sym c.self.view_is) c.requires.some in
    let l_is : l ≡ get_or c.self.inside.order.items c.self.inside.cleared 0 = c.index-list.ensures ∙ get_or_default_zero c.self.inside.order.items c.self.inside.cleared l some in
    let phase : (list_in c.self.inside.rows.items l).phase ≡ Shut = c.self.invariant.ordered.shut c.self.inside.cleared l (slice_get-get_or c.self.inside.order.items c.self.inside.cleared 0 some ∙ ap Some (sym l_is)) in
    let low : l < length c.self.inside.rows.items = shut_within c.self.inside.rows.items l phase in
    let is : c.index_mut-row.result.now ≡ list_in c.self.inside.rows.items l = list_is c.self.inside.rows.items l c.index_mut-row.result.now low c.index_mut-row.ensures.value in
    let claimed : c.claimed.result.now ≡ (list_in c.self.inside.rows.items l).claimed = c.claimed.ensures ∙ ap (λ (q : PlainList). q.claimed) is in
    let claimed_at : (i k : ℕ) → slice_get c.claimed.result.now i ≡ Some k → chunk_at c.self.inside.rows.items false l i ≡ Some k = λ i k at. ap (λ (xs : List ℕ). slice_get xs i) (sym claimed) ∙ at in
    λ i k at. c.self.invariant.homed.taken false l i k (claimed_at i k at)

pub give_all-requires-clause-apart : goal.give_all-requires-clause-apart
give_all-requires-clause-apart c =
    let l : ℕ = c.index-list.result.now in
    let some : c.self.inside.cleared < length c.self.inside.order.items = subst (λ (p : Plain). p.cleared < length p.order) (sym c.self.view_is) c.requires.some in
    let l_is : l ≡ get_or c.self.inside.order.items c.self.inside.cleared 0 = c.index-list.ensures ∙ get_or_default_zero c.self.inside.order.items c.self.inside.cleared l some in
    let phase : (list_in c.self.inside.rows.items l).phase ≡ Shut = c.self.invariant.ordered.shut c.self.inside.cleared l (slice_get-get_or c.self.inside.order.items c.self.inside.cleared 0 some ∙ ap Some (sym l_is)) in
    let low : l < length c.self.inside.rows.items = shut_within c.self.inside.rows.items l phase in
    let is : c.index_mut-row.result.now ≡ list_in c.self.inside.rows.items l = list_is c.self.inside.rows.items l c.index_mut-row.result.now low c.index_mut-row.ensures.value in
    let claimed : c.claimed.result.now ≡ (list_in c.self.inside.rows.items l).claimed = c.claimed.ensures ∙ ap (λ (q : PlainList). q.claimed) is in
    let claimed_at : (i k : ℕ) → slice_get c.claimed.result.now i ≡ Some k → chunk_at c.self.inside.rows.items false l i ≡ Some k = λ i k at. ap (λ (xs : List ℕ). slice_get xs i) (sym claimed) ∙ at in
    λ i j k at there. let place : SamePlace false false l l i j = one_place c.self.inside.rows.items c.self.inside.homes.items c.self.inside.pool c.self.invariant.homed false false l l i j k (claimed_at i k at) (claimed_at j k there) in place.rank

pub give_all-requires-2-clause-below : goal.give_all-requires-2-clause-below
give_all-requires-2-clause-below c =
    let l : ℕ = c.index-list.result.now in
    let some : c.self.inside.cleared < length c.self.inside.order.items = subst (λ (p : Plain). p.cleared < length p.order) (sym c.self.view_is) c.requires.some in
    let l_is : l ≡ get_or c.self.inside.order.items c.self.inside.cleared 0 = c.index-list.ensures ∙ get_or_default_zero c.self.inside.order.items c.self.inside.cleared l some in
    let phase : (list_in c.self.inside.rows.items l).phase ≡ Shut = c.self.invariant.ordered.shut c.self.inside.cleared l (slice_get-get_or c.self.inside.order.items c.self.inside.cleared 0 some ∙ ap Some (sym l_is)) in
    let low : l < length c.self.inside.rows.items = shut_within c.self.inside.rows.items l phase in
    let is : c.index_mut-row.result.now ≡ list_in c.self.inside.rows.items l = list_is c.self.inside.rows.items l c.index_mut-row.result.now low c.index_mut-row.ensures.value in
    let claimed : c.claimed.result.now ≡ (list_in c.self.inside.rows.items l).claimed = c.claimed.ensures ∙ ap (λ (q : PlainList). q.claimed) is in
    let claimed_at : (i k : ℕ) → slice_get c.claimed.result.now i ≡ Some k → chunk_at c.self.inside.rows.items false l i ≡ Some k = λ i k at. ap (λ (xs : List ℕ). slice_get xs i) (sym claimed) ∙ at in
    let owned : c.owned.result.now ≡ (list_in c.self.inside.rows.items l).owned = c.owned.ensures ∙ ap (λ (q : PlainList). q.owned) is in
    let owned_at : (i k : ℕ) → slice_get c.owned.result.now i ≡ Some k → chunk_at c.self.inside.rows.items true l i ≡ Some k = λ i k at. ap (λ (xs : List ℕ). slice_get xs i) (sym owned) ∙ at in
    λ i k at. let small : k < length c.self.inside.homes.items = slice_get_within c.self.inside.homes.items k (home_of l true i) (c.self.invariant.homed.home true l i k (owned_at i k at)) in omega (arith, c.self.invariant.homed.size, given_size _ _ _ c.give_all.ensures.after)

differ : true ≡ false → ⊥
differ e = cc

pub give_all-requires-2-clause-taken : goal.give_all-requires-2-clause-taken
give_all-requires-2-clause-taken c =
    let l : ℕ = c.index-list.result.now in
    let some : c.self.inside.cleared < length c.self.inside.order.items = subst (λ (p : Plain). p.cleared < length p.order) (sym c.self.view_is) c.requires.some in
    let l_is : l ≡ get_or c.self.inside.order.items c.self.inside.cleared 0 = c.index-list.ensures ∙ get_or_default_zero c.self.inside.order.items c.self.inside.cleared l some in
    let phase : (list_in c.self.inside.rows.items l).phase ≡ Shut = c.self.invariant.ordered.shut c.self.inside.cleared l (slice_get-get_or c.self.inside.order.items c.self.inside.cleared 0 some ∙ ap Some (sym l_is)) in
    let low : l < length c.self.inside.rows.items = shut_within c.self.inside.rows.items l phase in
    let is : c.index_mut-row.result.now ≡ list_in c.self.inside.rows.items l = list_is c.self.inside.rows.items l c.index_mut-row.result.now low c.index_mut-row.ensures.value in
    let claimed : c.claimed.result.now ≡ (list_in c.self.inside.rows.items l).claimed = c.claimed.ensures ∙ ap (λ (q : PlainList). q.claimed) is in
    let claimed_at : (i k : ℕ) → slice_get c.claimed.result.now i ≡ Some k → chunk_at c.self.inside.rows.items false l i ≡ Some k = λ i k at. ap (λ (xs : List ℕ). slice_get xs i) (sym claimed) ∙ at in
    let owned : c.owned.result.now ≡ (list_in c.self.inside.rows.items l).owned = c.owned.ensures ∙ ap (λ (q : PlainList). q.owned) is in
    let owned_at : (i k : ℕ) → slice_get c.owned.result.now i ≡ Some k → chunk_at c.self.inside.rows.items true l i ≡ Some k = λ i k at. ap (λ (xs : List ℕ). slice_get xs i) (sym owned) ∙ at in
    λ i k at free. elim (given_free _ _ _ c.give_all.ensures.after k free) [
      | inl before ↦ c.self.invariant.homed.taken true l i k (owned_at i k at) before
      | inr back ↦ let place : SamePlace true false l l i back.0 = one_place c.self.inside.rows.items c.self.inside.homes.items c.self.inside.pool c.self.invariant.homed true false l l i back.0 k (owned_at i k at) (claimed_at back.0 k back.1) in differ place.owned
    ]

pub give_all-requires-2-clause-apart : goal.give_all-requires-2-clause-apart
give_all-requires-2-clause-apart c =
    let l : ℕ = c.index-list.result.now in
    let some : c.self.inside.cleared < length c.self.inside.order.items = subst (λ (p : Plain). p.cleared < length p.order) (sym c.self.view_is) c.requires.some in
    let l_is : l ≡ get_or c.self.inside.order.items c.self.inside.cleared 0 = c.index-list.ensures ∙ get_or_default_zero c.self.inside.order.items c.self.inside.cleared l some in
    let phase : (list_in c.self.inside.rows.items l).phase ≡ Shut = c.self.invariant.ordered.shut c.self.inside.cleared l (slice_get-get_or c.self.inside.order.items c.self.inside.cleared 0 some ∙ ap Some (sym l_is)) in
    let low : l < length c.self.inside.rows.items = shut_within c.self.inside.rows.items l phase in
    let is : c.index_mut-row.result.now ≡ list_in c.self.inside.rows.items l = list_is c.self.inside.rows.items l c.index_mut-row.result.now low c.index_mut-row.ensures.value in
    let claimed : c.claimed.result.now ≡ (list_in c.self.inside.rows.items l).claimed = c.claimed.ensures ∙ ap (λ (q : PlainList). q.claimed) is in
    let claimed_at : (i k : ℕ) → slice_get c.claimed.result.now i ≡ Some k → chunk_at c.self.inside.rows.items false l i ≡ Some k = λ i k at. ap (λ (xs : List ℕ). slice_get xs i) (sym claimed) ∙ at in
    let owned : c.owned.result.now ≡ (list_in c.self.inside.rows.items l).owned = c.owned.ensures ∙ ap (λ (q : PlainList). q.owned) is in
    let owned_at : (i k : ℕ) → slice_get c.owned.result.now i ≡ Some k → chunk_at c.self.inside.rows.items true l i ≡ Some k = λ i k at. ap (λ (xs : List ℕ). slice_get xs i) (sym owned) ∙ at in
    λ i j k at there. let place : SamePlace true true l l i j = one_place c.self.inside.rows.items c.self.inside.homes.items c.self.inside.pool c.self.invariant.homed true true l l i j k (owned_at i k at) (owned_at j k there) in place.rank

pub overflow_cast-self : goal.overflow_cast-self
overflow_cast-self c =
    let l : ℕ = c.index-list.result.now in
    let some : c.self.inside.cleared < length c.self.inside.order.items = subst (λ (p : Plain). p.cleared < length p.order) (sym c.self.view_is) c.requires.some in
    let l_is : l ≡ get_or c.self.inside.order.items c.self.inside.cleared 0 = c.index-list.ensures ∙ get_or_default_zero c.self.inside.order.items c.self.inside.cleared l some in
    let phase : (list_in c.self.inside.rows.items l).phase ≡ Shut = c.self.invariant.ordered.shut c.self.inside.cleared l (slice_get-get_or c.self.inside.order.items c.self.inside.cleared 0 some ∙ ap Some (sym l_is)) in
    let low : l < length c.self.inside.rows.items = shut_within c.self.inside.rows.items l phase in
    let is : c.index_mut-row.result.now ≡ list_in c.self.inside.rows.items l = list_is c.self.inside.rows.items l c.index_mut-row.result.now low c.index_mut-row.ensures.value in
    let claimed : c.claimed.result.now ≡ (list_in c.self.inside.rows.items l).claimed = c.claimed.ensures ∙ ap (λ (q : PlainList). q.claimed) is in
    let claimed_at : (i k : ℕ) → slice_get c.claimed.result.now i ≡ Some k → chunk_at c.self.inside.rows.items false l i ≡ Some k = λ i k at. ap (λ (xs : List ℕ). slice_get xs i) (sym claimed) ∙ at in
    let owned : c.owned.result.now ≡ (list_in c.self.inside.rows.items l).owned = c.owned.ensures ∙ ap (λ (q : PlainList). q.owned) is in
    let owned_at : (i k : ℕ) → slice_get c.owned.result.now i ≡ Some k → chunk_at c.self.inside.rows.items true l i ≡ Some k = λ i k at. ap (λ (xs : List ℕ). slice_get xs i) (sym owned) ∙ at in
    let count : length c.claimed-2.result.now + length c.owned-2.result.now ≡ chunk_count (list_in c.self.inside.rows.items l) =
    let first : length c.claimed-2.result.now ≡ length (list_in c.self.inside.rows.items l).claimed = ap length (c.claimed-2.ensures ∙ ap (λ (q : PlainList). q.claimed) is) in
    let second : length c.owned-2.result.now ≡ length (list_in c.self.inside.rows.items l).owned = ap length (c.owned-2.ensures ∙ ap (λ (q : PlainList). q.owned) is) in omega arith in
    omega (arith, count, count-le c.self.inside.rows.items c.self.inside.pool c.self.inside.held (length c.self.inside.order.items) l c.self.invariant.summed low, c.self.invariant.few_chunks)

pub overflow_sub-self : goal.overflow_sub-self
overflow_sub-self c =
    let l : ℕ = c.index-list.result.now in
    let some : c.self.inside.cleared < length c.self.inside.order.items = subst (λ (p : Plain). p.cleared < length p.order) (sym c.self.view_is) c.requires.some in
    let l_is : l ≡ get_or c.self.inside.order.items c.self.inside.cleared 0 = c.index-list.ensures ∙ get_or_default_zero c.self.inside.order.items c.self.inside.cleared l some in
    let phase : (list_in c.self.inside.rows.items l).phase ≡ Shut = c.self.invariant.ordered.shut c.self.inside.cleared l (slice_get-get_or c.self.inside.order.items c.self.inside.cleared 0 some ∙ ap Some (sym l_is)) in
    let low : l < length c.self.inside.rows.items = shut_within c.self.inside.rows.items l phase in
    let is : c.index_mut-row.result.now ≡ list_in c.self.inside.rows.items l = list_is c.self.inside.rows.items l c.index_mut-row.result.now low c.index_mut-row.ensures.value in
    let claimed : c.claimed.result.now ≡ (list_in c.self.inside.rows.items l).claimed = c.claimed.ensures ∙ ap (λ (q : PlainList). q.claimed) is in
    let claimed_at : (i k : ℕ) → slice_get c.claimed.result.now i ≡ Some k → chunk_at c.self.inside.rows.items false l i ≡ Some k = λ i k at. ap (λ (xs : List ℕ). slice_get xs i) (sym claimed) ∙ at in
    let owned : c.owned.result.now ≡ (list_in c.self.inside.rows.items l).owned = c.owned.ensures ∙ ap (λ (q : PlainList). q.owned) is in
    let owned_at : (i k : ℕ) → slice_get c.owned.result.now i ≡ Some k → chunk_at c.self.inside.rows.items true l i ≡ Some k = λ i k at. ap (λ (xs : List ℕ). slice_get xs i) (sym owned) ∙ at in
    let count : length c.claimed-2.result.now + length c.owned-2.result.now ≡ chunk_count (list_in c.self.inside.rows.items l) =
    let first : length c.claimed-2.result.now ≡ length (list_in c.self.inside.rows.items l).claimed = ap length (c.claimed-2.ensures ∙ ap (λ (q : PlainList). q.claimed) is) in
    let second : length c.owned-2.result.now ≡ length (list_in c.self.inside.rows.items l).owned = ap length (c.owned-2.ensures ∙ ap (λ (q : PlainList). q.owned) is) in omega arith in
    let part : held_chunks (list_in c.self.inside.rows.items l) ≤ sum_by held_chunks c.self.inside.rows.items = get_or-le-sum_by held_chunks c.self.inside.rows.items l no_list low in
    let whole : held_chunks (list_in c.self.inside.rows.items l) ≡ chunk_count (list_in c.self.inside.rows.items l) = ap (λ s. cond (is_shut s) (chunk_count (list_in c.self.inside.rows.items l)) 0) phase in
    omega (arith, count, c.self.invariant.summed.held)

pub empty-requires : goal.empty-requires
empty-requires c =
    let l : ℕ = c.index-list.result.now in
    let some : c.self.inside.cleared < length c.self.inside.order.items = subst (λ (p : Plain). p.cleared < length p.order) (sym c.self.view_is) c.requires.some in
    let l_is : l ≡ get_or c.self.inside.order.items c.self.inside.cleared 0 = c.index-list.ensures ∙ get_or_default_zero c.self.inside.order.items c.self.inside.cleared l some in
    let phase : (list_in c.self.inside.rows.items l).phase ≡ Shut = c.self.invariant.ordered.shut c.self.inside.cleared l (slice_get-get_or c.self.inside.order.items c.self.inside.cleared 0 some ∙ ap Some (sym l_is)) in
    let low : l < length c.self.inside.rows.items = shut_within c.self.inside.rows.items l phase in
    let is : c.index_mut-row.result.now ≡ list_in c.self.inside.rows.items l = list_is c.self.inside.rows.items l c.index_mut-row.result.now low c.index_mut-row.ensures.value in
    let claimed : c.claimed.result.now ≡ (list_in c.self.inside.rows.items l).claimed = c.claimed.ensures ∙ ap (λ (q : PlainList). q.claimed) is in
    let claimed_at : (i k : ℕ) → slice_get c.claimed.result.now i ≡ Some k → chunk_at c.self.inside.rows.items false l i ≡ Some k = λ i k at. ap (λ (xs : List ℕ). slice_get xs i) (sym claimed) ∙ at in
    ap (λ (q : PlainList). q.phase) is ∙ phase

pub overflow_add-self-2 : goal.overflow_add-self-2
overflow_add-self-2 c =
    let l : ℕ = c.index-list.result.now in
    let some : c.self.inside.cleared < length c.self.inside.order.items = subst (λ (p : Plain). p.cleared < length p.order) (sym c.self.view_is) c.requires.some in
    let l_is : l ≡ get_or c.self.inside.order.items c.self.inside.cleared 0 = c.index-list.ensures ∙ get_or_default_zero c.self.inside.order.items c.self.inside.cleared l some in
    let phase : (list_in c.self.inside.rows.items l).phase ≡ Shut = c.self.invariant.ordered.shut c.self.inside.cleared l (slice_get-get_or c.self.inside.order.items c.self.inside.cleared 0 some ∙ ap Some (sym l_is)) in
    let low : l < length c.self.inside.rows.items = shut_within c.self.inside.rows.items l phase in
    omega (arith, c.self.inside.rows.ok.0, c.self.invariant.summed.shuts, shut-le c.self.inside.rows.items, c.self.invariant.few_lists)

pub invariant_of-self : goal.invariant_of-self
invariant_of-self c =
    let l : ℕ = c.index-list.result.now in
    let some : c.self.inside.cleared < length c.self.inside.order.items = subst (λ (p : Plain). p.cleared < length p.order) (sym c.self.view_is) c.requires.some in
    let l_is : l ≡ get_or c.self.inside.order.items c.self.inside.cleared 0 = c.index-list.ensures ∙ get_or_default_zero c.self.inside.order.items c.self.inside.cleared l some in
    let phase : (list_in c.self.inside.rows.items l).phase ≡ Shut = c.self.invariant.ordered.shut c.self.inside.cleared l (slice_get-get_or c.self.inside.order.items c.self.inside.cleared 0 some ∙ ap Some (sym l_is)) in
    let low : l < length c.self.inside.rows.items = shut_within c.self.inside.rows.items l phase in
    let is : c.index_mut-row.result.now ≡ list_in c.self.inside.rows.items l = list_is c.self.inside.rows.items l c.index_mut-row.result.now low c.index_mut-row.ensures.value in
    let claimed : c.claimed.result.now ≡ (list_in c.self.inside.rows.items l).claimed = c.claimed.ensures ∙ ap (λ (q : PlainList). q.claimed) is in
    let claimed_at : (i k : ℕ) → slice_get c.claimed.result.now i ≡ Some k → chunk_at c.self.inside.rows.items false l i ≡ Some k = λ i k at. ap (λ (xs : List ℕ). slice_get xs i) (sym claimed) ∙ at in
    let owned : c.owned.result.now ≡ (list_in c.self.inside.rows.items l).owned = c.owned.ensures ∙ ap (λ (q : PlainList). q.owned) is in
    let owned_at : (i k : ℕ) → slice_get c.owned.result.now i ≡ Some k → chunk_at c.self.inside.rows.items true l i ≡ Some k = λ i k at. ap (λ (xs : List ℕ). slice_get xs i) (sym owned) ∙ at in
    let count : length c.claimed-2.result.now + length c.owned-2.result.now ≡ chunk_count (list_in c.self.inside.rows.items l) =
    let first : length c.claimed-2.result.now ≡ length (list_in c.self.inside.rows.items l).claimed = ap length (c.claimed-2.ensures ∙ ap (λ (q : PlainList). q.claimed) is) in
    let second : length c.owned-2.result.now ≡ length (list_in c.self.inside.rows.items l).owned = ap length (c.owned-2.ensures ∙ ap (λ (q : PlainList). q.owned) is) in omega arith in
    let e : c.empty.new.self ≡ emptied_list (list_in c.self.inside.rows.items l) = c.empty.ensures ∙ ap emptied_list is in
    let size : c.give_all-2.new.self.size ≡ c.self.inside.pool.size = given_size _ _ _ c.give_all-2.ensures.after ∙ given_size _ _ _ c.give_all.ensures.after in
    let more : set_of.len c.give_all-2.new.self.free ≡ set_of.len c.self.inside.pool.free + chunk_count (list_in c.self.inside.rows.items l) =
    let first : length c.claimed.result.now ≡ length (list_in c.self.inside.rows.items l).claimed = ap length claimed in
    let second : length c.owned.result.now ≡ length (list_in c.self.inside.rows.items l).owned = ap length owned in omega (arith, c.give_all.ensures.count, c.give_all-2.ensures.count) in
    let nobody : Unreached c.self.inside.out.items c.self.inside.cleared = subst (λ (p : Plain). Unreached p.out p.cleared) (sym c.self.view_is) c.requires.nobody in
    let given : (q : ℕ) → IsFree c.give_all-2.new.self q → IsFree c.self.inside.pool q ⊎ ((w : Bool) × (i : ℕ) × (chunk_at c.self.inside.rows.items w l i ≡ Some q)) = λ q free.
    elim (given_free _ _ _ c.give_all-2.ensures.after q free) [
      | inl mid ↦ elim (given_free _ _ _ c.give_all.ensures.after q mid) [
        | inl before ↦ inl before
        | inr back ↦ inr (false, back.0, claimed_at back.0 q back.1)
      ]
      | inr back ↦ inr (true, back.0, owned_at back.0 q back.1)
    ] in
    let chunks : c.claimed.result.now ++ c.owned.result.now ≡ all_chunks (list_in c.self.inside.rows.items l) =
    ap (λ (cs : List ℕ). cs ++ c.owned.result.now) claimed ∙ ap (λ (cs : List ℕ). (list_in c.self.inside.rows.items l).claimed ++ cs) owned in
    let lost : (q : ℕ)
    → IsFree c.give_all-2.new.self q ⊎ ((IsFree c.self.inside.pool q → ⊥) × (Contains (all_chunks (list_in c.self.inside.rows.items l)) q → ⊥)) =
    λ q.
    subst (λ (cs : List ℕ). IsFree c.give_all-2.new.self q ⊎ ((IsFree c.self.inside.pool q → ⊥) × (Contains cs q → ⊥))) chunks
    (given_twice _ _ _ _ _ c.give_all.ensures.after c.give_all-2.ensures.after q) in
    record {
      homed = subst (λ (b : PlainList). AreHomed (set c.self.inside.rows.items l b) c.self.inside.homes.items c.give_all-2.new.self) (sym e)
          (homed-emptied c.self.inside.rows.items c.self.inside.homes.items c.self.inside.pool c.give_all-2.new.self l
          c.self.invariant.homed low size given lost);
      summed = subst (λ (b : PlainList). AreSummed (set c.self.inside.rows.items l b) c.give_all-2.new.self (c.self.inside.held - (length c.claimed-2.result.now + length c.owned-2.result.now)) (length c.self.inside.order.items)) (sym e)
          (subst (λ n. AreSummed (set c.self.inside.rows.items l (emptied_list (list_in c.self.inside.rows.items l))) c.give_all-2.new.self (c.self.inside.held - n) (length c.self.inside.order.items)) (sym count)
          (summed-emptied c.self.inside.rows.items c.self.inside.pool c.give_all-2.new.self c.self.inside.held (length c.self.inside.order.items) l c.self.invariant.summed low (ap is_shut phase) size more));
      ordered = ordered-cleared (set c.self.inside.rows.items l c.empty.new.self) c.self.inside.order.items c.self.inside.cleared c.self.inside.out.items c.self.inside.seats
          (ordered-set c.self.inside.rows.items c.self.inside.order.items c.self.inside.cleared c.self.inside.out.items c.self.inside.seats l c.empty.new.self c.self.invariant.ordered low (λ shut_now. ap (λ (q : PlainList). q.phase) e ∙ shut_now))
          some nobody;
      order_room = c.self.invariant.order_room;
      out_room = c.self.invariant.out_room;
      grants_room = c.self.invariant.grants_room;
      items_room = c.self.invariant.items_room;
      no_grants = c.self.invariant.no_grants;
      no_answers = c.self.invariant.no_answers;
      few_lists = c.self.invariant.few_lists;
      few_chunks = omega (arith, size, c.self.invariant.few_chunks);
      few_given = c.self.invariant.few_given;
    }

pub returns-clause-cleared : goal.returns-clause-cleared
returns-clause-cleared c =
    let l : ℕ = c.index-list.result.now in
    let some : c.self.inside.cleared < length c.self.inside.order.items = subst (λ (p : Plain). p.cleared < length p.order) (sym c.self.view_is) c.requires.some in
    let l_is : l ≡ get_or c.self.inside.order.items c.self.inside.cleared 0 = c.index-list.ensures ∙ get_or_default_zero c.self.inside.order.items c.self.inside.cleared l some in
    let phase : (list_in c.self.inside.rows.items l).phase ≡ Shut = c.self.invariant.ordered.shut c.self.inside.cleared l (slice_get-get_or c.self.inside.order.items c.self.inside.cleared 0 some ∙ ap Some (sym l_is)) in
    let low : l < length c.self.inside.rows.items = shut_within c.self.inside.rows.items l phase in
    let is : c.index_mut-row.result.now ≡ list_in c.self.inside.rows.items l = list_is c.self.inside.rows.items l c.index_mut-row.result.now low c.index_mut-row.ensures.value in
    let claimed : c.claimed.result.now ≡ (list_in c.self.inside.rows.items l).claimed = c.claimed.ensures ∙ ap (λ (q : PlainList). q.claimed) is in
    let claimed_at : (i k : ℕ) → slice_get c.claimed.result.now i ≡ Some k → chunk_at c.self.inside.rows.items false l i ≡ Some k = λ i k at. ap (λ (xs : List ℕ). slice_get xs i) (sym claimed) ∙ at in
    let owned : c.owned.result.now ≡ (list_in c.self.inside.rows.items l).owned = c.owned.ensures ∙ ap (λ (q : PlainList). q.owned) is in
    let owned_at : (i k : ℕ) → slice_get c.owned.result.now i ≡ Some k → chunk_at c.self.inside.rows.items true l i ≡ Some k = λ i k at. ap (λ (xs : List ℕ). slice_get xs i) (sym owned) ∙ at in
    let count : length c.claimed-2.result.now + length c.owned-2.result.now ≡ chunk_count (list_in c.self.inside.rows.items l) =
    let first : length c.claimed-2.result.now ≡ length (list_in c.self.inside.rows.items l).claimed = ap length (c.claimed-2.ensures ∙ ap (λ (q : PlainList). q.claimed) is) in
    let second : length c.owned-2.result.now ≡ length (list_in c.self.inside.rows.items l).owned = ap length (c.owned-2.ensures ∙ ap (λ (q : PlainList). q.owned) is) in omega arith in
    let e : c.empty.new.self ≡ emptied_list (list_in c.self.inside.rows.items l) = c.empty.ensures ∙ ap emptied_list is in
    let size : c.give_all-2.new.self.size ≡ c.self.inside.pool.size = given_size _ _ _ c.give_all-2.ensures.after ∙ given_size _ _ _ c.give_all.ensures.after in
    let more : set_of.len c.give_all-2.new.self.free ≡ set_of.len c.self.inside.pool.free + chunk_count (list_in c.self.inside.rows.items l) =
    let first : length c.claimed.result.now ≡ length (list_in c.self.inside.rows.items l).claimed = ap length claimed in
    let second : length c.owned.result.now ≡ length (list_in c.self.inside.rows.items l).owned = ap length owned in omega (arith, c.give_all.ensures.count, c.give_all-2.ensures.count) in
    cleared_view (plain_of c.self.inside) l (set_of.len c.give_all-2.new.self.free) (c.self.inside.cleared + 1) c.give_all-2.new.self.size c.empty.new.self l_is e more (add-one c.self.inside.cleared) size ∙ ap next_cleared c.self.view_is

pub returns-clause-shut : goal.returns-clause-shut
returns-clause-shut c =
    let l : ℕ = c.index-list.result.now in
    let some : c.self.inside.cleared < length c.self.inside.order.items = subst (λ (p : Plain). p.cleared < length p.order) (sym c.self.view_is) c.requires.some in
    let l_is : l ≡ get_or c.self.inside.order.items c.self.inside.cleared 0 = c.index-list.ensures ∙ get_or_default_zero c.self.inside.order.items c.self.inside.cleared l some in
    let phase : (list_in c.self.inside.rows.items l).phase ≡ Shut = c.self.invariant.ordered.shut c.self.inside.cleared l (slice_get-get_or c.self.inside.order.items c.self.inside.cleared 0 some ∙ ap Some (sym l_is)) in
    let low : l < length c.self.inside.rows.items = shut_within c.self.inside.rows.items l phase in
    ap (λ (p : Plain). (list_in p.lists (next_list p)).phase) (sym c.self.view_is) ∙ ap (λ j. (list_in c.self.inside.rows.items j).phase) (sym l_is) ∙ phase
