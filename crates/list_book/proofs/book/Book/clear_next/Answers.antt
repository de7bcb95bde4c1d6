use Rattle.std.proofs.Common.{◌≡◌, ℕ, ◌+◌, ◌-◌, ◌<◌, ◌⊎◌, inl, inr, Bool, true, false, List, ◌++◌, length, set, Some, add-one, ap, sym, subst, ◌∙◌, arith}
use Rattle.std.specs.List.{Contains, slice_get}
use Rattle.std.specs.FinSet as set_of
use Rattle.std.proofs.lemmas.Grind.{get_or_default_zero}
use Rattle.chunk_pool.specs.Numbers.{IsFree}
use Rattle.chunk_pool.proofs.GiveLaws.{given_free, given_size, given_twice}
use Rattle.list_words.specs.Store.{Unreached}
use Rattle.list_words.proofs.ChunkLaws.{SamePlace}
use Rattle.list_book.specs.Books.{BookRow, BookValue, IsSized, chunk_in, emptied_row, row_at, row_chunks, row_count, with_next_cleared}
use Rattle.list_book.specs.BookKept.{IsSound, book_of}
use Rattle.list_book.proofs.PlaceLaws.{IsNext, chunk_below, chunk_place, chunk_taken, cleared_view, count_few, held_part, in_chain, is_next, order_few}
use Rattle.list_book.proofs.RowLaws.{row_is, sized-emptied, sized-set}
use Rattle.list_book.proofs.SoundLaws.{sound-cleared}
use Rattle.list_book.proofs.book.Book.clear_next.Goals as goal

pub index_mut-row-requires : goal.index_mut-row-requires
index_mut-row-requires c =
    let l : ℕ = c.index-list.result.now in
    let some : c.self.inside.cleared < length c.self.inside.order.items = subst (λ (b : BookValue). b.cleared < length b.order) (sym c.self.view_is) c.requires.some in
    let n : IsNext c.self.inside.rows.items c.self.inside.order.items c.self.inside.cleared l =
    is_next c.self.inside.rows.items c.self.inside.order.items c.self.inside.cleared l c.self.invariant.sound.listed some (c.index-list.ensures ∙ get_or_default_zero c.self.inside.order.items c.self.inside.cleared l some) in
    omega (arith, n.low, c.self.inside.rows.ok.0)

pub give_all-requires-clause-below : goal.give_all-requires-clause-below
give_all-requires-clause-below c =
    let l : ℕ = c.index-list.result.now in
    let some : c.self.inside.cleared < length c.self.inside.order.items = subst (λ (b : BookValue). b.cleared < length b.order) (sym c.self.view_is) c.requires.some in
    let n : IsNext c.self.inside.rows.items c.self.inside.order.items c.self.inside.cleared l =
    is_next c.self.inside.rows.items c.self.inside.order.items c.self.inside.cleared l c.self.invariant.sound.listed some (c.index-list.ensures ∙ get_or_default_zero c.self.inside.order.items c.self.inside.cleared l some) in
    let is : c.index_mut-row.result.now ≡ row_at c.self.inside.rows.items l = row_is c.self.inside.rows.items l c.index_mut-row.result.now n.low c.index_mut-row.ensures.value in
    let claimed_at : (i k : ℕ) → slice_get c.claimed.result.now i ≡ Some k → chunk_in c.self.inside.rows.items false l i ≡ Some k = in_chain c.self.inside.rows.items false l c.index_mut-row.result.now c.claimed.result.now is c.claimed.ensures in
    λ i k at. chunk_below c.self.inside.rows.items c.self.inside.pool c.self.inside.held c.self.inside.order.items c.self.inside.cleared c.self.inside.out.items c.self.inside.seats c.self.invariant.sound false l i k (claimed_at i k at)

pub give_all-requires-clause-taken : goal.give_all-requires-clause-taken
give_all-requires-clause-taken c =
    let l : ℕ = c.index-list.result.now in
    let some : c.self.inside.cleared < length c.self.inside.order.items = subst (λ (b : BookValue). b.cleared < length b.order) (sym c.self.view_is) c.requires.some in
    let n : IsNext c.self.inside.rows.items c.self.inside.order.items c.self.inside.cleared l =
    is_next c.self.inside.rows.items c.self.inside.order.items c.self.inside.cleared l c.self.invariant.sound.listed some (c.index-list.ensures ∙ get_or_default_zero c.self.inside.order.items c.self.inside.cleared l some) in
    let is : c.index_mut-row.result.now ≡ row_at c.self.inside.rows.items l = row_is c.self.inside.rows.items l c.index_mut-row.result.now n.low c.index_mut-row.ensures.value in
    let claimed_at : (i k : ℕ) → slice_get c.claimed.result.now i ≡ Some k → chunk_in c.self.inside.rows.items false l i ≡ Some k = in_chain c.self.inside.rows.items false l c.index_mut-row.result.now c.claimed.result.now is c.claimed.ensures in
    λ i k at. chunk_taken c.self.inside.rows.items c.self.inside.pool c.self.inside.held c.self.inside.order.items c.self.inside.cleared c.self.inside.out.items c.self.inside.seats c.self.invariant.sound false l i k (claimed_at i k at)

pub give_all-requires-clause-apart : goal.give_all-requires-clause-apart
give_all-requires-clause-apart c =
    let l : ℕ = c.index-list.result.now in
    let some : c.self.inside.cleared < length c.self.inside.order.items = subst (λ (b : BookValue). b.cleared < length b.order) (sym c.self.view_is) c.requires.some in
    let n : IsNext c.self.inside.rows.items c.self.inside.order.items c.self.inside.cleared l =
    is_next c.self.inside.rows.items c.self.inside.order.items c.self.inside.cleared l c.self.invariant.sound.listed some (c.index-list.ensures ∙ get_or_default_zero c.self.inside.order.items c.self.inside.cleared l some) in
    let is : c.index_mut-row.result.now ≡ row_at c.self.inside.rows.items l = row_is c.self.inside.rows.items l c.index_mut-row.result.now n.low c.index_mut-row.ensures.value in
    let claimed_at : (i k : ℕ) → slice_get c.claimed.result.now i ≡ Some k → chunk_in c.self.inside.rows.items false l i ≡ Some k = in_chain c.self.inside.rows.items false l c.index_mut-row.result.now c.claimed.result.now is c.claimed.ensures in
    λ i j k at there.
    let place : SamePlace false false l l i j = chunk_place c.self.inside.rows.items c.self.inside.pool c.self.inside.held c.self.inside.order.items c.self.inside.cleared c.self.inside.out.items c.self.inside.seats c.self.invariant.sound false false l l i j k (claimed_at i k at) (claimed_at j k there) in
    place.rank

pub give_all-requires-2-clause-below : goal.give_all-requires-2-clause-below
give_all-requires-2-clause-below c =
    let l : ℕ = c.index-list.result.now in
    let some : c.self.inside.cleared < length c.self.inside.order.items = subst (λ (b : BookValue). b.cleared < length b.order) (sym c.self.view_is) c.requires.some in
    let n : IsNext c.self.inside.rows.items c.self.inside.order.items c.self.inside.cleared l =
    is_next c.self.inside.rows.items c.self.inside.order.items c.self.inside.cleared l c.self.invariant.sound.listed some (c.index-list.ensures ∙ get_or_default_zero c.self.inside.order.items c.self.inside.cleared l some) in
    let is : c.index_mut-row.result.now ≡ row_at c.self.inside.rows.items l = row_is c.self.inside.rows.items l c.index_mut-row.result.now n.low c.index_mut-row.ensures.value in
    let owned_at : (i k : ℕ) → slice_get c.owned.result.now i ≡ Some k → chunk_in c.self.inside.rows.items true l i ≡ Some k = in_chain c.self.inside.rows.items true l c.index_mut-row.result.now c.owned.result.now is c.owned.ensures in
    λ i k at.
    let small : k < c.self.inside.pool.size = chunk_below c.self.inside.rows.items c.self.inside.pool c.self.inside.held c.self.inside.order.items c.self.inside.cleared c.self.inside.out.items c.self.inside.seats c.self.invariant.sound true l i k (owned_at i k at) in
    omega (arith, given_size _ _ _ c.give_all.ensures.after)

differ : true ≡ false → ⊥
differ e = cc

pub give_all-requires-2-clause-taken : goal.give_all-requires-2-clause-taken
give_all-requires-2-clause-taken c =
    let l : ℕ = c.index-list.result.now in
    let some : c.self.inside.cleared < length c.self.inside.order.items = subst (λ (b : BookValue). b.cleared < length b.order) (sym c.self.view_is) c.requires.some in
    let n : IsNext c.self.inside.rows.items c.self.inside.order.items c.self.inside.cleared l =
    is_next c.self.inside.rows.items c.self.inside.order.items c.self.inside.cleared l c.self.invariant.sound.listed some (c.index-list.ensures ∙ get_or_default_zero c.self.inside.order.items c.self.inside.cleared l some) in
    let is : c.index_mut-row.result.now ≡ row_at c.self.inside.rows.items l = row_is c.self.inside.rows.items l c.index_mut-row.result.now n.low c.index_mut-row.ensures.value in
    let claimed_at : (i k : ℕ) → slice_get c.claimed.result.now i ≡ Some k → chunk_in c.self.inside.rows.items false l i ≡ Some k = in_chain c.self.inside.rows.items false l c.index_mut-row.result.now c.claimed.result.now is c.claimed.ensures in
    let owned_at : (i k : ℕ) → slice_get c.owned.result.now i ≡ Some k → chunk_in c.self.inside.rows.items true l i ≡ Some k = in_chain c.self.inside.rows.items true l c.index_mut-row.result.now c.owned.result.now is c.owned.ensures in
    λ i k at free. elim (given_free _ _ _ c.give_all.ensures.after k free) [
      | inl before ↦ chunk_taken c.self.inside.rows.items c.self.inside.pool c.self.inside.held c.self.inside.order.items c.self.inside.cleared c.self.inside.out.items c.self.inside.seats c.self.invariant.sound true l i k (owned_at i k at) before
      | inr back ↦
          let place : SamePlace true false l l i back.0 = chunk_place c.self.inside.rows.items c.self.inside.pool c.self.inside.held c.self.inside.order.items c.self.inside.cleared c.self.inside.out.items c.self.inside.seats c.self.invariant.sound true false l l i back.0 k (owned_at i k at) (claimed_at back.0 k back.1) in
          differ place.owned
    ]

pub give_all-requires-2-clause-apart : goal.give_all-requires-2-clause-apart
give_all-requires-2-clause-apart c =
    let l : ℕ = c.index-list.result.now in
    let some : c.self.inside.cleared < length c.self.inside.order.items = subst (λ (b : BookValue). b.cleared < length b.order) (sym c.self.view_is) c.requires.some in
    let n : IsNext c.self.inside.rows.items c.self.inside.order.items c.self.inside.cleared l =
    is_next c.self.inside.rows.items c.self.inside.order.items c.self.inside.cleared l c.self.invariant.sound.listed some (c.index-list.ensures ∙ get_or_default_zero c.self.inside.order.items c.self.inside.cleared l some) in
    let is : c.index_mut-row.result.now ≡ row_at c.self.inside.rows.items l = row_is c.self.inside.rows.items l c.index_mut-row.result.now n.low c.index_mut-row.ensures.value in
    let owned_at : (i k : ℕ) → slice_get c.owned.result.now i ≡ Some k → chunk_in c.self.inside.rows.items true l i ≡ Some k = in_chain c.self.inside.rows.items true l c.index_mut-row.result.now c.owned.result.now is c.owned.ensures in
    λ i j k at there.
    let place : SamePlace true true l l i j = chunk_place c.self.inside.rows.items c.self.inside.pool c.self.inside.held c.self.inside.order.items c.self.inside.cleared c.self.inside.out.items c.self.inside.seats c.self.invariant.sound true true l l i j k (owned_at i k at) (owned_at j k there) in
    place.rank

pub overflow_cast-self : goal.overflow_cast-self
overflow_cast-self c =
    let l : ℕ = c.index-list.result.now in
    let some : c.self.inside.cleared < length c.self.inside.order.items = subst (λ (b : BookValue). b.cleared < length b.order) (sym c.self.view_is) c.requires.some in
    let n : IsNext c.self.inside.rows.items c.self.inside.order.items c.self.inside.cleared l =
    is_next c.self.inside.rows.items c.self.inside.order.items c.self.inside.cleared l c.self.invariant.sound.listed some (c.index-list.ensures ∙ get_or_default_zero c.self.inside.order.items c.self.inside.cleared l some) in
    let is : c.index_mut-row.result.now ≡ row_at c.self.inside.rows.items l = row_is c.self.inside.rows.items l c.index_mut-row.result.now n.low c.index_mut-row.ensures.value in
    let claimed : length c.claimed-2.result.now ≡ length (row_at c.self.inside.rows.items l).claimed = ap length (c.claimed-2.ensures ∙ ap (λ (r : BookRow). r.claimed) is) in
    let owned : length c.owned-2.result.now ≡ length (row_at c.self.inside.rows.items l).owned = ap length (c.owned-2.ensures ∙ ap (λ (r : BookRow). r.owned) is) in
    omega (arith, count_few c.self.inside.rows.items c.self.inside.pool c.self.inside.held c.self.inside.order.items c.self.inside.cleared c.self.inside.out.items c.self.inside.seats l c.self.invariant.sound n.low, c.self.invariant.few_chunks)

pub overflow_sub-self : goal.overflow_sub-self
overflow_sub-self c =
    let l : ℕ = c.index-list.result.now in
    let some : c.self.inside.cleared < length c.self.inside.order.items = subst (λ (b : BookValue). b.cleared < length b.order) (sym c.self.view_is) c.requires.some in
    let n : IsNext c.self.inside.rows.items c.self.inside.order.items c.self.inside.cleared l =
    is_next c.self.inside.rows.items c.self.inside.order.items c.self.inside.cleared l c.self.invariant.sound.listed some (c.index-list.ensures ∙ get_or_default_zero c.self.inside.order.items c.self.inside.cleared l some) in
    let is : c.index_mut-row.result.now ≡ row_at c.self.inside.rows.items l = row_is c.self.inside.rows.items l c.index_mut-row.result.now n.low c.index_mut-row.ensures.value in
    let claimed : length c.claimed-2.result.now ≡ length (row_at c.self.inside.rows.items l).claimed = ap length (c.claimed-2.ensures ∙ ap (λ (r : BookRow). r.claimed) is) in
    let owned : length c.owned-2.result.now ≡ length (row_at c.self.inside.rows.items l).owned = ap length (c.owned-2.ensures ∙ ap (λ (r : BookRow). r.owned) is) in
    omega (arith, held_part c.self.inside.rows.items c.self.inside.pool c.self.inside.held c.self.inside.order.items c.self.inside.cleared c.self.inside.out.items c.self.inside.seats l c.self.invariant.sound n.low n.was)

pub overflow_add-self-2 : goal.overflow_add-self-2
overflow_add-self-2 c =
    let some : c.self.inside.cleared < length c.self.inside.order.items = subst (λ (b : BookValue). b.cleared < length b.order) (sym c.self.view_is) c.requires.some in
    omega (arith, order_few c.self.inside.rows.items c.self.inside.pool c.self.inside.held c.self.inside.order.items c.self.inside.cleared c.self.inside.out.items c.self.inside.seats c.self.invariant.sound, c.self.inside.rows.ok.0, c.self.invariant.few_lists)

pub invariant_of-self : goal.invariant_of-self
invariant_of-self c =
    let l : ℕ = c.index-list.result.now in
    let some : c.self.inside.cleared < length c.self.inside.order.items = subst (λ (b : BookValue). b.cleared < length b.order) (sym c.self.view_is) c.requires.some in
    let n : IsNext c.self.inside.rows.items c.self.inside.order.items c.self.inside.cleared l =
    is_next c.self.inside.rows.items c.self.inside.order.items c.self.inside.cleared l c.self.invariant.sound.listed some (c.index-list.ensures ∙ get_or_default_zero c.self.inside.order.items c.self.inside.cleared l some) in
    let is : c.index_mut-row.result.now ≡ row_at c.self.inside.rows.items l = row_is c.self.inside.rows.items l c.index_mut-row.result.now n.low c.index_mut-row.ensures.value in
    let claimed_at : (i k : ℕ) → slice_get c.claimed.result.now i ≡ Some k → chunk_in c.self.inside.rows.items false l i ≡ Some k = in_chain c.self.inside.rows.items false l c.index_mut-row.result.now c.claimed.result.now is c.claimed.ensures in
    let owned_at : (i k : ℕ) → slice_get c.owned.result.now i ≡ Some k → chunk_in c.self.inside.rows.items true l i ≡ Some k = in_chain c.self.inside.rows.items true l c.index_mut-row.result.now c.owned.result.now is c.owned.ensures in
    let claimed : length c.claimed-2.result.now ≡ length (row_at c.self.inside.rows.items l).claimed = ap length (c.claimed-2.ensures ∙ ap (λ (r : BookRow). r.claimed) is) in
    let owned : length c.owned-2.result.now ≡ length (row_at c.self.inside.rows.items l).owned = ap length (c.owned-2.ensures ∙ ap (λ (r : BookRow). r.owned) is) in
    let first : length c.claimed.result.now ≡ length (row_at c.self.inside.rows.items l).claimed = ap length (c.claimed.ensures ∙ ap (λ (r : BookRow). r.claimed) is) in
    let second : length c.owned.result.now ≡ length (row_at c.self.inside.rows.items l).owned = ap length (c.owned.ensures ∙ ap (λ (r : BookRow). r.owned) is) in
    let size : c.give_all-2.new.self.size ≡ c.self.inside.pool.size = given_size _ _ _ c.give_all-2.ensures.after ∙ given_size _ _ _ c.give_all.ensures.after in
    let more : set_of.len c.give_all-2.new.self.free ≡ set_of.len c.self.inside.pool.free + row_count (row_at c.self.inside.rows.items l) = omega (arith, c.give_all.ensures.count, c.give_all-2.ensures.count) in
    let e : c.empty.new.self ≡ emptied_row (row_at c.self.inside.rows.items l) = c.empty.ensures ∙ ap emptied_row is in
    let count : row_count (row_at c.self.inside.rows.items l) ≡ length c.claimed-2.result.now + length c.owned-2.result.now = omega arith in
    let nobody : Unreached c.self.inside.out.items c.self.inside.cleared = subst (λ (b : BookValue). Unreached b.out b.cleared) (sym c.self.view_is) c.requires.nobody in
    let given : (q : ℕ) → IsFree c.give_all-2.new.self q → IsFree c.self.inside.pool q ⊎ ((w : Bool) × (i : ℕ) × (chunk_in c.self.inside.rows.items w l i ≡ Some q)) = λ q free.
    elim (given_free _ _ _ c.give_all-2.ensures.after q free) [
      | inl mid ↦ elim (given_free _ _ _ c.give_all.ensures.after q mid) [
        | inl before ↦ inl before
        | inr back ↦ inr (false, back.0, claimed_at back.0 q back.1)
      ]
      | inr back ↦ inr (true, back.0, owned_at back.0 q back.1)
    ] in
    let chunks : c.claimed.result.now ++ c.owned.result.now ≡ row_chunks (row_at c.self.inside.rows.items l) =
    ap (λ (cs : List ℕ). cs ++ c.owned.result.now) (c.claimed.ensures ∙ ap (λ (r : BookRow). r.claimed) is) ∙ ap (λ (cs : List ℕ). (row_at c.self.inside.rows.items l).claimed ++ cs) (c.owned.ensures ∙ ap (λ (r : BookRow). r.owned) is) in
    let lost : (q : ℕ) → IsFree c.give_all-2.new.self q ⊎ ((IsFree c.self.inside.pool q → ⊥) × (Contains (row_chunks (row_at c.self.inside.rows.items l)) q → ⊥)) = λ q.
    subst (λ (cs : List ℕ). IsFree c.give_all-2.new.self q ⊎ ((IsFree c.self.inside.pool q → ⊥) × (Contains cs q → ⊥))) chunks (given_twice _ _ _ _ _ c.give_all.ensures.after c.give_all-2.ensures.after q) in
    record {
      sound = subst (λ (b : BookRow). IsSound (set c.self.inside.rows.items l b) c.give_all-2.new.self (c.self.inside.held - (length c.claimed-2.result.now + length c.owned-2.result.now)) c.self.inside.order.items (c.self.inside.cleared + 1) c.self.inside.out.items c.self.inside.seats) (sym e)
          (subst (λ m. IsSound (set c.self.inside.rows.items l (emptied_row (row_at c.self.inside.rows.items l))) c.give_all-2.new.self (c.self.inside.held - m) c.self.inside.order.items (c.self.inside.cleared + 1) c.self.inside.out.items c.self.inside.seats) count
          (sound-cleared c.self.inside.rows.items c.self.inside.pool c.give_all-2.new.self c.self.inside.held c.self.inside.order.items c.self.inside.cleared c.self.inside.out.items c.self.inside.seats l c.self.invariant.sound n.next nobody size more given lost));
      sized = sized-set c.self.inside.rows.items l c.empty.new.self c.self.invariant.sized n.low (subst IsSized (sym e) (sized-emptied (row_at c.self.inside.rows.items l) n.was));
      order_room = c.self.invariant.order_room;
      out_room = c.self.invariant.out_room;
      few_lists = c.self.invariant.few_lists;
      few_chunks = omega (arith, size, c.self.invariant.few_chunks);
      few_given = c.self.invariant.few_given;
    }

pub returns : goal.returns
returns c =
    let l : ℕ = c.index-list.result.now in
    let some : c.self.inside.cleared < length c.self.inside.order.items = subst (λ (b : BookValue). b.cleared < length b.order) (sym c.self.view_is) c.requires.some in
    let n : IsNext c.self.inside.rows.items c.self.inside.order.items c.self.inside.cleared l =
    is_next c.self.inside.rows.items c.self.inside.order.items c.self.inside.cleared l c.self.invariant.sound.listed some (c.index-list.ensures ∙ get_or_default_zero c.self.inside.order.items c.self.inside.cleared l some) in
    let is : c.index_mut-row.result.now ≡ row_at c.self.inside.rows.items l = row_is c.self.inside.rows.items l c.index_mut-row.result.now n.low c.index_mut-row.ensures.value in
    let first : length c.claimed.result.now ≡ length (row_at c.self.inside.rows.items l).claimed = ap length (c.claimed.ensures ∙ ap (λ (r : BookRow). r.claimed) is) in
    let second : length c.owned.result.now ≡ length (row_at c.self.inside.rows.items l).owned = ap length (c.owned.ensures ∙ ap (λ (r : BookRow). r.owned) is) in
    let size : c.give_all-2.new.self.size ≡ c.self.inside.pool.size = given_size _ _ _ c.give_all-2.ensures.after ∙ given_size _ _ _ c.give_all.ensures.after in
    let more : set_of.len c.give_all-2.new.self.free ≡ set_of.len c.self.inside.pool.free + row_count (row_at c.self.inside.rows.items l) = omega (arith, c.give_all.ensures.count, c.give_all-2.ensures.count) in
    let e : c.empty.new.self ≡ emptied_row (row_at c.self.inside.rows.items l) = c.empty.ensures ∙ ap emptied_row is in
    cleared_view (book_of c.self.inside) l (set_of.len c.give_all-2.new.self.free) (c.self.inside.cleared + 1) c.give_all-2.new.self.size c.empty.new.self n.place e more (add-one c.self.inside.cleared) size ∙ ap with_next_cleared c.self.view_is
