use Rattle.std.proofs.Common.{◌≡◌, ℕ, ◌+◌, ◌<◌, ◌≤◌, List, [], ◌∷◌, ◌++◌, length, set, ap, sym, subst, ◌∙◌, arith}
use Rattle.std.proofs.lemmas.List.{length-append, length-set}
use Rattle.list_words.specs.declared.leaf_lists.Phase.TheVariants.{Open}
use Rattle.list_book.specs.Books.{BookRow, BookValue, IsSized, book_row, row_at, row_count, shut_row}
use Rattle.list_book.specs.BookKept.{IsSound}
use Rattle.list_book.proofs.PlaceLaws.{count_few, held_few, order_few}
use Rattle.list_book.proofs.RowLaws.{open_low, row_is, sized-set, sized-shut}
use Rattle.list_book.proofs.SoundLaws.{sound-shut}
use Rattle.list_book.proofs.book.Book.shut.Goals as goal

pub overflow_cast-self : goal.overflow_cast-self
overflow_cast-self c =
    let R : BookRow = row_at c.self.inside.rows.items c.args.list in
    let takes : R.phase ≡ Open = subst (λ (b : BookValue). (book_row b c.args.list).phase ≡ Open) (sym c.self.view_is) c.requires in
    let low : c.args.list < length c.self.inside.rows.items = open_low c.self.inside.rows.items c.args.list takes in
    let is : c.index_mut-row.result.now ≡ R = row_is c.self.inside.rows.items c.args.list c.index_mut-row.result.now low c.index_mut-row.ensures.value in
    let e : c.shut.new.self ≡ shut_row R = c.shut.ensures ∙ ap shut_row is in
    let claimed : length c.claimed.result.now ≡ length R.claimed = ap length (c.claimed.ensures ∙ ap (λ (r : BookRow). r.claimed) e) in
    let owned : length c.owned.result.now ≡ length R.owned = ap length (c.owned.ensures ∙ ap (λ (r : BookRow). r.owned) e) in
    let few : row_count R ≤ c.self.inside.pool.size =
    count_few c.self.inside.rows.items c.self.inside.pool c.self.inside.held c.self.inside.order.items c.self.inside.cleared c.self.inside.out.items c.self.inside.seats c.args.list c.self.invariant.sound low in
    omega (arith, c.self.invariant.few_chunks)

pub overflow_add-self-2 : goal.overflow_add-self-2
overflow_add-self-2 c =
    let R : BookRow = row_at c.self.inside.rows.items c.args.list in
    let takes : R.phase ≡ Open = subst (λ (b : BookValue). (book_row b c.args.list).phase ≡ Open) (sym c.self.view_is) c.requires in
    let low : c.args.list < length c.self.inside.rows.items = open_low c.self.inside.rows.items c.args.list takes in
    let is : c.index_mut-row.result.now ≡ R = row_is c.self.inside.rows.items c.args.list c.index_mut-row.result.now low c.index_mut-row.ensures.value in
    let e : c.shut.new.self ≡ shut_row R = c.shut.ensures ∙ ap shut_row is in
    let claimed : length c.claimed.result.now ≡ length R.claimed = ap length (c.claimed.ensures ∙ ap (λ (r : BookRow). r.claimed) e) in
    let owned : length c.owned.result.now ≡ length R.owned = ap length (c.owned.ensures ∙ ap (λ (r : BookRow). r.owned) e) in
    let after : IsSound (set c.self.inside.rows.items c.args.list c.shut.new.self) c.self.inside.pool (c.self.inside.held + row_count R) (c.self.inside.order.items ++ c.args.list ∷ []) c.self.inside.cleared (c.self.inside.out.items ++ 0 ∷ []) c.self.inside.seats =
    sound-shut c.self.inside.rows.items c.self.inside.pool c.self.inside.held c.self.inside.order.items c.self.inside.cleared c.self.inside.out.items c.self.inside.seats c.args.list c.shut.new.self c.self.invariant.sound takes e in
    let few : c.self.inside.held + row_count R ≤ c.self.inside.pool.size =
    held_few (set c.self.inside.rows.items c.args.list c.shut.new.self) c.self.inside.pool (c.self.inside.held + row_count R) (c.self.inside.order.items ++ c.args.list ∷ []) c.self.inside.cleared (c.self.inside.out.items ++ 0 ∷ []) c.self.inside.seats after in
    omega (arith, c.self.invariant.few_chunks)

pub push_within-requires : goal.push_within-requires
push_within-requires c =
    let R : BookRow = row_at c.self.inside.rows.items c.args.list in
    let takes : R.phase ≡ Open = subst (λ (b : BookValue). (book_row b c.args.list).phase ≡ Open) (sym c.self.view_is) c.requires in
    let low : c.args.list < length c.self.inside.rows.items = open_low c.self.inside.rows.items c.args.list takes in
    let is : c.index_mut-row.result.now ≡ R = row_is c.self.inside.rows.items c.args.list c.index_mut-row.result.now low c.index_mut-row.ensures.value in
    let e : c.shut.new.self ≡ shut_row R = c.shut.ensures ∙ ap shut_row is in
    let after : IsSound (set c.self.inside.rows.items c.args.list c.shut.new.self) c.self.inside.pool (c.self.inside.held + row_count R) (c.self.inside.order.items ++ c.args.list ∷ []) c.self.inside.cleared (c.self.inside.out.items ++ 0 ∷ []) c.self.inside.seats =
    sound-shut c.self.inside.rows.items c.self.inside.pool c.self.inside.held c.self.inside.order.items c.self.inside.cleared c.self.inside.out.items c.self.inside.seats c.args.list c.shut.new.self c.self.invariant.sound takes e in
    let few : length (c.self.inside.order.items ++ c.args.list ∷ []) ≤ length (set c.self.inside.rows.items c.args.list c.shut.new.self) =
    order_few (set c.self.inside.rows.items c.args.list c.shut.new.self) c.self.inside.pool (c.self.inside.held + row_count R) (c.self.inside.order.items ++ c.args.list ∷ []) c.self.inside.cleared (c.self.inside.out.items ++ 0 ∷ []) c.self.inside.seats after in
    omega (arith, few, length-append c.self.inside.order.items (c.args.list ∷ []), length-set c.self.inside.rows.items c.args.list c.shut.new.self, c.self.inside.order.ok.0, c.self.inside.rows.ok.0, c.self.invariant.order_room)

pub push_within-requires-2 : goal.push_within-requires-2
push_within-requires-2 c =
    let R : BookRow = row_at c.self.inside.rows.items c.args.list in
    let takes : R.phase ≡ Open = subst (λ (b : BookValue). (book_row b c.args.list).phase ≡ Open) (sym c.self.view_is) c.requires in
    let low : c.args.list < length c.self.inside.rows.items = open_low c.self.inside.rows.items c.args.list takes in
    let is : c.index_mut-row.result.now ≡ R = row_is c.self.inside.rows.items c.args.list c.index_mut-row.result.now low c.index_mut-row.ensures.value in
    let e : c.shut.new.self ≡ shut_row R = c.shut.ensures ∙ ap shut_row is in
    let after : IsSound (set c.self.inside.rows.items c.args.list c.shut.new.self) c.self.inside.pool (c.self.inside.held + row_count R) (c.self.inside.order.items ++ c.args.list ∷ []) c.self.inside.cleared (c.self.inside.out.items ++ 0 ∷ []) c.self.inside.seats =
    sound-shut c.self.inside.rows.items c.self.inside.pool c.self.inside.held c.self.inside.order.items c.self.inside.cleared c.self.inside.out.items c.self.inside.seats c.args.list c.shut.new.self c.self.invariant.sound takes e in
    let few : length (c.self.inside.order.items ++ c.args.list ∷ []) ≤ length (set c.self.inside.rows.items c.args.list c.shut.new.self) =
    order_few (set c.self.inside.rows.items c.args.list c.shut.new.self) c.self.inside.pool (c.self.inside.held + row_count R) (c.self.inside.order.items ++ c.args.list ∷ []) c.self.inside.cleared (c.self.inside.out.items ++ 0 ∷ []) c.self.inside.seats after in
    omega (arith, few, length-append c.self.inside.order.items (c.args.list ∷ []), length-set c.self.inside.rows.items c.args.list c.shut.new.self, c.self.inside.out.ok.0, c.self.inside.rows.ok.0, c.self.invariant.out_room, c.self.invariant.sound.ordered.births)

pub invariant_of-self : goal.invariant_of-self
invariant_of-self c =
    let R : BookRow = row_at c.self.inside.rows.items c.args.list in
    let takes : R.phase ≡ Open = subst (λ (b : BookValue). (book_row b c.args.list).phase ≡ Open) (sym c.self.view_is) c.requires in
    let low : c.args.list < length c.self.inside.rows.items = open_low c.self.inside.rows.items c.args.list takes in
    let is : c.index_mut-row.result.now ≡ R = row_is c.self.inside.rows.items c.args.list c.index_mut-row.result.now low c.index_mut-row.ensures.value in
    let e : c.shut.new.self ≡ shut_row R = c.shut.ensures ∙ ap shut_row is in
    let claimed : length c.claimed.result.now ≡ length R.claimed = ap length (c.claimed.ensures ∙ ap (λ (r : BookRow). r.claimed) e) in
    let owned : length c.owned.result.now ≡ length R.owned = ap length (c.owned.ensures ∙ ap (λ (r : BookRow). r.owned) e) in
    let count : row_count R ≡ length c.claimed.result.now + length c.owned.result.now = omega arith in
    let rows : List BookRow = set c.self.inside.rows.items c.args.list c.shut.new.self in
    record {
      sound = subst (λ n. IsSound rows c.self.inside.pool (c.self.inside.held + n) c.push_within.new.values.items c.self.inside.cleared c.push_within-2.new.values.items c.self.inside.seats) count
          (subst (λ (xs : List ℕ). IsSound rows c.self.inside.pool (c.self.inside.held + row_count R) xs c.self.inside.cleared c.push_within-2.new.values.items c.self.inside.seats) (sym c.push_within.ensures.items)
          (subst (λ (xs : List ℕ). IsSound rows c.self.inside.pool (c.self.inside.held + row_count R) (c.self.inside.order.items ++ c.args.list ∷ []) c.self.inside.cleared xs c.self.inside.seats) (sym c.push_within-2.ensures.items)
          (sound-shut c.self.inside.rows.items c.self.inside.pool c.self.inside.held c.self.inside.order.items c.self.inside.cleared c.self.inside.out.items c.self.inside.seats c.args.list c.shut.new.self c.self.invariant.sound takes e)));
      sized = sized-set c.self.inside.rows.items c.args.list c.shut.new.self c.self.invariant.sized low (subst IsSized (sym e) (sized-shut R (c.self.invariant.sized c.args.list)));
      order_room = omega (arith, c.self.invariant.order_room, c.push_within.ensures.capacity);
      out_room = omega (arith, c.self.invariant.out_room, c.push_within-2.ensures.capacity);
      few_lists = c.self.invariant.few_lists;
      few_chunks = c.self.invariant.few_chunks;
      few_given = c.self.invariant.few_given;
    }
