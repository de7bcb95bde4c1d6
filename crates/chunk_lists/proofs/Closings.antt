-- A list that was shut and swept, in the book and in the ledger.
use Rattle.std.proofs.Common.{◌≡◌, ℕ, ◌+◌, ◌*◌, ◌/◌, ◌%◌, ◌<◌, ◌≤◌, inl, List, [], ◌∷◌, ◌++◌, length, set, refl, sym, ap, ◌∙◌, subst, arith}
use Rattle.std.specs.Prelude.{Option}
use lib.Seq.{set-set}
use Rattle.list_machine.specs.Facts.{IsAt}
use Rattle.list_machine.specs.Steps.{with_stage, opening_leaf}
use Rattle.list_machine.specs.declared.views.Stage.TheVariants.{Swept}
use Rattle.list_machine.specs.declared.views.Leaf.{Leaf}
use Rattle.list_machine.proofs.Lists.{at_below, some_at, total_at}
use Rattle.list_words.specs.Store.{Row, AreMarks, row_in, shut_now, shut_with, found_in}
use Rattle.list_words.specs.declared.leaf_lists.Phase.TheVariants.{Open}
use Rattle.list_book.specs.Books.{BookRow, BookValue, book_row, fresh_row, shut_row, with_shut_list}
use Rattle.list_table.specs.Ledgers.{Knows, IsKept, IsNoted, no_notes, leaf_of, notes_of, shown}
use Rattle.list_table.specs.OwnerMoves.{ledger_after_shut}
use Rattle.list_table.specs.declared.views.Notes.{Notes}
use Rattle.list_table.specs.declared.views.Ledger.{Ledger}
use Rattle.list_table.proofs.Frames.{leaf_at, notes_at}
use Rattle.chunk_lists.specs.Keepers.{claims_at, rows_of, store_of, IsTiedRow, AreTied}
use Rattle.chunk_lists.specs.Sweeps.{AreSwept, items_in}
use Rattle.chunk_lists.proofs.Marking.{leaf_shut}
use Rattle.chunk_lists.proofs.Ties.{OneChanges, set_here, tied_set, store_then, row_is, open_phase}

module _ (lists chunks : ℕ) (g : Ledger) (b : BookValue) (t : AreTied lists chunks g b) (h : Ledger) (l p f m : ℕ) (marked : List (Option ℕ)) (s : AreSwept (ledger_after_shut g l f) h l p f m marked) (lt : l < lists) where
  abbrev after : Leaf
  after = with_stage (leaf_of g l) (Swept p f m)

  abbrev noted : Notes
  noted = record { placed = (notes_of g l).placed; marked = marked }

  leaf_then : with_stage (leaf_of (ledger_after_shut g l f) l) (Swept p f m) ≡ after
  leaf_then = ap (λ (a : Leaf). with_stage a (Swept p f m)) (leaf_shut g l f lists t.leaves lt)

  pub changes : OneChanges g h b (with_shut_list b l) l (shut_row (book_row b l)) after noted
  changes = record {
    rows = refl;
    leaves = ap (λ x. x.leaves) s.book_is ∙ (set-set g.owner.book.leaves l (with_stage (leaf_of g l) (Swept (length g.owner.book.order) f 0)) (with_stage (leaf_of (ledger_after_shut g l f) l) (Swept p f m)) ∙ ap (set g.owner.book.leaves l) leaf_then);
    notes = s.notes_is;
    chunks = refl;
    order = ap (λ x. x.order) s.book_is ∙ ap (λ (os : List ℕ). os ++ l ∷ []) t.order;
    cleared = ap (λ x. x.cleared) s.book_is ∙ t.cleared;
    out = s.out_is ∙ ap (λ (os : List ℕ). os ++ 0 ∷ []) t.out;
    given = refl;
    granted = refl;
  }

  module _ (unshut : (book_row b l).phase ≡ Open) (all : m ≡ f + (book_row b l).used) where
    shut_tied : IsTiedRow (shut_row (book_row b l)) after noted
    shut_tied =
        let one = t.each l lt in let x = open_phase (book_row b l) (leaf_of g l) (notes_of g l) one unshut in record {
          claimed = one.claimed;
          owned = one.owned;
          granted = one.granted;
          phase = inl (p, f, ap (Swept p f) (all ∙ ap (λ (u : ℕ). f + u) (sym x.1)), x.1);
        }

    pub tied_then : AreTied lists chunks h (with_shut_list b l)
    tied_then = tied_set lists chunks g b t h (with_shut_list b l) l (shut_row (book_row b l)) after noted lt shut_tied changes

    -- what the row of the list shows then
    pub found_then : found_in (row_in (rows_of (with_shut_list b l).rows h.notes) l) ≡ items_in marked ++ (notes_of g l).placed
    found_then =
        let notes = set_here g.notes h.notes l noted no_notes s.notes_is (let e = t.notes in omega arith) in
        ap found_in (row_is lists chunks h (with_shut_list b l) tied_then l) ∙ (λ i. items_in (notes i).marked ++ (notes i).placed)

  pub store_shut : (name : List ℕ) → store_of (record { name = name; ledger = h; book = with_shut_list b l }) ≡ shut_now (store_of (record { name = name; ledger = g; book = b })) l marked
  store_shut name = store_then lists chunks g b t name h (with_shut_list b l) l (shut_row (book_row b l)) after noted (λ (r : Row). shut_with r marked) changes refl

-- what the notes show of a list that was swept
module _ (lists chunks : ℕ) (g : Ledger) (b : BookValue) (t : AreTied lists chunks g b) (kept : IsKept g) (l p f : ℕ) (lt : l < lists) (swept : (leaf_of g l).stage ≡ Swept p f (f + (leaf_of g l).used))
    (few : f ≤ 256 * length (book_row b l).claimed) (used : (leaf_of g l).used ≤ 256 * length (book_row b l).owned) where
  as_noted : IsNoted g.owner.facts l (leaf_of g l) (notes_of g l) (Swept p f (f + (leaf_of g l).used))
  as_noted = subst (IsNoted g.owner.facts l (leaf_of g l) (notes_of g l)) swept (kept.noted l (leaf_of g l) (notes_of g l) (leaf_at g lists l t.leaves lt) (notes_at g lists l kept t.leaves lt))

  same_place : {X : Type 0} (xs : List X) (i : ℕ) (x : X) → IsAt xs i x → IsAt xs (256 * (i / 256) + i % 256) x
  same_place xs i x at = let e : i ≡ 256 * (i / 256) + i % 256 = omega arith in subst (λ (k : ℕ). IsAt xs k x) e at

  pub marks_now : AreMarks (λ c k y. Knows g.owner.facts (shown l c k y)) (claims_at (leaf_of g l).stage) (row_in (rows_of b.rows g.notes) l)
  marks_now = let one = t.each l lt in let count : length (notes_of g l).marked ≡ f = as_noted.1.all (omega arith) in
      subst (λ (r : Row). AreMarks (λ c k y. Knows g.owner.facts (shown l c k y)) (claims_at (leaf_of g l).stage) r) (sym (row_is lists chunks g b t l)) (record {
        counted = count ∙ ap claims_at (sym swept);
        claimed = λ i y at.
            let within = at_below (notes_of g l).marked i y at in
            let chunk = some_at (book_row b l).claimed (i / 256) (omega arith) in
            (chunk.0, chunk.1, as_noted.1.known (i / 256) chunk.0 (i % 256) y (subst (λ (cs : List ℕ). IsAt cs (i / 256) chunk.0) (sym one.claimed) chunk.1) (omega arith) (same_place (notes_of g l).marked i y at));
        owned = λ i x at.
            let within = at_below (notes_of g l).placed i x at in
            let placed = as_noted.0.counted in
            let chunk = some_at (book_row b l).owned (i / 256) (omega arith) in
            (chunk.0, chunk.1, as_noted.0.known (i / 256) chunk.0 (i % 256) x (subst (λ (cs : List ℕ). IsAt cs (i / 256) chunk.0) (sym one.owned) chunk.1) (omega arith) (same_place (notes_of g l).placed i x at));
      })

module _ (lists chunks : ℕ) (g : Ledger) (b : BookValue) (t : AreTied lists chunks g b) (h : Ledger) (l p f m : ℕ) (marked : List (Option ℕ)) (s : AreSwept (ledger_after_shut g l f) h l p f m marked) (lt : l < lists)
    (unshut : (book_row b l).phase ≡ Open) (all : m ≡ f + (book_row b l).used) where
  row_then : book_row (with_shut_list b l) l ≡ shut_row (book_row b l)
  row_then = set_here b.rows (with_shut_list b l).rows l (shut_row (book_row b l)) fresh_row refl (let rows = t.rows in omega arith)

  leaf_after : leaf_of h l ≡ with_stage (leaf_of g l) (Swept p f m)
  leaf_after = set_here g.owner.book.leaves h.owner.book.leaves l (with_stage (leaf_of g l) (Swept p f m)) opening_leaf (changes lists chunks g b t h l p f m marked s lt).leaves (let leaves = t.leaves in omega arith)

  pub marks_then : IsKept h → f ≤ 256 * length (book_row b l).claimed → (book_row b l).used ≤ 256 * length (book_row b l).owned
      → AreMarks (λ c k y. Knows h.owner.facts (shown l c k y)) (claims_at (leaf_of h l).stage) (row_in (rows_of (with_shut_list b l).rows h.notes) l)
  marks_then kept few used =
      let was = (open_phase (book_row b l) (leaf_of g l) (notes_of g l) (t.each l lt) unshut).1 in
      let now : (leaf_of h l).used ≡ (book_row b l).used = ap (λ (a : Leaf). a.used) leaf_after ∙ was in
      let claimed : length (book_row (with_shut_list b l) l).claimed ≡ length (book_row b l).claimed = ap (λ (r : BookRow). length r.claimed) row_then in
      let owned : length (book_row (with_shut_list b l) l).owned ≡ length (book_row b l).owned = ap (λ (r : BookRow). length r.owned) row_then in
      marks_now lists chunks h (with_shut_list b l) (tied_then lists chunks g b t h l p f m marked s lt unshut all) kept l p f lt
      (ap (λ (a : Leaf). a.stage) leaf_after ∙ ap (Swept p f) (all ∙ ap (λ (u : ℕ). f + u) (sym now))) (omega (arith, few, claimed)) (omega (arith, now, used, owned))

-- what was granted in one list is less than in all
pub one_given : (lists chunks : ℕ) (g : Ledger) (b : BookValue) → AreTied lists chunks g b → (l : ℕ) → l < lists → (leaf_of g l).granted ≤ b.given
one_given lists chunks g b t l lt = let one = total_at (λ (a : Leaf). a.granted) g.owner.book.leaves l (leaf_of g l) (leaf_at g lists l t.leaves lt) in let all = t.given in omega arith
