-- Grants in the book and in the ledger.
use Rattle.std.proofs.Common.{◌≡◌, ℕ, zero, suc, ◌+◌, ◌*◌, ◌<◌, ◌≤◌, ◌≢◌, Bool, true, false, cond, nat_eq, List, [], ◌∷◌, length, get_or, set, length-set, All, AllPairs, refl, sym, ap, ◌∙◌, subst, arith, eq-eqb, ne_eqb, get_or-set_other}
use mathlib.Core.Logic.{dite}
use native.Mathlib.Decide.{ℕ_discrete, dec_le}
use lib.Seq.{set-get_or}
use Rattle.std.proofs.lemmas.List.Sums.{sum_by-cons}
use Rattle.std.proofs.lemmas.Option.{get_or_from_slice_get}
use Rattle.list_machine.specs.Grants.{granted_in, granted_in_all}
use Rattle.list_machine.specs.Facts.{total}
use Rattle.list_machine.specs.Steps.{with_grant, leaves_after_grants, IsGrantable, opening_leaf}
use Rattle.list_machine.specs.declared.views.Grant.{Grant}
use Rattle.list_machine.specs.declared.views.Leaf.{Leaf}
use Rattle.list_machine.proofs.Seats.{granting_at}
use Rattle.list_words.specs.Store.{Row, MayAdmit, grant_rows, more_granted}
use Rattle.list_words.specs.declared.leaf_lists.Phase.{Phase}
use Rattle.list_words.specs.declared.leaf_lists.Phase.TheVariants.{Fresh, Open, Shut}
use Rattle.list_book.specs.Books.{BookRow, BookValue, book_row, row_at, fresh_row, granted_row, granted_rows, HasSlots, MayGrantAll, with_grants}
use Rattle.list_table.specs.Ledgers.{no_notes, leaf_of, notes_of}
use Rattle.list_table.specs.Ruled.{ledger_after_split}
use Rattle.list_table.specs.declared.views.Notes.{Notes}
use Rattle.list_table.specs.declared.views.Ledger.{Ledger}
use Rattle.list_table.proofs.Frames.{leaf_at}
use Rattle.list_table.proofs.Splits.{granting_length}
use Rattle.chunk_lists.specs.Keepers.{rows_of, store_with, IsInPhase, IsTiedRow, AreTied}
use Rattle.chunk_lists.proofs.Rows.{rows_at, rows_set}
use Rattle.chunk_lists.proofs.Ties.{row_is, phase_is, open_below, open_phase}

-- all of no less
head_of : (P : Grant → Type 0) (x : Grant) (gs : List Grant) → All P (x ∷ gs) → P x
head_of P x gs all = all 0 x (omega arith)

tail_of : (P : Grant → Type 0) (x : Grant) (gs : List Grant) → All P (x ∷ gs) → All P gs
tail_of P x gs all k d lt = all (suc k) d (omega arith)

-- one grant of the list, or none
abbrev one_in : ℕ → Grant → ℕ
one_in l x = cond (nat_eq x.list l) x.n 0

hit : (l : ℕ) (x : Grant) → x.list ≡ l → one_in l x ≡ x.n
hit l x e = ap (λ (b : Bool). cond b x.n 0) (eq-eqb x.list l e)

miss : (l : ℕ) (x : Grant) → x.list ≢ l → one_in l x ≡ 0
miss l x ne = ap (λ (b : Bool). cond b x.n 0) (ne_eqb x.list l ne)

-- no grant of the list
none_left : (l : ℕ) (gs : List Grant) → All (λ (x : Grant). x.list ≢ l) gs → granted_in l gs ≡ 0
none_left l [] all = refl
none_left l (x ∷ gs) all = let a = miss l x (head_of (λ (x : Grant). x.list ≢ l) x gs all) in let r = none_left l gs (tail_of (λ (x : Grant). x.list ≢ l) x gs all) in omega arith

-- what all grants meet holds of the one that has places left in the list, and that one has all of them
pub granted_of : (P : Grant → Type 0) (l : ℕ) (gs : List Grant) → AllPairs (λ (x y : Grant). x.list ≢ y.list) gs → All P gs → 0 < granted_in l gs → (x : Grant) × P x × (x.list ≡ l) × (granted_in l gs ≡ x.n)
granted_of P l [] apart all has = absurd (omega arith)
granted_of P l (x ∷ gs) apart all has = dite (ℕ_discrete x.list l)
    (λ e. let a = hit l x e in let r = none_left l gs (λ k d lt is. apart 0 (suc k) d (omega arith) (omega arith) (e ∙ sym is)) in (x, head_of P x gs all, e, omega arith))
    (λ ne. let a = miss l x ne in let r = granted_of P l gs (λ i j d p q. apart (suc i) (suc j) d (omega arith) (omega arith)) (tail_of P x gs all) (omega arith) in (r.0, r.1, r.2, (let e = r.3 in omega arith)))

module _ (lists chunks : ℕ) (g : Ledger) (b : BookValue) (t : AreTied lists chunks g b) where
  pub may_grant : (name : List ℕ) (gs : List Grant) (r i : ℕ) → MayAdmit (store_with (record { name = name; ledger = g; book = b }) r i) gs → MayGrantAll b gs
  may_grant name gs r i may = record {
    apart = may.apart;
    takes = λ k d lt. let x = may.takes k d lt in record {
      takes = phase_is lists chunks g b t _ Open x.0;
      slots = subst (λ (q : Row). q.granted + (get_or gs k d).n ≤ 256 * length q.claimed) (row_is lists chunks g b t (get_or gs k d).list) x.1;
    };
    few = may.few;
    seats = may.seats;
  }

-- the places that grants give, list by list
module _ (x : Grant) where
  -- those of one grant in so many lists
  abbrev spread : ℕ → List Leaf → ℕ
  spread n [] = 0
  spread n (a ∷ es) = one_in n x + spread (suc n) es

  past : (n : ℕ) (es : List Leaf) → x.list < n → spread n es ≡ 0
  past n [] lt = refl
  past n (a ∷ es) lt = let h = miss n x (λ e. omega arith) in let r = past (suc n) es (omega arith) in omega arith

  within : (n : ℕ) (es : List Leaf) → n ≤ x.list → x.list < n + length es → spread n es ≡ x.n
  within n [] le lt = absurd (omega arith)
  within n (a ∷ es) le lt = dite (ℕ_discrete x.list n)
      (λ e. let h = hit n x e in let r = past (suc n) es (omega arith) in omega arith)
      (λ ne. let h = miss n x ne in let r = within (suc n) es (omega arith) (omega arith) in omega arith)

  one_more_grant : (gs : List Grant) (n : ℕ) (es : List Leaf) → total (λ (a : Leaf). a.granted) (leaves_after_grants n es (x ∷ gs)) ≡ total (λ (a : Leaf). a.granted) (leaves_after_grants n es gs) + spread n es
  one_more_grant gs n [] = refl
  one_more_grant gs n (a ∷ es) = let r = one_more_grant gs (suc n) es in omega arith

no_grant : (n : ℕ) (es : List Leaf) → total (λ (a : Leaf). a.granted) (leaves_after_grants n es []) ≡ total (λ (a : Leaf). a.granted) es
no_grant n [] = refl
no_grant n (a ∷ es) = let r = no_grant (suc n) es in omega arith

total_granted : (es : List Leaf) (gs : List Grant) → All (λ (x : Grant). x.list < length es) gs → total (λ (a : Leaf). a.granted) (leaves_after_grants 0 es gs) ≡ total (λ (a : Leaf). a.granted) es + granted_in_all gs
total_granted es [] all = let r = no_grant 0 es in omega arith
total_granted es (x ∷ gs) all =
    let one = one_more_grant x gs 0 es in
    let low = head_of (λ (x : Grant). x.list < length es) x gs all in let all_of = within x 0 es (omega arith) (omega arith) in
    let rest = total_granted es gs (tail_of (λ (x : Grant). x.list < length es) x gs all) in
    let sum : granted_in_all (x ∷ gs) ≡ x.n + granted_in_all gs = sum_by-cons (λ (h : Grant). h.n) x gs in omega arith

-- the row of a list after grants
row_granted : (gs : List Grant) (rows : List BookRow) (l : ℕ) → l < length rows → row_at (granted_rows gs rows) l ≡ granted_row (row_at rows l) (granted_in l gs)
row_granted [] rows l lt = λ i. record (row_at rows l) { granted = (let e : (row_at rows l).granted ≡ (row_at rows l).granted + 0 = omega arith in e) i }
row_granted (x ∷ gs) rows l lt =
    let r : BookRow = row_at rows x.list in
    let rows' : List BookRow = set rows x.list (granted_row r x.n) in
    row_granted gs rows' l (subst (λ (n : ℕ). l < n) (sym (length-set rows x.list (granted_row r x.n))) lt)
    ∙ dite (ℕ_discrete l x.list)
    (λ e. let here : row_at rows' l ≡ granted_row (row_at rows l) x.n = (λ i. get_or rows' (e i) fresh_row) ∙ (Rattle.std.proofs.Common.get_or-set_same rows x.list (granted_row r x.n) fresh_row (subst (λ (k : ℕ). k < length rows) e lt) ∙ (λ i. granted_row (row_at rows (sym e i)) x.n)) in
    let h = hit l x (sym e) in
    ap (λ (q : BookRow). granted_row q (granted_in l gs)) here
    ∙ (λ i. record (row_at rows l) { granted = (let z : (row_at rows l).granted + x.n + granted_in l gs ≡ (row_at rows l).granted + granted_in l (x ∷ gs) = omega arith in z) i }))
    (λ ne. let there : row_at rows' l ≡ row_at rows l = get_or-set_other rows x.list l (granted_row r x.n) fresh_row ne in
    let h = miss l x (λ is. ne (sym is)) in
    ap (λ (q : BookRow). granted_row q (granted_in l gs)) there
    ∙ (λ i. record (row_at rows l) { granted = (let z : (row_at rows l).granted + granted_in l gs ≡ (row_at rows l).granted + granted_in l (x ∷ gs) = omega arith in z) i }))

rows_long : (gs : List Grant) (rows : List BookRow) → length (granted_rows gs rows) ≡ length rows
rows_long [] rows = refl
rows_long (x ∷ gs) rows = rows_long gs (set rows x.list (granted_row (row_at rows x.list) x.n)) ∙ length-set rows x.list (granted_row (row_at rows x.list) x.n)

-- the rows of the store after grants
pub rows_granted : (gs : List Grant) (rows : List BookRow) (ts : List Notes) → length ts ≡ length rows → rows_of (granted_rows gs rows) ts ≡ grant_rows gs (rows_of rows ts)
rows_granted [] rows ts long = refl
rows_granted (x ∷ gs) rows ts long =
    let r : BookRow = granted_row (row_at rows x.list) x.n in
    rows_granted gs (set rows x.list r) ts (long ∙ sym (length-set rows x.list r))
    ∙ ap (grant_rows gs) ((λ i. rows_of (set rows x.list r) (sym (set-get_or ts x.list no_notes) i))
    ∙ (rows_set rows ts x.list r (get_or ts x.list no_notes) long ∙ ap (λ (q : Row). set (rows_of rows ts) x.list (more_granted q x.n)) (sym (rows_at rows ts x.list long))))

module _ (lists chunks : ℕ) (g : Ledger) (b : BookValue) (t : AreTied lists chunks g b) (gs : List Grant) (may : MayGrantAll b gs) where
  abbrev leaves' : List Leaf
  leaves' = leaves_after_grants 0 g.owner.book.leaves gs

  -- a list in which places are granted is open
  granted_open : (l : ℕ) → 0 < granted_in l gs → ((row_at b.rows l).phase ≡ Open) × ((row_at b.rows l).granted + granted_in l gs ≤ 256 * length (row_at b.rows l).claimed)
  granted_open l has =
      let x = granted_of (HasSlots b) l gs may.apart may.takes has in
      let slots = subst (λ (k : ℕ). (row_at b.rows k).granted + x.0.n ≤ 256 * length (row_at b.rows k).claimed) x.2 x.1.slots in
      let e = x.3 in
      (subst (λ (k : ℕ). (row_at b.rows k).phase ≡ Open) x.2 x.1.takes, omega arith)

  all_below : All (λ (x : Grant). x.list < length g.owner.book.leaves) gs
  all_below k d lt = let low = open_below lists chunks g b t (get_or gs k d).list (may.takes k d lt).takes in let leaves = t.leaves in omega arith

  pub grantable : IsGrantable g.owner.book.leaves gs
  grantable = record {
    lists = λ l has. let x = granted_open l has in
        let low = open_below lists chunks g b t l x.0 in
        let one = t.each l low in
        let granted = one.granted in let claimed : length (leaf_of g l).claimed ≡ length (row_at b.rows l).claimed = ap length one.claimed in let slots = x.1 in
        (leaf_of g l, leaf_at g lists l t.leaves low, (open_phase (book_row b l) (leaf_of g l) (notes_of g l) one x.0).0, omega arith);
    few = let all = total_granted g.owner.book.leaves gs all_below in let given = t.given in let few = may.few in omega arith;
  }

  -- the leaf of a list after grants
  leaf_granted : (l : ℕ) → l < lists → get_or leaves' l opening_leaf ≡ with_grant (leaf_of g l) (granted_in l gs)
  leaf_granted l lt = get_or_from_slice_get leaves' l (with_grant (leaf_of g l) (granted_in l gs)) opening_leaf (granting_at g.owner.book.leaves gs 0 l l (leaf_of g l) (omega arith) (leaf_at g lists l t.leaves lt))

  granted_phase : (p : Phase) (l k : ℕ) (r : BookRow) (a : Leaf) (s : Notes) → (p ≡ Fresh → k ≡ 0) → IsInPhase p r a s → IsInPhase p (granted_row r k) (with_grant a k) s
  granted_phase Fresh l k r a s none x = (subst (λ (n : ℕ). with_grant a n ≡ opening_leaf) (sym (none refl)) ((λ i. with_grant (x.0 i) 0)), x.1)
  granted_phase Open l k r a s none x = x
  granted_phase Shut l k r a s none x = x

  not_granted : (l : ℕ) → (row_at b.rows l).phase ≡ Fresh → granted_in l gs ≡ 0
  not_granted l e = dite (dec_le 1 (granted_in l gs)) (λ has. let no : Fresh ≡ Open = sym e ∙ (granted_open l has).0 in absurd (cc)) (λ n. omega arith)

  pub granted_tied : AreTied lists chunks (ledger_after_split g gs) (with_grants b gs)
  granted_tied = record {
    rows = rows_long gs b.rows ∙ t.rows;
    leaves = granting_length 0 g.owner.book.leaves gs ∙ t.leaves;
    notes = t.notes;
    chunks_is = t.chunks_is;
    order = t.order;
    cleared = t.cleared;
    out = (λ i. set (t.out i) (length (t.order i)) (suc (get_or (t.out i) (length (t.order i)) 0))) ∙ ap (set b.out (length b.order)) (let e : suc (get_or b.out (length b.order) 0) ≡ get_or b.out (length b.order) 0 + 1 = omega arith in e);
    given = total_granted g.owner.book.leaves gs all_below ∙ (let e = t.given in omega arith);
    each = λ l lt. let one = t.each l lt in let k : ℕ = granted_in l gs in
        subst (λ (z : BookRow × Leaf). IsTiedRow z.0 z.1 (notes_of g l)) (λ i. (sym (row_granted gs b.rows l (let rows = t.rows in omega arith)) i, sym (leaf_granted l lt) i)) (record {
          claimed = one.claimed;
          owned = one.owned;
          granted = ap (λ (n : ℕ). n + k) one.granted;
          phase = granted_phase (row_at b.rows l).phase l k (row_at b.rows l) (leaf_of g l) (notes_of g l) (not_granted l) one.phase;
        });
  }
