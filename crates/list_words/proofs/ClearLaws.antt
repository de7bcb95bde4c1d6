-- Stores in which lists are cleared one after another, in the order in which they were shut.
use Rattle.std.proofs.Common.{◌≡◌, ℕ, zero, suc, ◌+◌, ◌<◌, ◌≤◌, inl, inr, cond, List, [], ◌∷◌, ◌++◌, length, set, get_or, take, drop, ap, refl, sym, subst, ◌∙◌, arith}
use Rattle.std.specs.List.{Contains, sum_by}
use Rattle.std.proofs.lemmas.Bool.{cases_lt}
use Rattle.std.proofs.lemmas.List.{drop-append-le, length-take}
use Rattle.std.proofs.lemmas.List.Sums.{sum_by-set}
use Rattle.std.proofs.Math.Seq.{take-suc}
use Rattle.list_words.specs.Store.{Store, Row, IsReclaimed, Unreached, chunks_of, clear_rows, cleared_store, emptied, held_in, held_of, is_shut, no_row, row_in}
use Rattle.list_words.specs.declared.leaf_lists.Phase.TheVariants.{Shut}

clear_rows-push : (ls : List ℕ) (l : ℕ) (rows : List Row) → clear_rows (ls ++ l ∷ []) rows ≡ set (clear_rows ls rows) l (emptied (row_in (clear_rows ls rows) l))
clear_rows-push [] l rows = refl
clear_rows-push (m ∷ ls) l rows = clear_rows-push ls l (set rows m (emptied (row_in rows m)))

drop_all_taken : (n : ℕ) (xs : List ℕ) → drop n (take n xs) ≡ []
drop_all_taken zero xs = refl
drop_all_taken (suc n) [] = refl
drop_all_taken (suc n) (x ∷ xs) = drop_all_taken n xs

pub contains_last : (l m : ℕ) → m ≡ l → Contains (l ∷ []) m
contains_last l m same = let small : 0 < length (l ∷ []) = omega arith in (0, small, sym same)

-- stores after some of the lists that may be cleared were cleared
pub record IsClearing (s u : Store) : Type 0 where
  pub rises : s.cleared ≤ u.cleared
  pub nobody : (k : ℕ) → s.cleared ≤ k → k < u.cleared → Unreached s.out k
  pub free : u.free + held_of u ≡ s.free + held_of s
  pub rest : u ≡ record s { rows = clear_rows (drop s.cleared (take u.cleared s.order)) s.rows; free = u.free; cleared = u.cleared }

pub clearing_none : (s : Store) → IsClearing s s
clearing_none s = record {
  rises = omega arith;
  nobody = λ k low high. absurd (omega arith);
  free = refl;
  rest = ap (λ (ls : List ℕ). let u : Store = record s { rows = clear_rows ls s.rows } in u) (sym (drop_all_taken s.cleared s.order));
}

pub clearing_more : (s u : Store) → IsClearing s u → u.cleared < length u.order → Unreached u.out u.cleared → (row_in u.rows (get_or u.order u.cleared 0)).phase ≡ Shut → get_or u.order u.cleared 0 < length u.rows → IsClearing s (cleared_store u (get_or u.order u.cleared 0))
clearing_more s u done some nobody shut low =
    let l : ℕ = get_or u.order u.cleared 0 in
    let r : Row = row_in u.rows l in
    let order_is : u.order ≡ s.order = ap (λ (x : Store). x.order) done.rest in
    let out_is : u.out ≡ s.out = ap (λ (x : Store). x.out) done.rest in
    let some_s : u.cleared < length s.order = subst (λ (xs : List ℕ). u.cleared < length xs) order_is some in
    let l_is : get_or s.order u.cleared 0 ≡ l = ap (λ (xs : List ℕ). get_or xs u.cleared 0) (sym order_is) in
    let taken : take (suc u.cleared) s.order ≡ take u.cleared s.order ++ l ∷ [] = take-suc s.order u.cleared 0 some_s ∙ ap (λ k. take u.cleared s.order ++ k ∷ []) l_is in
    let long : s.cleared ≤ length (take u.cleared s.order) = omega (arith, length-take u.cleared s.order, done.rises) in
    let names : drop s.cleared (take (suc u.cleared) s.order) ≡ drop s.cleared (take u.cleared s.order) ++ l ∷ [] = ap (drop s.cleared) taken ∙ drop-append-le s.cleared (take u.cleared s.order) (l ∷ []) long in
    let rows_u : u.rows ≡ clear_rows (drop s.cleared (take u.cleared s.order)) s.rows = ap (λ (x : Store). x.rows) done.rest in
    let rows_new : set u.rows l (emptied r) ≡ clear_rows (drop s.cleared (take (suc u.cleared) s.order)) s.rows =
    ap (λ (rows : List Row). set rows l (emptied (row_in rows l))) rows_u
    ∙ (sym (clear_rows-push (drop s.cleared (take u.cleared s.order)) l s.rows)
    ∙ ap (λ (ls : List ℕ). clear_rows ls s.rows) (sym names)) in
    let sums : sum_by held_in (set u.rows l (emptied r)) + held_in r ≡ sum_by held_in u.rows + held_in (emptied r) = sum_by-set held_in u.rows l (emptied r) no_row low in
    let held_new : held_in (emptied r) ≡ 0 = ap (λ p. cond (is_shut p) 0 0) shut in
    let held_old : held_in r ≡ length (chunks_of r) = ap (λ p. cond (is_shut p) (length (chunks_of r)) 0) shut in
    record {
      rises = omega (arith, done.rises);
      nobody = λ k from below. elim (cases_lt k u.cleared) [
        | inl before ↦ done.nobody k from before
        | inr last ↦ let same : k ≡ u.cleared = omega arith in subst (λ j. Unreached s.out j) (sym same) (subst (λ (xs : List ℕ). Unreached xs u.cleared) out_is nobody)
      ];
      free = omega (arith, done.free, sums, held_new, held_old);
      rest =
          ap (λ (rows : List Row). let x : Store = record u { rows = rows; free = u.free + length (chunks_of r); cleared = suc u.cleared } in x) rows_new
          ∙ ap (λ (x : Store). let y : Store = record x { rows = clear_rows (drop s.cleared (take (suc u.cleared) s.order)) s.rows; free = u.free + length (chunks_of r); cleared = suc u.cleared } in y) done.rest;
    }

pub cleared_all : (s u : Store) → IsClearing s u → u.cleared ≤ length u.order → ((u.cleared < length u.order) × Unreached u.out u.cleared → ⊥) → IsReclaimed s u
cleared_all s u done begun stop =
    let order_is : u.order ≡ s.order = ap (λ (x : Store). x.order) done.rest in
    let out_is : u.out ≡ s.out = ap (λ (x : Store). x.out) done.rest in record {
      to = record {
        rises = done.rises;
        within = subst (λ (xs : List ℕ). u.cleared ≤ length xs) order_is begun;
        nobody = done.nobody;
        stops = λ some nobody. stop (subst (λ (xs : List ℕ). u.cleared < length xs) (sym order_is) some, subst (λ (xs : List ℕ). Unreached xs u.cleared) (sym out_is) nobody);
      };
      free = done.free;
      rest = done.rest;
    }
