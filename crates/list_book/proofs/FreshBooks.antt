-- A book of lists that were never opened.
use Rattle.std.proofs.Common.{◌≡◌, ℕ, zero, suc, false, List, [], ◌∷◌, map, Some, ap, refl, sym, subst, ◌∙◌}
use Rattle.std.specs.Prelude.{replicate}
use Rattle.std.specs.List.{slice_get}
use Rattle.std.proofs.lemmas.Bool.{lt-ltb}
use Rattle.std.proofs.lemmas.List.{length-replicate}
use Rattle.chunk_pool.specs.Numbers.{all_free}
use Rattle.chunk_pool.proofs.HeapLaws.{contains_all_below}
use Rattle.list_words.specs.PlainRows.{PlainList, no_list}
use Rattle.list_words.specs.PlainKept.{AreHomed, AreSummed, home_of}
use Rattle.list_words.proofs.FreshLaws.{homed-fresh, ordered-fresh, summed-fresh}
use Rattle.list_book.specs.Books.{BookRow, IsOrderOfShut, IsSized, fresh_row, row_at}
use Rattle.list_book.specs.BookKept.{IsSound, bare_list}
use Rattle.list_book.proofs.RowLaws.{shut_is_not_fresh, sized-fresh}

fresh_at : (n l : ℕ) → row_at (replicate n fresh_row) l ≡ fresh_row
fresh_at zero l = refl
fresh_at (suc n) zero = refl
fresh_at (suc n) (suc l) = fresh_at n l

bare-fresh : (n : ℕ) → map bare_list (replicate n fresh_row) ≡ replicate n no_list
bare-fresh zero = refl
bare-fresh (suc n) = ap (λ (ls : List PlainList). no_list ∷ ls) (bare-fresh n)

none : (p l : ℕ) → slice_get [] p ≡ Some l → ⊥
none p l at = cc

listed-fresh : (n : ℕ) → IsOrderOfShut (replicate n fresh_row) [] 0
listed-fresh n = record {
  shut = λ p l at. absurd (none p l at);
  every = λ l shut_now. absurd (shut_is_not_fresh fresh_row (sym (ap (λ (r : BookRow). r.phase) (fresh_at n l)) ∙ shut_now) refl);
  once = λ p q l at there. absurd (none p l at);
  empty = λ p l early at. absurd (none p l at);
}

pub sound-fresh : (lists chunks : ℕ) → IsSound (replicate lists fresh_row) (all_free chunks) 0 [] 0 (0 ∷ []) 0
sound-fresh lists chunks = record {
  homes = replicate chunks (home_of 0 false 0);
  homed = subst (λ (ls : List PlainList). AreHomed ls (replicate chunks (home_of 0 false 0)) (all_free chunks)) (sym (bare-fresh lists))
      (homed-fresh lists chunks (replicate chunks (home_of 0 false 0)) (sym (length-replicate chunks (home_of 0 false 0))));
  summed = subst (λ (ls : List PlainList). AreSummed ls (all_free chunks) 0 0) (sym (bare-fresh lists)) (summed-fresh lists chunks);
  ordered = ordered-fresh (map bare_list (replicate lists fresh_row));
  listed = listed-fresh lists;
}

pub rows_sized : (n l : ℕ) → IsSized (row_at (replicate n fresh_row) l)
rows_sized n l = subst IsSized (sym (fresh_at n l)) sized-fresh
