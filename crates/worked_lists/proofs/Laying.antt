-- How lists are laid out, one after the other.
use Rattle.std.proofs.Common.{◌≡◌, ℕ, suc, ◌+◌, ◌*◌, ◌<◌, ◌≤◌, List, length, sym, ap, ◌∙◌, subst, arith}
use mathlib.Core.Logic.{dite}
use native.Mathlib.Decide.{ℕ_discrete}
use Rattle.std.proofs.Math.Nat.{suc-mul}
use Rattle.list_words.specs.Store.{Row, Store, no_row, row}
use Rattle.chunk_lists.specs.Knives.{fresh_store}
use Rattle.worked_lists.specs.Layouts.{IsOpenedWith, IsPlot}

-- so many of the lists of a fresh store were opened so, in order
pub record IsPartlyLaidOut (s : Store) (name : List ℕ) (lists chunks opened : ℕ) : Type 0 where
  pub lists_are : length s.rows ≡ lists
  pub plots : (l : ℕ) → l < opened → IsPlot chunks (row s l) × ((row s l).granted ≡ 0)
  pub unopened : (l : ℕ) → opened ≤ l → row s l ≡ no_row
  pub free : s.free + opened * chunks ≡ lists * chunks
  pub rest : s ≡ record (fresh_store name lists (lists * chunks)) { rows = s.rows; free = s.free }

-- one list more
pub partly_more : (s t : Store) (name : List ℕ) (lists chunks n : ℕ) → IsPartlyLaidOut s name lists chunks n → IsOpenedWith s t n chunks → IsPartlyLaidOut t name lists chunks (suc n)
partly_more s t name lists chunks n so_far one = record {
  lists_are = one.lists_are ∙ so_far.lists_are;
  plots = λ l low. dite (ℕ_discrete l n)
      (λ e. (subst (λ k. IsPlot chunks (row t k)) (sym e) one.plot, ap (λ k. (row t k).granted) e ∙ one.granted))
      (λ ne. let before = so_far.plots l (omega arith) in let same = one.others l ne in (subst (IsPlot chunks) (sym same) before.0, ap (λ (r : Row). r.granted) same ∙ before.1));
  unopened = λ l from. one.others l (λ e. omega arith) ∙ so_far.unopened l (omega arith);
  free = let a = so_far.free in let b = one.free in let m = suc-mul n chunks in omega (arith, a, b, m);
  rest = one.rest ∙ ap (λ (v : Store). record v { rows = t.rows; free = t.free }) so_far.rest;
}
