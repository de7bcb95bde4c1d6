-- What lists are that are laid out alike.
use Rattle.std.proofs.Common.{◌≡◌, ℕ, ◌<◌, ◌≤◌, List, length, sum, sym, ap, ◌∙◌, subst, arith}
use Rattle.list_words.specs.Store.{Store, one_more, seats_out}
use Rattle.worked_lists.specs.Layouts.{ArePlots, IsLaidOut}

module _ (s : Store) (lists chunks granted seats : ℕ) (laid : IsLaidOut s lists chunks granted seats) where
  -- few are out
  pub few_seats : seats ≤ 65536 → seats_out s < 18446744073709551615
  few_seats few = subst (λ (out : List ℕ). sum out < 18446744073709551615) (sym laid.out) (omega (arith, few))

  -- a reader more changes no list
  pub plots_with_reader : (t : Store) → t ≡ one_more s → ArePlots t 0 chunks
  plots_with_reader t is = subst (λ (u : Store). ArePlots u 0 chunks) (sym is) laid.plots

  pub lists_with_reader : (t : Store) → t ≡ one_more s → length t.rows ≡ lists
  lists_with_reader t is = ap (λ (u : Store). length u.rows) is ∙ laid.lists_are
