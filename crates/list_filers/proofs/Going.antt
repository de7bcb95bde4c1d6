-- The way of a cursor to the chunk of a place.
use Rattle.std.proofs.Common.{◌≡◌, ℕ, ◌+◌, ◌/◌, ◌≤◌, set, slice_set, sym, refl, ap, ◌∙◌, arith}
use Rattle.list_machine.specs.Facts.{IsAt}
use Rattle.list_machine.specs.declared.views.Unfiled.TheVariants.{Place}
use Rattle.std.specs.Prelude.{Some}
use Rattle.std.proofs.lemmas.List.{set-set}
use Rattle.list_machine.specs.declared.views.Fact.TheVariants.{Link}
use Rattle.list_table.specs.OwnerMoves.{last_link}
use Rattle.list_filers.proofs.Walking.{grows_by}
use Rattle.list_machine.specs.declared.views.Guest.{Guest}
use Rattle.list_machine.proofs.Lists.{set_again, at_set_same, at_same}
use Rattle.list_filers.specs.Cursors.{cursor_at, next_rank, chunk_of}
use Rattle.list_filers.specs.Ways.{WaysValue, IsLater, IsShort, HasReached, after_link}
use Rattle.list_filers.specs.declared.cursors.Cursor.{Cursor}

-- from w the cursor has come this far on its way to the place
pub record IsGoing (w u : WaysValue) (i : ℕ) (a : Cursor) (place : ℕ) : Type 0 where
  pub lists : u.lists ≡ w.lists
  pub later : IsLater w.guest u.guest
  pub claim : u.guest.claim ≡ w.guest.claim
  pub grants : u.guest.grants ≡ w.guest.grants
  pub claimed : w.guest.claim ≡ Place a.list place
  pub here : IsAt u.cursors i a
  pub from : Cursor
  pub was : IsAt w.cursors i from
  pub list : from.list ≡ a.list
  pub cursors : u.cursors ≡ slice_set w.cursors i a
  pub not_past : next_rank a.reached ≤ place / 256 + 1

later_same : (v : Guest) → IsLater v v
later_same v = record { birth = refl; still_out = refl; knows = λ f k. k }

pub later_by : (v u t : Guest) → IsLater v u → IsLater u t → IsLater v t
later_by v u t a b = record { birth = b.birth ∙ a.birth; still_out = b.still_out ∙ a.still_out; knows = λ f k. b.knows f (a.knows f k) }

-- it has not set out
pub sets_out : (w : WaysValue) (i place : ℕ) (a : Cursor) → IsAt w.cursors i a → w.guest.claim ≡ Place a.list place → next_rank a.reached ≤ place / 256 + 1 → IsGoing w w i a place
sets_out w i place a here claimed le = record {
  lists = refl;
  later = later_same w.guest;
  claim = refl;
  grants = refl;
  claimed = claimed;
  here = here;
  from = a;
  was = here;
  list = refl;
  cursors = sym (set_again w.cursors i a here);
  not_past = le;
}

-- the way of the claim leads to the next link
pub is_short : (w u : WaysValue) (i place : ℕ) (a : Cursor) → IsGoing w u i a place → next_rank a.reached ≤ place / 256 → IsShort u.guest a
is_short w u i place a t le = (place, t.claim ∙ t.claimed, omega arith)

-- and it goes on
pub goes_on : (w u : WaysValue) (i place c : ℕ) (a : Cursor) → IsGoing w u i a place → next_rank a.reached ≤ place / 256 → IsGoing w (after_link u i a c) i (cursor_at a.list (next_rank a.reached) c) place
goes_on w u i place c a t le = record {
  lists = t.lists;
  later = later_by w.guest u.guest (after_link u i a c).guest t.later (record { birth = refl; still_out = refl; knows = grows_by (Link a.list (last_link (chunk_of a.reached)) (next_rank a.reached) c) u.guest.facts });
  claim = t.claim;
  grants = t.grants;
  claimed = t.claimed;
  here = at_set_same u.cursors i a (cursor_at a.list (next_rank a.reached) c) t.here;
  from = t.from;
  was = t.was;
  list = t.list;
  cursors = (λ k. set (t.cursors k) i (cursor_at a.list (next_rank a.reached) c)) ∙ set-set w.cursors i a (cursor_at a.list (next_rank a.reached) c);
  not_past = omega arith;
}

-- where its rank is the place's, it has come there
pub has_come : (w u : WaysValue) (i place c : ℕ) (a : Cursor) → IsGoing w u i a place → a.reached ≡ Some (record { rank = place / 256; chunk = c }) → HasReached w u i (place / 256) c
has_come w u i place c a t e = record {
  lists = t.lists;
  later = t.later;
  claim = t.claim;
  grants = t.grants;
  cursors = λ b p. t.cursors ∙ (λ k. set w.cursors i (record { list = (sym t.list ∙ ap (λ (x : Cursor). x.list) (at_same w.cursors i t.from b t.was p)) k; reached = e k }));
}
