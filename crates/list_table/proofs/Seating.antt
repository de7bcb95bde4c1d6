-- The views of a ruled table: the owner's stands first, then those of the guests.
use Rattle.std.proofs.Common.{◌≡◌, ℕ, zero, suc, List, [], ◌∷◌, map, sym, refl, ap}
use Rattle.std.specs.Prelude.{Some}
use mathlib.Core.Option.{some, some-injective, some-ne-none}
use lib.ListN.{get_elem?}
use Rattle.list_machine.specs.Facts.{IsAt}
use Rattle.list_machine.specs.declared.views.Guest.{Guest}
use Rattle.list_table.specs.declared.views.Ledger.{Ledger}
use Rattle.list_table.specs.declared.views.View.TheVariants.{Owns, Visits}

visitor_at : (us : List Guest) (j : ℕ) (v : Guest) → get_elem? (map Visits us) j ≡ some (Visits v) → IsAt us j v
visitor_at [] j v e = absurd (some-ne-none (Visits v) (sym e))
visitor_at (u ∷ us) zero v e = let p = some-injective (Visits u) (Visits v) e in ap Some (cc)
visitor_at (u ∷ us) (suc j) v e = visitor_at us j v e

pub guest_at : (g : Ledger) (us : List Guest) (id : ℕ) (v : Guest) → get_elem? (Owns g ∷ map Visits us) id ≡ some (Visits v) → (j : ℕ) × (id ≡ suc j) × IsAt us j v
guest_at g us zero v e = let p = some-injective (Owns g) (Visits v) e in absurd (cc)
guest_at g us (suc j) v e = (j, refl, visitor_at us j v e)

no_owner : (g : Ledger) (us : List Guest) (j : ℕ) → get_elem? (map Visits us) j ≡ some (Owns g) → ⊥
no_owner g [] j e = some-ne-none (Owns g) (sym e)
no_owner g (u ∷ us) zero e = let p = some-injective (Visits u) (Owns g) e in absurd (cc)
no_owner g (u ∷ us) (suc j) e = no_owner g us j e

pub owner_at : (g h : Ledger) (us : List Guest) (id : ℕ) → get_elem? (Owns g ∷ map Visits us) id ≡ some (Owns h) → (id ≡ 0) × (g ≡ h)
owner_at g h us zero e = let p = some-injective (Owns g) (Owns h) e in (refl, cc)
owner_at g h us (suc j) e = absurd (no_owner h us j e)
