-- What the worked lists of the tests may do.
use Rattle.std.proofs.Common.{◌≡◌, ℕ, zero, suc, ◌+◌, ◌*◌, ◌<◌, ◌≤◌, ◌/◌, ◌%◌, inl, List, [], ◌∷◌, length, get_or, set, sym, refl, ap, subst, arith}
use Rattle.std.proofs.lemmas.Bool.Decides.{nat_tests}
use Rattle.list_machine.specs.Grants.{granted_in}
use Rattle.list_machine.specs.Facts.{IsAt}
use Rattle.list_machine.specs.Steps.{opening_leaf, with_stage, with_claimed, with_grant, IsGrantable}
use Rattle.list_machine.specs.declared.views.Grant.{Grant}
use Rattle.list_machine.specs.declared.views.Stage.{Stage}
use Rattle.list_machine.specs.declared.views.Stage.TheVariants.{Open, Swept, Cleared}
use Rattle.list_machine.specs.declared.views.Leaf.{Leaf}
use Rattle.list_machine.specs.declared.views.Fact.TheVariants.{Link, Closed}
use Rattle.list_machine.specs.declared.views.LinkWord.TheVariants.{OfList}
use Rattle.list_machine.specs.declared.views.Unfiled.TheVariants.{Place}
use Rattle.list_machine.specs.declared.views.Guest.{Guest}
use Rattle.list_table.specs.GuestMoves.{MayFile, after_read}
use Rattle.list_machine.proofs.Lists.{at_nothing}
use Rattle.list_table.specs.Ledgers.{leaf_of, no_notes}
use Rattle.list_table.specs.OwnerMoves.{ledger_after_shut, MayMark}
use Rattle.list_table.specs.declared.views.Ledger.{Ledger}

-- the grants of one who may claim a place in list 0
abbrev pub one_place : List Grant
one_place = record { list = 0; n = 1 } ∷ []

-- two lists, of which the first has this one chunk in its claimed chain, and so many granted places
abbrev pub one_chunk : ℕ → ℕ → List Leaf
one_chunk c g = with_grant (with_claimed opening_leaf c) g ∷ opening_leaf ∷ []

pub grantable : (c g : ℕ) → g < 256 → IsGrantable (one_chunk c g) one_place
grantable c g few = record { lists = here; few = omega arith } where
  here : (l : ℕ) → 0 < granted_in l one_place → (a : Leaf) × IsAt (one_chunk c g) l a × (a.stage ≡ Open) × (a.granted + granted_in l one_place ≤ 256 * length a.claimed)
  here zero some = (with_grant (with_claimed opening_leaf c) g, refl, refl, omega arith)
  here (suc l) some = absurd (grind (arith, nat_tests))

-- a list that has a chunk has a leaf
changed : (leaves : List Leaf) (t : Stage) (c : ℕ) → IsAt (get_or leaves 0 opening_leaf).claimed 0 c → get_or (set leaves 0 (with_stage (get_or leaves 0 opening_leaf) t)) 0 opening_leaf ≡ with_stage (get_or leaves 0 opening_leaf) t
changed [] t c first = absurd (at_nothing 0 c first)
changed (a ∷ es) t c first = refl

-- the first claimed slot of a list in which a place was claimed is the next to be marked
pub first_mark : (g : Ledger) (c found : ℕ) → 0 < found → IsAt (leaf_of g 0).claimed 0 c → MayMark (ledger_after_shut g 0 found) 0 c 0
first_mark g c found some first =
    let is : leaf_of (ledger_after_shut g 0 found) 0 ≡ with_stage (leaf_of g 0) (Swept (length g.owner.book.order) found 0) = changed g.owner.book.leaves (Swept (length g.owner.book.order) found 0) c first in
    record { place = length g.owner.book.order; found = found; marks = 0; shut = ap (λ (a : Leaf). a.stage) is; here = inl (some, subst (λ (a : Leaf). IsAt a.claimed 0 c) (sym is) first, refl) }

-- one that has read the link of list 0 may file at a place of the first chunk
pub place_read : (v u : Guest) (i c : ℕ) → i < 256 → v.claim ≡ Place 0 i → u ≡ after_read v 0 OfList 0 c → MayFile u 0 i c (i % 256)
place_read v u i c low claim is =
    let first : 0 ≡ i / 256 = omega arith in
    subst (λ (w : Guest). MayFile w 0 i c (i % 256)) (sym is) (claim, (0, OfList, subst (λ (r : ℕ). IsAt (after_read v 0 OfList 0 c).facts 0 (Link 0 OfList r c)) first refl), refl)

-- what the owner knows of two lists, of which the first had this item in the chunk 1, and so many of its words are cleared
abbrev pub clearing : ℕ → ℕ → Ledger
clearing item n = record {
  owner = record { book = record { leaves = record { claimed = []; owned = 1 ∷ []; granted = 0; used = 1; stage = Cleared 0 n } ∷ opening_leaf ∷ []; order = 0 ∷ []; cleared = 1 }; out = 0 ∷ 0 ∷ []; facts = Closed 0 ∷ [] };
  notes = record { placed = item ∷ []; marked = [] } ∷ no_notes ∷ [];
}
