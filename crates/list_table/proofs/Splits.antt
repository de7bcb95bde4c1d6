-- The owner makes a seat and takes one back: changes of the views that the rule allows.
use Rattle.std.proofs.Common.{◌≡◌, ℕ, suc, ◌+◌, ◌<◌, true, List, [], ◌∷◌, ◌++◌, map, length, set, sym, refl, ap, ◌∙◌, subst}
use mathlib.Core.Option.{some}
use mathlib.Core.List.{map-append}
use lib.ListN.{get_elem?}
use lib.Seq.{map-set}
use Rattle.atomic_table.specs.Table.{Splits, Joins}
use Rattle.list_machine.specs.Grants.{granted_in}
use Rattle.list_machine.specs.Facts.{IsAt, HasChunk}
use Rattle.list_machine.specs.Layouts.{words_of}
use Rattle.list_machine.specs.Machine.{state, splits, joins, none}
use Rattle.list_machine.specs.Steps.{with_grant, leaves_after_grants, newcomer, nobody, IsGrantable}
use Rattle.list_machine.specs.declared.views.Grant.{Grant}
use Rattle.list_machine.specs.declared.views.Fact.{Fact}
use Rattle.list_machine.specs.declared.views.Stage.{Stage}
use Rattle.list_machine.specs.declared.views.Stage.TheVariants.{Open, Swept, Cleared}
use Rattle.list_machine.specs.declared.views.Leaf.{Leaf}
use Rattle.list_machine.specs.declared.views.Guest.{Guest}
use Rattle.list_machine.proofs.Keeping.{step_sound}
use Rattle.list_machine.proofs.Lists.{at_right, at_last}
use Rattle.list_machine.proofs.Seats.{each_granting}
use Rattle.list_table.specs.Ledgers.{IsNoted, AreKept}
use Rattle.list_table.specs.Ruled.{Sat, AreNumbered, IsConsistent, IsRuled, IsPossible, IsPossibleGuest, ledger_of, ledger_after_split, ledger_after_join, admitting, admitted}
use Rattle.list_table.specs.Tables.{IsOwnerSeat, IsGuestSeat}
use Rattle.list_table.specs.declared.views.Notes.{Notes}
use Rattle.list_table.specs.declared.views.Ledger.{Ledger}
use Rattle.list_table.specs.declared.views.View.{View}
use Rattle.list_table.specs.declared.views.View.TheVariants.{Owns, Visits}
use Rattle.list_table.proofs.Frames.{Stay, same_chunks, placed_same, noted_stay, same_row}
use Rattle.list_table.proofs.Seating.{guest_at, owner_at}
use Rattle.list_table.proofs.Steps.{OwnerMay}

-- grants change no chain, no used slot and no stage
noted_granted : (facts : List Fact) (l : ℕ) (a : Leaf) (t : Notes) (n : ℕ) (s : Stage) → IsNoted facts l a t s → IsNoted facts l (with_grant a n) t s
noted_granted facts l a t n Open x = (placed_same facts l a (with_grant a n) t.placed refl refl x.0, x.1)
noted_granted facts l a t n (Swept p f m) x = (placed_same facts l a (with_grant a n) t.placed refl refl x.0, record { some = x.1.some; all = x.1.all; known = x.1.known })
noted_granted facts l a t n (Cleared p m) x = tt

pub granting_length : (n : ℕ) (leaves : List Leaf) (gs : List Grant) → length (leaves_after_grants n leaves gs) ≡ length leaves
granting_length n [] gs = refl
granting_length n (a ∷ es) gs = ap suc (granting_length (suc n) es gs)

numbers_granted : (chunks : ℕ) (leaves : List Leaf) (gs : List Grant) → AreNumbered chunks leaves → AreNumbered chunks (leaves_after_grants 0 leaves gs)
numbers_granted chunks leaves gs s l c e at = each_granting (λ (l : ℕ) (e : Leaf). HasChunk e c → c < chunks) leaves gs 0 (λ i m a is q has. s i c a q (same_chunks a (with_grant a (granted_in m gs)) refl refl c has)) l e at

kept_granted : (leaves : List Leaf) (notes : List Notes) (facts : List Fact) (gs : List Grant) → AreKept leaves notes facts → AreKept (leaves_after_grants 0 leaves gs) notes facts
kept_granted leaves notes facts gs kept = record {
  each_list = kept.each_list ∙ sym (granting_length 0 leaves gs);
  noted = λ l e t at at'. each_granting (λ (l : ℕ) (e : Leaf). (t : Notes) → IsAt notes l t → IsNoted facts l e t e.stage) leaves gs 0 (λ i m a is q t at'. noted_granted facts i a t (granted_in m gs) a.stage (kept.noted i a t q at')) l e at t at';
}

pub split_consistent : (lists chunks : ℕ) (words : List ℕ) (g : Ledger) (guests : List Guest) (gs : List Grant) → IsConsistent lists chunks words g guests → IsGrantable g.owner.book.leaves gs → IsConsistent lists chunks words (ledger_after_split g gs) (guests ++ newcomer g.owner gs ∷ [])
split_consistent lists chunks words g guests gs s fit = record {
  wide = s.wide;
  leaves = granting_length 0 g.owner.book.leaves gs ∙ s.leaves;
  numbers = numbers_granted chunks g.owner.book.leaves gs s.numbers;
  items = s.items;
  kept = kept_granted g.owner.book.leaves g.notes g.owner.facts gs s.kept;
  sound = step_sound (state (words_of lists chunks words) g.owner guests) (state (words_of lists chunks words) (ledger_after_split g gs).owner (guests ++ newcomer g.owner gs ∷ [])) s.sound (splits gs fit);
}

more_facts : (gs facts : List Fact) (l : ℕ) → Stay l facts (gs ++ facts)
more_facts gs facts l f e k = (length gs + k.0, at_right gs facts k.0 f k.1)

join_consistent : (lists chunks : ℕ) (words : List ℕ) (g : Ledger) (guests : List Guest) (j : ℕ) (v : Guest) → IsConsistent lists chunks words g guests → IsAt guests j v → v.out ≡ true → IsConsistent lists chunks words (ledger_after_join g v) (set guests j nobody)
join_consistent lists chunks words g guests j v s at out = record {
  wide = s.wide;
  leaves = s.leaves;
  numbers = s.numbers;
  items = s.items;
  kept = record { each_list = s.kept.each_list; noted = λ l a t at at'. noted_stay g.owner.facts (v.facts ++ g.owner.facts) l a t a.stage (more_facts v.facts g.owner.facts l) (s.kept.noted l a t at at') };
  sound = step_sound (state (words_of lists chunks words) g.owner guests) (state (words_of lists chunks words) (ledger_after_join g v).owner (set guests j nobody)) s.sound (joins j v at out);
}

-- what the owner's and the new guest's seat may be after a split
pub split_possible : (lists chunks : ℕ) (g : Ledger) (gs : List Grant) → IsPossible lists chunks g → IsGrantable g.owner.book.leaves gs → IsPossible lists chunks (ledger_after_split g gs)
split_possible lists chunks g gs p fit = record { words = p.words; guests = p.guests ++ newcomer g.owner gs ∷ []; agrees = split_consistent lists chunks p.words g p.guests gs p.agrees fit }

pub newcomer_possible : (lists chunks : ℕ) (g : Ledger) (gs : List Grant) → IsPossible lists chunks g → IsGrantable g.owner.book.leaves gs → IsPossibleGuest lists chunks (newcomer g.owner gs)
newcomer_possible lists chunks g gs p fit = record {
  words = p.words;
  ledger = ledger_after_split g gs;
  guests = p.guests ++ newcomer g.owner gs ∷ [];
  number = length p.guests;
  at = at_last p.guests (newcomer g.owner gs);
  agrees = split_consistent lists chunks p.words g p.guests gs p.agrees fit;
}

-- a seat is made
pub splits_may : (lists chunks : ℕ) (me : Sat) (gs : List Grant) → me ≡ (Owns (ledger_of me.0), []) → IsGrantable (ledger_of me.0).owner.book.leaves gs → (id : ℕ) → Splits (IsRuled lists chunks) id me.0 (admitting gs me.0) (admitted gs me.0)
splits_may lists chunks me gs is fit id s r at =
    let g : Ledger = ledger_of me.0 in
    let at' : get_elem? (Owns r.ledger ∷ map Visits r.guests) id ≡ some (Owns g) = subst (λ (vs : List View). get_elem? vs id ≡ some (Owns g)) r.views (at ∙ ap (λ (m : Sat). some m.0) is) in
    let k = owner_at r.ledger g r.guests id at' in
    let old : IsConsistent lists chunks s.words g r.guests = subst (λ (x : Ledger). IsConsistent lists chunks s.words x r.guests) k.1 r.agrees in record {
      ledger = ledger_after_split g gs;
      guests = r.guests ++ newcomer g.owner gs ∷ [];
      views = ap (λ (z : List View × ℕ). set z.0 z.1 (Owns (ledger_after_split g gs)) ++ Visits (newcomer g.owner gs) ∷ []) (λ i. (r.views i, k.0 i))
          ∙ ap (λ (vs : List View). Owns (ledger_after_split g gs) ∷ vs) (sym (map-append Visits r.guests (newcomer g.owner gs ∷ [])));
      agrees = split_consistent lists chunks s.words g r.guests gs old fit;
    }

-- a seat is taken back
pub joins_may : (lists chunks : ℕ) (me : Sat) (v : Guest) → me ≡ (Owns (ledger_of me.0), []) → v.out ≡ true → (id other : ℕ) → Joins (IsRuled lists chunks) id me.0 other (Visits v) (Owns (ledger_after_join (ledger_of me.0) v)) (Visits nobody)
joins_may lists chunks me v is out id other s r at ne at2 =
    let g : Ledger = ledger_of me.0 in
    let at' : get_elem? (Owns r.ledger ∷ map Visits r.guests) id ≡ some (Owns g) = subst (λ (vs : List View). get_elem? vs id ≡ some (Owns g)) r.views (at ∙ ap (λ (m : Sat). some m.0) is) in
    let k = owner_at r.ledger g r.guests id at' in
    let old : IsConsistent lists chunks s.words g r.guests = subst (λ (x : Ledger). IsConsistent lists chunks s.words x r.guests) k.1 r.agrees in
    let h : Ledger = ledger_after_join g v in
    let both : set s.views id (Owns h) ≡ Owns h ∷ map Visits r.guests = ap (λ (z : List View × ℕ). set z.0 z.1 (Owns h)) (λ i. (r.views i, k.0 i)) in
    let u = guest_at h r.guests other v (subst (λ (vs : List View). get_elem? vs other ≡ some (Visits v)) both at2) in record {
      ledger = h;
      guests = set r.guests u.0 nobody;
      views = ap (λ (z : List View × ℕ). set z.0 z.1 (Visits nobody)) (λ i. (both i, u.1 i)) ∙ ap (λ (vs : List View). Owns h ∷ vs) (sym (map-set Visits r.guests u.0 nobody));
      agrees = join_consistent lists chunks s.words g r.guests u.0 v old u.2 out;
    }

-- a load that only confirms what the owner knows
pub confirm_may : (lists chunks : ℕ) (g : Ledger) → OwnerMay lists chunks g 0 (λ n. n) (λ _ h. h ≡ g)
confirm_may lists chunks g words guests s small = (
  g,
  record { after = words_of lists chunks words; row = same_row lists chunks words 0; run = none; leaves = refl; numbers = s.numbers; items = s.items; kept = s.kept },
  refl,
)

-- a seat with the owner's ledger, and one with a guest's view
pub owner_seat : (lists chunks : ℕ) (me : Sat) (g : Ledger) → me ≡ (Owns g, []) → IsPossible lists chunks g → IsOwnerSeat lists chunks me
owner_seat lists chunks me g e p = subst (IsOwnerSeat lists chunks) (sym e) (record { seat_is = refl; possible = p })

pub guest_seat : (lists chunks : ℕ) (me : Sat) (v : Guest) → me ≡ (Visits v, []) → IsPossibleGuest lists chunks v → IsGuestSeat lists chunks me
guest_seat lists chunks me v e p = subst (IsGuestSeat lists chunks) (sym e) (record { seat_is = refl; possible = p })
