-- A step of the machine is a step of the table that the rule allows.
use Rattle.std.proofs.Common.{◌≡◌, ℕ, suc, ◌<◌, List, [], ◌∷◌, length, get_or, set, length-set, sym, refl, ap, ◌∙◌, subst}
use mathlib.Core.Option.{some}
use lib.ListN.{get_elem?}
use lib.Seq.{map-set}
use Rattle.atomic_table.specs.Table.{keeps, Allows}
use Rattle.list_machine.specs.State.{Words}
use Rattle.list_machine.specs.Facts.{IsAt}
use Rattle.list_machine.specs.Layouts.{words_of}
use Rattle.list_machine.specs.Machine.{State as Seats, Step, Run, none, more, state}
use Rattle.list_machine.specs.Rule.{Sound}
use Rattle.list_machine.specs.declared.views.Guest.{Guest}
use Rattle.list_machine.proofs.Keeping.{run_sound}
use Rattle.list_machine.proofs.Lists.{at_set_same}
use Rattle.list_table.specs.Ledgers.{IsKept}
use Rattle.list_table.specs.Ruled.{Sat, AreSmall, AreNumbered, IsConsistent, IsRuled, IsPossible, IsPossibleGuest, ledger_of, guest_of}
use Rattle.list_table.specs.declared.views.Ledger.{Ledger}
use Rattle.list_table.specs.declared.views.View.{View}
use Rattle.list_table.specs.declared.views.View.TheVariants.{Owns, Visits}
use Rattle.list_table.proofs.Seating.{guest_at, owner_at}

-- one step of the machine
pub one_step : {s t : Seats} → Step s t → Run s t
one_step {s} {t} step = more s t none step

-- a guest's step that writes n at i, after which its view is u
pub record IsGuestStep (lists chunks : ℕ) (words : List ℕ) (g : Ledger) (guests : List Guest) (j i n : ℕ) (u : Guest) : Type 0 where
  pub after : Words
  pub row : words_of lists chunks (set words i n) ≡ after
  pub run : Run (state (words_of lists chunks words) g.owner guests) (state after g.owner (set guests j u))
  pub items : AreSmall after

-- an owner's step that writes n at i, after which its ledger is h
pub record IsOwnerStep (lists chunks : ℕ) (words : List ℕ) (g : Ledger) (guests : List Guest) (i n : ℕ) (h : Ledger) : Type 0 where
  pub after : Words
  pub row : words_of lists chunks (set words i n) ≡ after
  pub run : Run (state (words_of lists chunks words) g.owner guests) (state after h.owner guests)
  pub leaves : length h.owner.book.leaves ≡ length g.owner.book.leaves
  pub numbers : AreNumbered chunks h.owner.book.leaves
  pub items : AreSmall after
  pub kept : IsKept h

pub guest_consistent : (lists chunks : ℕ) (words : List ℕ) (g : Ledger) (guests : List Guest) (j i n : ℕ) (u : Guest) → IsConsistent lists chunks words g guests → IsGuestStep lists chunks words g guests j i n u → IsConsistent lists chunks (set words i n) g (set guests j u)
guest_consistent lists chunks words g guests j i n u c s = record {
  wide = length-set words i n ∙ c.wide;
  leaves = c.leaves;
  numbers = c.numbers;
  items = subst AreSmall (sym s.row) s.items;
  kept = c.kept;
  sound = subst (λ (w : Words). Sound w g.owner (set guests j u)) (sym s.row) (run_sound (state (words_of lists chunks words) g.owner guests) (state s.after g.owner (set guests j u)) c.sound s.run);
}

pub owner_consistent : (lists chunks : ℕ) (words : List ℕ) (g : Ledger) (guests : List Guest) (i n : ℕ) (h : Ledger) → IsConsistent lists chunks words g guests → IsOwnerStep lists chunks words g guests i n h → IsConsistent lists chunks (set words i n) h guests
owner_consistent lists chunks words g guests i n h c s = record {
  wide = length-set words i n ∙ c.wide;
  leaves = s.leaves ∙ c.leaves;
  numbers = s.numbers;
  items = subst AreSmall (sym s.row) s.items;
  kept = s.kept;
  sound = subst (λ (w : Words). Sound w h.owner guests) (sym s.row) (run_sound (state (words_of lists chunks words) g.owner guests) (state s.after h.owner guests) c.sound s.run);
}

-- what a guest's seat is told by a step that tells this of its view
abbrev pub GuestTold : ℕ → ℕ → (ℕ → Guest → Type 0) → ℕ → Sat → Type 0
GuestTold lists chunks told n m = (u : Guest) × (m ≡ (Visits u, [])) × IsPossibleGuest lists chunks u × told n u

-- whatever the words are, the guest has a step that writes f of what stands at i, and tells this
abbrev pub GuestMay : ℕ → ℕ → Guest → ℕ → (ℕ → ℕ) → (ℕ → Guest → Type 0) → Type 0
GuestMay lists chunks v i f told = (words : List ℕ) (g : Ledger) (guests : List Guest) (j : ℕ) → IsConsistent lists chunks words g guests → IsAt guests j v → get_or words i 0 < 18446744073709551616
    → (u : Guest) × IsGuestStep lists chunks words g guests j i (f (get_or words i 0)) u × told (get_or words i 0) u

-- the same of the owner
abbrev pub OwnerTold : ℕ → ℕ → (ℕ → Ledger → Type 0) → ℕ → Sat → Type 0
OwnerTold lists chunks told n m = (h : Ledger) × (m ≡ (Owns h, [])) × IsPossible lists chunks h × told n h

abbrev pub OwnerMay : ℕ → ℕ → Ledger → ℕ → (ℕ → ℕ) → (ℕ → Ledger → Type 0) → Type 0
OwnerMay lists chunks g i f told = (words : List ℕ) (guests : List Guest) → IsConsistent lists chunks words g guests → get_or words i 0 < 18446744073709551616
    → (h : Ledger) × IsOwnerStep lists chunks words g guests i (f (get_or words i 0)) h × told (get_or words i 0) h

guest_allowed : (lists chunks : ℕ) (v : Guest) (i : ℕ) (f : ℕ → ℕ) (told : ℕ → Guest → Type 0) → GuestMay lists chunks v i f told → (slots id : ℕ) → Allows (IsRuled lists chunks) slots id (Visits v, []) i f (GuestTold lists chunks told)
guest_allowed lists chunks v i f told may slots id s r _ at small =
    let g = guest_at r.ledger r.guests id v (subst (λ (vs : List View). get_elem? vs id ≡ some (Visits v)) r.views at) in
    let t = may s.words r.ledger r.guests g.0 r.agrees g.2 small in
    let u : Guest = t.0 in
    let agrees = guest_consistent lists chunks s.words r.ledger r.guests g.0 i (f (get_or s.words i 0)) u r.agrees t.1 in (
      Visits u,
      keeps,
      tt,
      record {
        ledger = r.ledger;
        guests = set r.guests g.0 u;
        views = ap (λ (k : ℕ). set s.views k (Visits u)) g.1 ∙ (ap (λ (vs : List View). set vs (suc g.0) (Visits u)) r.views ∙ ap (λ (vs : List View). Owns r.ledger ∷ vs) (sym (map-set Visits r.guests g.0 u)));
        agrees = agrees;
      },
      (u, refl, record { words = set s.words i (f (get_or s.words i 0)); ledger = r.ledger; guests = set r.guests g.0 u; number = g.0; at = at_set_same r.guests g.0 v u g.2; agrees = agrees }, t.2),
    )

owner_allowed : (lists chunks : ℕ) (g : Ledger) (i : ℕ) (f : ℕ → ℕ) (told : ℕ → Ledger → Type 0) → OwnerMay lists chunks g i f told → (slots id : ℕ) → Allows (IsRuled lists chunks) slots id (Owns g, []) i f (OwnerTold lists chunks told)
owner_allowed lists chunks g i f told may slots id s r _ at small =
    let k = owner_at r.ledger g r.guests id (subst (λ (vs : List View). get_elem? vs id ≡ some (Owns g)) r.views at) in
    let old = subst (λ (x : Ledger). IsConsistent lists chunks s.words x r.guests) k.1 r.agrees in
    let t = may s.words r.guests old small in
    let h : Ledger = t.0 in
    let agrees = owner_consistent lists chunks s.words g r.guests i (f (get_or s.words i 0)) h old t.1 in (
      Owns h,
      keeps,
      tt,
      record {
        ledger = h;
        guests = r.guests;
        views = ap (λ (k : ℕ). set s.views k (Owns h)) k.0 ∙ ap (λ (vs : List View). set vs 0 (Owns h)) r.views;
        agrees = agrees;
      },
      (h, refl, record { words = set s.words i (f (get_or s.words i 0)); guests = r.guests; agrees = agrees }, t.2),
    )

-- the same at the seats, of a word at a place that is i, and of a change that is f
pub guest_steps : (lists chunks : ℕ) (me : Sat) (w i : ℕ) (h f : ℕ → ℕ) (told : ℕ → Guest → Type 0) → w ≡ i → ((n : ℕ) → h n ≡ f n) → me ≡ (Visits (guest_of me.0), []) → GuestMay lists chunks (guest_of me.0) i f told → (slots id : ℕ) → Allows (IsRuled lists chunks) slots id me w h (GuestTold lists chunks told)
guest_steps lists chunks me w i h f told at turns is may slots id = subst (λ (m : Sat). Allows (IsRuled lists chunks) slots id m w h (GuestTold lists chunks told)) (sym is) (guest_allowed lists chunks (guest_of me.0) w h told there slots id) where
  there : GuestMay lists chunks (guest_of me.0) w h told
  there words g guests j c v small =
      let t = subst (λ (k : ℕ). GuestMay lists chunks (guest_of me.0) k f told) (sym at) may words g guests j c v small in
      (t.0, subst (λ (y : ℕ). IsGuestStep lists chunks words g guests j w y t.0) (sym (turns (get_or words w 0))) t.1, t.2)

pub owner_steps : (lists chunks : ℕ) (me : Sat) (w i : ℕ) (h f : ℕ → ℕ) (told : ℕ → Ledger → Type 0) → w ≡ i → ((n : ℕ) → h n ≡ f n) → me ≡ (Owns (ledger_of me.0), []) → OwnerMay lists chunks (ledger_of me.0) i f told → (slots id : ℕ) → Allows (IsRuled lists chunks) slots id me w h (OwnerTold lists chunks told)
owner_steps lists chunks me w i h f told at turns is may slots id = subst (λ (m : Sat). Allows (IsRuled lists chunks) slots id m w h (OwnerTold lists chunks told)) (sym is) (owner_allowed lists chunks (ledger_of me.0) w h told there slots id) where
  there : OwnerMay lists chunks (ledger_of me.0) w h told
  there words guests c small =
      let t = subst (λ (k : ℕ). OwnerMay lists chunks (ledger_of me.0) k f told) (sym at) may words guests c small in
      (t.0, subst (λ (y : ℕ). IsOwnerStep lists chunks words (ledger_of me.0) guests w y t.0) (sym (turns (get_or words w 0))) t.1, t.2)
