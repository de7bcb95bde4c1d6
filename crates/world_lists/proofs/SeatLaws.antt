-- Seats, and the guests of a state that they stand for.
use Rattle.std.proofs.Common.{◌≡◌, ℕ, ◌<◌, Bool, true, false, cond, List, map, length, get_or, set, ap, refl, sym, ◌∙◌}
use Rattle.std.proofs.lemmas.List.{get_or_default, map-set}
use Rattle.std.proofs.Math.ListN.{get_or-map}
use Rattle.list_machine.specs.Steps.{nobody}
use Rattle.list_machine.specs.declared.views.Guest.{Guest}
use Rattle.list_machine.specs.declared.views.Unfiled.TheVariants.{Nothing, Place}
use Rattle.list_machine.specs.declared.words.Claimed.{Claimed}
use Rattle.list_machine.specs.declared.words.Claimed.TheVariants.{Index, Shut}
use Rattle.std.proofs.Common.{◌∷◌}
use Rattle.list_machine.specs.Words.{holding}
use Rattle.list_machine.specs.State.{put_slot}
use Rattle.list_machine.specs.Machine.{State}
use Rattle.list_machine.specs.Moves.{filed_if, guest_in}
use Rattle.list_machine.specs.Steps.{guest_with}
use Rattle.list_machine.specs.declared.views.Fact.TheVariants.{Item, Empty}
use Rattle.world_words.specs.WordRows.{words_in}
use Rattle.world_lists.specs.Lists.{ListsValue, Shows}
use Rattle.world_lists.specs.Seats.{bare, place_given, with_claim}

-- a seat is the guest of its number
pub seat_is : (seats guests : List Guest) (j : ℕ) (x : Guest) → seats ≡ map bare guests → j < length seats → x ≡ get_or seats j x → x ≡ bare (get_or guests j nobody)
seat_is seats guests j x is low at = at ∙ get_or_default seats j x nobody low ∙ ap (λ (gs : List Guest). get_or gs j nobody) is ∙ get_or-map bare guests j nobody

-- one seat changed, as its guest did
pub seats-set : (seats guests : List Guest) (j : ℕ) (x y : Guest) → seats ≡ map bare guests → x ≡ bare y → set seats j x ≡ map bare (set guests j y)
seats-set seats guests j x y is e = (λ i. set (is i) j (e i)) ∙ sym (map-set bare guests j y)

-- what a claim gives, by whether the list is shut
pub given_is : (b : Bool) (l n : ℕ) (r : Claimed) → r ≡ cond b Shut (Index n) → place_given l r ≡ cond b Nothing (Place l n)
given_is b l n r is = ap (place_given l) is ∙ cases b
  where
    cases : (b : Bool) → place_given l (cond b Shut (Index n)) ≡ cond b Nothing (Place l n)
    cases true = refl
    cases false = refl

-- the lists after a filing, by whether the slot was blank
pub filing_shown : (b : Bool) (v u : ListsValue) (s : State) (j l c k x : ℕ) (y : Guest) → Shows v s → words_in u.words ≡ cond b (put_slot s.words c k (holding x)) s.words → u.owner ≡ v.owner → u.seats ≡ set v.seats j y
    → y ≡ with_claim (bare (guest_in s j)) Nothing → Shows u (filed_if b s j l c k x)
filing_shown true v u s j l c k x y h words owner seats is = record {
  words = words;
  owner = owner ∙ h.owner;
  guests = seats ∙ seats-set v.seats s.guests j y (guest_with (guest_in s j) Nothing (Item l c k x ∷ (guest_in s j).facts)) h.guests is;
}
filing_shown false v u s j l c k x y h words owner seats is = record {
  words = words;
  owner = owner ∙ h.owner;
  guests = seats ∙ seats-set v.seats s.guests j y (guest_with (guest_in s j) Nothing (Empty l c k ∷ (guest_in s j).facts)) h.guests is;
}
