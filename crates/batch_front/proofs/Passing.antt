-- What a pass says of its seat, and back.
use Rattle.std.proofs.Common.{◌≡◌, ◌≢◌, ◌≤◌, ◌+◌, ◌↔◌, ℕ, max, Bool, true, false, cond, nat_le, List, [], ◌∷◌, ◌++◌, length, refl, sym, ap, ◌∙◌, subst, arith}
use Rattle.std.specs.Prelude.{Option, Some, None, IsNone, option_map}
use Rattle.cube_math.specs.Batches.{BatchValue}
use Rattle.record_model.specs.Records.{Record, IsPrefix, journal, event_of, publications}
use Rattle.record_model.proofs.RecordLaws.{length-journal}
use Rattle.batch_front.specs.Turns.{Sat, Each, card, pass_view, first_seen, longer, adding, hearer, comparing, IsAway, IsHolding}
use Rattle.batch_front.specs.Passes.{turn_of, taken, first_mine, IsPass, IsNews}
use Rattle.record_model.specs.declared.event.Act.{Act}
use Rattle.record_model.specs.declared.event.Act.TheVariants.{Admitted, Published, Looked}
use Rattle.record_model.specs.declared.event.Event.{Event}
use Rattle.batch_front.specs.declared.rule.Card.{Card}
use Rattle.batch_front.specs.declared.rule.Place.{Place}
use Rattle.batch_front.specs.declared.rule.Place.TheVariants.{Away, Waits, Holds}

away_is : (place : Place) → ((t : ℕ) → place ≢ Waits t) → turn_of place ≡ None → place ≡ Away
away_is Away still e = refl
away_is (Waits t) still e = absurd (still t refl)
away_is (Holds t) still e = absurd (cc)

pub held_is : (place : Place) (t : ℕ) → turn_of place ≡ Some t → place ≡ Holds t
held_is Away t e = absurd (cc)
held_is (Waits x) t e = absurd (cc)
held_is (Holds x) t e = let z : x ≡ t = cc in ap (λ (y : ℕ). Holds y) z

prefix_le : (xs ys : Record) → IsPrefix xs ys → length (journal xs) ≤ length (journal ys)
prefix_le xs ys p = let a = length-journal xs p.0 in let b : length (journal (xs ++ p.0)) ≡ length (journal ys) = ap (λ (l : Record). length (journal l)) p.1 in omega arith

known_longer : (xs ys : Record) → IsPrefix xs (longer xs ys) → IsPrefix ys (longer xs ys) → length (journal (longer xs ys)) ≡ max (length (journal xs)) (length (journal ys))
known_longer xs ys p q = by (nat_le (length ys) (length xs)) p q where
  by : (b : Bool) → IsPrefix xs (cond b xs ys) → IsPrefix ys (cond b xs ys) → length (journal (cond b xs ys)) ≡ max (length (journal xs)) (length (journal ys))
  by true p q = let a = prefix_le ys xs q in omega arith
  by false p q = let a = prefix_le xs ys p in omega arith

-- how many publications an event is
pub one_more : {B : Type 0} (value : B → BatchValue) (act : Act) (batch : Option B) (number : ℕ) → IsNone batch ↔ (act ≡ Looked) → length (journal ((event_of act (option_map value batch), number) ∷ [])) ≡ publications act
one_more value Admitted (Some b) number is = refl
one_more value Published (Some b) number is = refl
one_more value Looked (Some b) number is = refl
one_more value Admitted None number is = refl
one_more value Published None number is = let z : Published ≡ Looked = is.0 refl in absurd (cc)
one_more value Looked None number is = refl

module _ {S V : Type 0} (site : S) (number known : ℕ) (me : Sat S V) (h : IsPass site number known me) where
  abbrev pub own_card : Card S
  own_card = card site number (first_seen me.0.cards) (first_mine me.0.cards)

  pub pass_away : turn_of me.0.place ≡ None → IsAway me
  pass_away e = let a = away_is me.0.place h.still e in (own_card, (λ i. (h.view_is i, h.taken_is i)) ∙ ap (λ (p : Place). (pass_view own_card p, taken p)) a)

  pub pass_holding : (t : ℕ) → turn_of me.0.place ≡ Some t → IsHolding me
  pass_holding t e = let a = held_is me.0.place t e in (own_card, t, (λ i. (h.view_is i, h.taken_is i)) ∙ ap (λ (p : Place). (pass_view own_card p, taken p)) a)

  -- a seat of this form is a pass's
  pub is_pass : (seen : Record) (mine : List Event) (place : Place) (known : ℕ) (m : Sat S V) → ((t : ℕ) → place ≢ Waits t) → length (journal seen) ≡ known → m ≡ (pass_view (card site number seen mine) place, taken place) → IsPass site number known m
  is_pass seen mine place known m still e is = subst (λ (n : Sat S V). IsPass site number known n) (sym is) (record { view_is = refl; taken_is = refl; still = still; known_is = e })

  -- it added an event
  module _ (e : Event) (m : Sat S V) (is : m ≡ (adding me.0 e, me.1)) where
    pub added_is : m ≡ (pass_view (card site number (first_seen me.0.cards ++ (e, number) ∷ []) (first_mine me.0.cards ++ e ∷ [])) me.0.place, taken me.0.place)
    added_is = is ∙ (λ i. (adding (h.view_is i) e, h.taken_is i))

    pub added_pass : (known' : ℕ) → known + length (journal ((e, number) ∷ [])) ≡ known' → IsPass site number known' m
    added_pass known' k = is_pass (first_seen me.0.cards ++ (e, number) ∷ []) (first_mine me.0.cards ++ e ∷ []) me.0.place known' m h.still
        (let a = length-journal (first_seen me.0.cards) ((e, number) ∷ []) in let b = h.known_is in omega arith) added_is

  -- it took in news, and compared them
  module _ (told : ℕ) (w m n : Sat S V) (news : IsNews told w) (joined : m ≡ (hearer me.0 w.0, me.1)) (last : n ≡ (comparing m.0, m.1))
      (begins : Each (λ (c : Card S). IsPrefix c.seen (longer c.seen m.0.told) × IsPrefix m.0.told (longer c.seen m.0.told)) m.0.cards) where
    joined_is : m ≡ (hearer (pass_view own_card me.0.place) w.0, taken me.0.place)
    joined_is = joined ∙ (λ i. (hearer (h.view_is i) w.0, h.taken_is i))

    pub heard_is : n ≡ (pass_view (card site number (longer (first_seen me.0.cards) w.0.told) (first_mine me.0.cards)) me.0.place, taken me.0.place)
    heard_is = last ∙ ap (λ (k : Sat S V). (comparing k.0, k.1)) joined_is

    pub heard_begins : IsPrefix (first_seen me.0.cards) (longer (first_seen me.0.cards) w.0.told) × IsPrefix w.0.told (longer (first_seen me.0.cards) w.0.told)
    heard_begins = (subst (λ (k : Sat S V). Each (λ (c : Card S). IsPrefix c.seen (longer c.seen k.0.told) × IsPrefix k.0.told (longer c.seen k.0.told)) k.0.cards) joined_is begins).0

    pub heard_pass : (known' : ℕ) → known' ≡ max known told → IsPass site number known' n
    heard_pass known' k = is_pass (longer (first_seen me.0.cards) w.0.told) (first_mine me.0.cards) me.0.place known' n h.still
        (let a = known_longer (first_seen me.0.cards) w.0.told heard_begins.0 heard_begins.1 in let b = h.known_is in let d = news.known_is in omega arith) heard_is
