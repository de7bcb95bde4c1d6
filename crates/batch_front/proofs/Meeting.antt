-- What the rule says of two seats at once.
use Rattle.std.proofs.Common.{◌≡◌, ◌⊎◌, ℕ, ◌≤◌, inl, inr, List, [], ◌∷◌, length, refl, sym, ap, ◌∙◌, subst, arith}
use Rattle.std.specs.Prelude.{Option, Some}
use mathlib.Core.Logic.{dite}
use native.Mathlib.Decide.{dec_le}
use Rattle.atomic_table.specs.Table.{State}
use Rattle.batch_front.specs.Passes.{turn_of}
use Rattle.record_model.specs.Records.{Record, IsPrefix}
use Rattle.batch_front.specs.Turns.{At, Each, Has, Stands, Kept, first_seen}
use Rattle.batch_front.specs.declared.rule.Card.{Card}
use Rattle.batch_front.specs.declared.rule.Place.{Place}
use Rattle.batch_front.specs.declared.rule.Place.TheVariants.{Holds}
use Rattle.batch_front.specs.declared.rule.View.{View}
use Rattle.batch_front.proofs.Numbers.{prefix_prefix}
use Rattle.batch_front.proofs.Passing.{held_is}

-- of two beginnings of one record one begins the other
one_begins : (xs ys events : Record) → IsPrefix xs events → IsPrefix ys events → IsPrefix xs ys ⊎ IsPrefix ys xs
one_begins xs ys events p q = dite (dec_le (length xs) (length ys)) (λ le. inl (prefix_prefix xs ys events p q le)) (λ ne. inr (prefix_prefix ys xs events q p (omega arith)))

module _ {S V : Type 0} (record_of : V → Record) (site_of : V → S) (site : S) (passes : ℕ) (s : State (Option V) (View S)) (k : Kept record_of site_of site passes s) where
  seen_begins : (cards : List (Card S)) → Each (Stands k.turns.events site) cards → IsPrefix (first_seen cards) k.turns.events
  seen_begins [] all = (k.turns.events, refl)
  seen_begins (c ∷ cs) all = all.0.seen_is

  module _ (j h : ℕ) (v u : View S) (at : At s.views j v) (at' : At s.views h u) where
    pub one_holds : (t x : ℕ) → turn_of v.place ≡ Some t → turn_of u.place ≡ Some x → j ≡ h
    one_holds t x e e' =
        let r = k.turns in
        let mine = held_is v.place t e in
        let other = held_is u.place x e' in
        let now : t ≡ r.served = ((r.seats j v at).holds t mine).0 in
        let now' : x ≡ r.served = ((r.seats h u at').holds x other).0 in
        r.apart j h v u t at at' (has v.place mine) (has u.place (other ∙ ap (λ (y : ℕ). Holds y) (now' ∙ sym now))) where
          has : (p : Place) → p ≡ Holds t → Has p t
          has p is = subst (λ (y : Place). Has y t) (sym is) refl

    pub seen_one : IsPrefix (first_seen v.cards) (first_seen u.cards) ⊎ IsPrefix (first_seen u.cards) (first_seen v.cards)
    seen_one = one_begins (first_seen v.cards) (first_seen u.cards) k.turns.events (seen_begins v.cards (k.turns.seats j v at).cards) (seen_begins u.cards (k.turns.seats h u at').cards)
